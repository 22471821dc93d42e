-- `row::background_home` meets its contract: the background of row `line` of the home machine: scrolled both ways but where a lock holds.
use borrow.Author.Rules.{rules}
use mathlib.Core.Path.{refl, ◌∙◌}
use lib.ListN.{get_or}
use mir.Syntax.{w8}
use mir.Val.{Fits}
use Rattle.picture.specs.View.{home}
use Rattle.row.proofs.Home.{home_back, home_front}
use Rattle.row.proofs.background_home.Goals as goal

pub returns : goal.returns
unfolding home
returns c =
    let a = c.args in
    let fit : Fits w8 (get_or a.reg 8 0) = search rules in
    let b = c.home_background-prio.ensures in
    record {
      bytes = b.row_after ∙ home_back a.vram.now a.reg _ _ _ _ a.scroll a.line fit.fits c.names_at.ensures.value
          c.home_column-sx.ensures.value refl
          c.home_line-last.ensures a.row.now a.colours.now;
      mask = b.bits_value ∙ home_front a.vram.now a.reg _ _ _ _ a.scroll a.line fit.fits c.names_at.ensures.value
          c.home_column-sx.ensures.value refl
          c.home_line-last.ensures;
      wide = refl;
      below = refl;
      fill = c.is_set.ensures;
    }
