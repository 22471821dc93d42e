-- `row::background_visible` meets its contract: the background of row `line` of a screen of the visible size: scrolled both ways.
use borrow.Author.Rules.{rules}
use lib.ListN.{get_or}
use mir.Syntax.{w8}
use mir.Val.{Fits}
use mathlib.Core.Path.{refl, ap}
use Prim.Native.Nat.{ℕ, ◌-◌, ◌%◌}
use Rattle.row.proofs.Laws.{scrolled}
use Rattle.row.proofs.background_visible.Goals as goal

pub returns : goal.returns
returns c =
    let a = c.args in
    let fit : Fits w8 (get_or a.reg 8 0) = search rules in
    let b = c.render_background_line-prio.ensures in
    scrolled a.screen a.vram.now a.reg _ _ _ a.scroll a.line a.row.now a.colours.now _ c.requires.4 fit.fits
    c.names_at.ensures.value (ap (λ (k : ℕ). (304 - k) % 256) c.from.ensures) c.cut_of-cut.ensures.value b.row_after
    b.bits_value refl refl refl
