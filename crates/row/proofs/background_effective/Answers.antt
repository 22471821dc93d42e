-- `row::background_effective` meets its contract: the background of row `line` of the effective area: the map is the screen, whatever the scroll.
use mathlib.Core.Path.{refl, ◌∙◌}
use Rattle.laws.specs.Lists.{at}
use Rattle.picture.specs.View.{View, effective}
use Rattle.background.proofs.Views.{effective_x, effective_mark}
use Rattle.row.proofs.Laws.{back_is, front_is}
use Rattle.row.proofs.background_effective.Goals as goal

pub returns : goal.returns
unfolding effective
returns c =
    let a = c.args in
    let v : View = effective (at a.reg) a.line in
    let b = c.render_background_line-prio.ensures in
    let e = c.names_at.ensures.value in
    λ scroll.
    record {
      bytes = b.row_after ∙ back_is a.vram.now a.reg v _ 0 a.line e effective_x (λ x. refl) 0 effective_mark a.row.now a.colours.now;
      mask = b.bits_value ∙ front_is a.vram.now a.reg v _ 0 a.line e effective_x (λ x. refl) 0 effective_mark;
      wide = refl;
      below = refl;
      fill = refl;
    }
