-- `pixel::effective_number` meets its contract: the colour number of a pixel of the effective area.
use Rattle.std.proofs.Common.{refl}
use Rattle.laws.specs.Lists.{at}
use Rattle.picture.specs.View.{effective}
use Rattle.picture.specs.Screen.{picture_of}
use Rattle.background.proofs.Views.{effective_x, effective_mark}
use Rattle.pixel.proofs.Laws.{view_number}
use Rattle.pixel.proofs.effective_number.Goals as goal

pub returns : goal.returns
unfolding picture_of effective
returns c =
    let a = c.args in
    λ scroll.
    view_number a.vram.now a.reg (effective (at a.reg) a.row) _ 0 a.row 0 c.names_at.ensures.value effective_x (λ x. refl)
    effective_mark
    a.col c.requires.2 c.column_at.ensures
