-- `pixel::one_column::marks_near` meets its contract: whether a sprite marks one of the places that the column needs.
use Rattle.std.proofs.Common.{◌<◌, refl, arith}
use Rattle.laws.specs.Bits.{number}
use Rattle.laws.proofs.Bits.{number_step}
use Rattle.pixel.proofs.one_column.marks_near.Goals as goal

pub loop-j-init : goal.loop-j-init
unfolding number
loop-j-init c = refl

pub loop-j-preserved : goal.loop-j-preserved
loop-j-preserved c =
    let h : c.loop-j.j < 8 = omega arith in
    number_step _ c.loop-j.j h c.loop-j.invariant c.marks_left.ensures c.mark-bits.ensures
