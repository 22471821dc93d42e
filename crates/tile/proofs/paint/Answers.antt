-- `tile::paint` meets its contract: the colours that the first n lanes name, of 16 of the colours, from pixel x of the row on.
use native.Mathlib.Omega.{arith}
use mathlib.Core.Path.{refl, ap, ◌∙◌}
use Prim.Native.Nat.{◌+◌, ◌-◌}
use lib.ListN.{take, drop}
use Rattle.laws.specs.Lists.{at}
use Rattle.laws.specs.Paint.{painted}
use Rattle.laws.proofs.Paint.{painted_step}
use Rattle.tile.proofs.Lanes.{past_zero, past_step, past_lane}
use Rattle.tile.proofs.Whole.{half_length, half_at}
use Rattle.tile.proofs.paint.Goals as goal

pub loop-i-init : goal.loop-i-init
unfolding painted
loop-i-init c = (refl, past_zero _, refl)

pub bounds-some-c : goal.bounds-some-c
bounds-some-c c =
    let a = c.args in
    rw (half_length a.colours.now a.palette c.requires.2, past_lane a.codes c.loop-i.i c.loop-i.invariant.1)
    (c.requires.3 c.loop-i.i (omega arith))

pub loop-i-preserved : goal.loop-i-preserved
loop-i-preserved c =
    let v = c.loop-i.invariant in
    let a = c.args in
    let i = c.loop-i.i in
    let e = ap (at (take (a.palette + 16 - a.palette) (drop a.palette a.colours.now))) (past_lane a.codes i v.1) ∙ half_at a.colours.now
    a.palette _ (c.requires.3 i (omega arith)) in
    (painted_step _ _ _ _ v.0 e c.pixel_set_full.ensures, past_step a.codes i v.1, omega arith)
