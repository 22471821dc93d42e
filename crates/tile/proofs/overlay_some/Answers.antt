-- `tile::overlay_some` meets its contract: the colours in palette 1 that the first n lanes name, from pixel x of the row on, where `drawn` has their bits.
use native.Mathlib.Omega.{arith}
use mathlib.Core.Path.{refl, ap}
use Prim.Native.Nat.{◌+◌}
use Rattle.laws.specs.Lists.{at}
use Rattle.laws.specs.Paint.{overlaid}
use Rattle.laws.proofs.Paint.{overlaid_step}
use Rattle.tile.proofs.Lanes.{past_zero, past_step, past_lane}
use Rattle.tile.proofs.overlay_some.Goals as goal

pub loop-i-init : goal.loop-i-init
unfolding overlaid
loop-i-init c = (refl, past_zero _, refl)

pub bounds-colours-c : goal.bounds-colours-c
bounds-colours-c c =
    let l = c.requires.3 c.loop-i.i (omega arith) in omega
    (arith, past_lane c.args.codes c.loop-i.i c.loop-i.invariant.1, l)

pub loop-i-preserved : goal.loop-i-preserved
loop-i-preserved c =
    let v = c.loop-i.invariant in
    let a = c.args in
    let i = c.loop-i.i in (
      overlaid_step _ _ _ _ _ v.0 c.is_set.ensures
          (ap (λ k. at a.colours.now (16 + k)) (past_lane a.codes i v.1)) c.pixel_set_if.ensures,
      past_step a.codes i
          v.1,
      omega arith,
    )
