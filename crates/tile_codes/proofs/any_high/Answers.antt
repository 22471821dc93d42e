-- `tile_codes::any_high` meets its contract: whether a code is above 15.
use mathlib.Core.Path.{◌≡◌, refl, ◌∙◌, ap}
use native.Mathlib.Omega.{arith}
use lib.Dec.{ltb}
use lib.ListN.{length}
use Rattle.laws.specs.Bits.{any}
use Rattle.laws.specs.Lists.{at}
use Rattle.tile_codes.specs.Calls.{any_high}
use Rattle.tile_codes.proofs.Loops.{any_step}
use Rattle.tile_codes.proofs.any_high.Goals as goal

pub loop-i-init : goal.loop-i-init
unfolding any
loop-i-init c = refl

pub loop-i-preserved : goal.loop-i-preserved
loop-i-preserved c = any_step (λ k. ltb 15 (at c.args.codes.now k)) c.loop-i.i c.loop-i.invariant

pub returns : goal.returns
unfolding any_high
returns c =
    let e : c.loop-i.i ≡ length c.args.codes.now = omega arith in
    c.loop-i.invariant ∙ ap (λ (n : _). any n (λ k. ltb 15 (at c.args.codes.now k))) e
