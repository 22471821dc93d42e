-- `tile_codes::any_high` meets its contract: whether a code is above 15.
use mathlib.Core.Path.{◌≡◌}
use lib.Dec.{ltb}
use Rattle.laws.specs.Bits.{any}
use Rattle.laws.specs.Lists.{at}
use Rattle.tile_codes.proofs.any_high.Given as goal

abbrev pub invariant-loop-i : goal.invariant-loop-i
invariant-loop-i l = l.high ≡ any l.i (λ k. ltb 15 (at l.codes k))
