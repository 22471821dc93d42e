-- `small::is_set` meets its contract: bit i of a byte.
use mathlib.Core.Path.{refl}
use Rattle.laws.specs.Bits.{bit}
use Rattle.small.proofs.is_set.Goals as goal

pub returns : goal.returns
unfolding bit
returns c = refl
