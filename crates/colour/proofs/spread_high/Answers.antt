-- `colour::spread_high` meets its contract: its high four bits, spread over a byte.
use Prim.Native.Nat.{◌*◌, ◌/◌}
use lib.Bits.{bit_and, bit_or}
use Rattle.laws.proofs.Sweep.{same}
use Rattle.colour.proofs.spread_high.Goals as goal

pub returns : goal.returns
returns c = same 256 (λ x. bit_or (bit_and (x / 16) 15) (bit_and x 240)) (λ x. 17 * (x / 16)) tt c.args.x c.ranges.x.fits
