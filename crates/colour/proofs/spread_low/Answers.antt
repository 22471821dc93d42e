-- `colour::spread_low` meets its contract: the low four bits of a palette byte, spread over a byte.
use Prim.Native.Nat.{◌*◌, ◌%◌}
use lib.Bits.{bit_and, bit_or}
use Rattle.laws.proofs.Sweep.{same}
use Rattle.colour.proofs.spread_low.Goals as goal

pub returns : goal.returns
returns c = same 256 (λ x. bit_or (bit_and x 15) (bit_and (x * 16 % 256) 240)) (λ x. 17 * (x % 16)) tt c.args.x c.ranges.x.fits
