-- `tile::reversed` meets its contract: the bits of a byte in the other order.
use mathlib.Core.Path.{◌∙◌}
use Rattle.tile.proofs.Lanes.{reversed_is}
use Rattle.tile.proofs.reversed.Goals as goal

pub returns : goal.returns
returns c = c.reverse_bits.ensures ∙ reversed_is c.args.b c.ranges.b.fits
