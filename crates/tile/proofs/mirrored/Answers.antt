-- `tile::mirrored` meets its contract: the lanes in the other order.
use mathlib.Core.Path.{◌∙◌}
use Rattle.tile.proofs.Lanes.{mirrored_is}
use Rattle.tile.proofs.mirrored.Goals as goal

pub returns : goal.returns
returns c = c.swap_bytes.ensures ∙ mirrored_is c.args.w
