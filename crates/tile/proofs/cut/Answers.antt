-- `tile::cut` meets its contract: n bits of a byte, from bit `start` on.
use Rattle.tile.proofs.Lanes.{cut_is}
use Rattle.tile.proofs.cut.Goals as goal

pub returns : goal.returns
returns c = rw c.from.ensures (cut_is c.args.bits c.args.start c.args.n c.requires)
