-- `tile::solid_of` meets its contract: a bit for each pixel of that line, the leftmost's highest, which is set where the code is not 0.
use Rattle.tile.proofs.Squares.{solid_is}
use Rattle.tile.proofs.solid_of.Goals as goal

pub returns : goal.returns
returns c = solid_is c.args.x
