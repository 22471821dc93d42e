-- `tile::exchanged` meets its contract: the bits of x that are s places apart, exchanged where m has the lower of the two.
use mathlib.Core.Path.{refl}
use Rattle.tile.specs.Lanes.{exchange}
use Rattle.tile.proofs.exchanged.Goals as goal

pub returns : goal.returns
unfolding exchange
returns c = refl
