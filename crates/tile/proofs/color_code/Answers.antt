-- `tile::color_code` meets its contract: the code in lane k.
use mathlib.Core.Path.{refl}
use Rattle.tile.specs.Lanes.{lane}
use Rattle.tile.proofs.color_code.Goals as goal

pub returns : goal.returns
unfolding lane
returns c = refl
