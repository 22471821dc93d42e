-- `colour::rgb` meets its contract: the colour of the palette bytes `rg` and `b`, red in its lowest byte.
use Rattle.std.proofs.Common.{rules}
use Rattle.colour.specs.Colour.{colour}
use Rattle.colour.proofs.rgb.Goals as goal

pub returns : goal.returns
unfolding colour
returns c = search rules
