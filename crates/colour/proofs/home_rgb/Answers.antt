-- `colour::home_rgb` meets its contract: the colour of a byte of the home machine's palette, red in its lowest byte.
use Rattle.std.proofs.Common.{rules}
use Rattle.colour.specs.Home.{home_colour}
use Rattle.colour.proofs.home_rgb.Goals as goal

pub returns : goal.returns
unfolding home_colour
returns c = search rules
