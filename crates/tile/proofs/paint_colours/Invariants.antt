-- `tile::paint_colours` meets its contract: the colours into a row of 32 pixels.
use mathlib.Core.Path.{◌≡◌}
use lib.ListN.{length}
use Rattle.laws.specs.Lists.{at}
use Rattle.laws.specs.Paint.{painted}
use Rattle.tile.proofs.paint_colours.Given as goal

abbrev pub invariant-loop-i : goal.invariant-loop-i
invariant-loop-i l = (l.row ≡ painted l.initial.row 0 l.i (at l.colours)) × (length l.row ≡ length l.initial.row)
