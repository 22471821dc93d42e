-- `block_parts::put_colours` meets its contract: the four bytes of each colour, the lowest first, into dst at this place.
use Prim.Native.Nat.{◌*◌}
use mathlib.Core.Path.{◌≡◌}
use lib.Seq.{paste}
use Rattle.block_parts.specs.Parts.{colour_bytes}
use Rattle.block_parts.proofs.put_colours.Given as goal

abbrev pub invariant-loop-i : goal.invariant-loop-i
invariant-loop-i l = (l.dst ≡ paste l.initial.dst l.place (colour_bytes l.colours) (4 * l.i))
