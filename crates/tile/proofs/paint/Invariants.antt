-- `tile::paint` meets its contract: the colours that the first n lanes name, of 16 of the colours, from pixel x of the row on.
use mathlib.Core.Path.{◌≡◌}
use Prim.Native.Nat.{◌+◌, ◌*◌, ◌/◌, ◌^◌}
use lib.ListN.{length}
use Rattle.laws.specs.Lists.{at}
use Rattle.laws.specs.Paint.{painted}
use Rattle.tile.specs.Lanes.{lane}
use Rattle.tile.proofs.paint.Given as goal

abbrev pub invariant-loop-i : goal.invariant-loop-i
invariant-loop-i l =
    (l.row ≡ painted l.initial.row l.x l.i (λ k. at l.colours (l.palette + lane l.codes k))) × (l.w ≡ l.codes / 2 ^ (8 * l.i))
    × (length l.row ≡ length l.initial.row)
