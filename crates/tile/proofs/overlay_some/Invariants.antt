-- `tile::overlay_some` meets its contract: the colours in palette 1 that the first n lanes name, from pixel x of the row on, where `drawn` has their bits.
use mathlib.Core.Path.{◌≡◌}
use Prim.Native.Nat.{◌+◌, ◌*◌, ◌/◌, ◌^◌}
use lib.ListN.{length}
use Rattle.laws.specs.Bits.{bit}
use Rattle.laws.specs.Lists.{at}
use Rattle.laws.specs.Paint.{overlaid}
use Rattle.tile.specs.Lanes.{lane}
use Rattle.tile.proofs.overlay_some.Given as goal

abbrev pub invariant-loop-i : goal.invariant-loop-i
invariant-loop-i l =
    (l.row ≡ overlaid l.initial.row l.x l.i (bit l.drawn) (λ k. at l.colours (16 + lane l.codes k))) × (l.w ≡ l.codes / 2 ^ (8 * l.i))
    × (length l.row ≡ length l.initial.row)
