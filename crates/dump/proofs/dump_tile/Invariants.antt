-- `dump::dump_tile` meets its contract: the eight lines of tile chr, at its place.
use mathlib.Core.Path.{◌≡◌}
use mathlib.Core.List.{List}
use Prim.Native.Nat.{ℕ, ◌+◌, ◌*◌}
use lib.ListN.{length}
use Rattle.dump.specs.Lines.{Dumping}
use Rattle.dump.proofs.dump_tile.Given as goal

abbrev pub invariant-loop-line : goal.invariant-loop-line
invariant-loop-line l = (length l.pixels ≡ length l.initial.pixels)
    × ((base : List ℕ) → Dumping l.vram l.tall l.high l.colours base (8 * l.chr) l.initial.pixels →
    Dumping l.vram l.tall l.high l.colours base (8 * l.chr + l.line) l.pixels)
