-- `dump::draw_tileset` meets its contract: all tiles, by the cached colours as they stand.
use mathlib.Core.Path.{◌≡◌}
use Prim.Native.Nat.{◌*◌}
use lib.ListN.{length}
use Rattle.dump.specs.Lines.{Dumping}
use Rattle.dump.proofs.draw_tileset.Given as goal

abbrev pub invariant-loop-chr : goal.invariant-loop-chr
invariant-loop-chr l =
    (length l.pixels ≡ length l.initial.pixels) × Dumping l.vram l.tall l.high l.colours l.initial.pixels (8 * l.chr) l.pixels
