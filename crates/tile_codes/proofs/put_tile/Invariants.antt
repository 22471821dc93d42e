-- `tile_codes::put_tile` meets its contract: the 32 bytes of the tile whose codes start at `from`, into dst at `to`.
use Prim.Native.Nat.{◌+◌}
use mathlib.Core.Path.{◌≡◌}
use lib.ListN.{length}
use lib.Seq.{paste}
use Rattle.laws.specs.Lists.{at}
use Rattle.tile_codes.specs.Tiles.{tile_bytes}
use Rattle.tile_codes.proofs.put_tile.Given as goal

abbrev pub invariant-loop-j : goal.invariant-loop-j
invariant-loop-j l = (l.dst ≡ paste l.initial.dst l.to (tile_bytes (λ k. at l.codes (l.from + k))) l.j) × (length l.dst ≡ length l.initial.dst)
