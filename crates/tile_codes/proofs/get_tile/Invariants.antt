-- `tile_codes::get_tile` meets its contract: the 64 codes of the tile whose bytes start at `from`, into a buffer of that length.
use mathlib.Core.Path.{◌≡◌}
use lib.ListN.{length}
use lib.Seq.{paste}
use Rattle.laws.specs.Lists.{at}
use Rattle.tile_codes.specs.Tiles.{codes_at}
use Rattle.tile_codes.proofs.get_tile.Given as goal

abbrev pub invariant-loop-k : goal.invariant-loop-k
invariant-loop-k l = (l.codes ≡ paste l.initial.codes 0 (codes_at (at l.src) l.from) l.k) × (length l.codes ≡ 64)
