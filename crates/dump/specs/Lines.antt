-- The dump on its way: tile by tile, and of each tile line by line.
-- Assumes nothing.
use Rattle.std.specs.Prelude.{◌≡◌, Bool, cond, List, ℕ, ◌+◌, ◌*◌, ◌/◌, ◌%◌, ◌<◌, ltb}
use Rattle.laws.specs.Lists.{at}
use Rattle.dump.specs.Dump.{tile_at, dump_byte, dump_size}

-- the number of the tile line that byte k is in, of 4,096: line l of tile c is number 8c + l
unfoldable pub line_number : Bool → ℕ → ℕ
line_number tall k = 8 * tile_at tall (k / 4 % 128 / 8) (k / 4 / 128 / 8) + k / 4 / 128 % 8

-- `now` is what the first t tile lines make of the bytes `pixels`
pub record Dumping (vram : List ℕ) (tall high : Bool) (colours pixels : List ℕ) (t : ℕ) (now : List ℕ) : Type 0 where
  pub byte :
      (k : ℕ) → k < dump_size →
      at now k ≡ cond (ltb (line_number tall k) t) (dump_byte (at vram) tall high colours (k / 4 % 128) (k / 4 / 128) (k % 4) (at pixels k)) (at pixels k)
