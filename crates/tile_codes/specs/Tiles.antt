-- R14.1, R14.2: the 32 bytes of a tile and its 64 colour codes, row by row.
-- Assumes nothing.
use Rattle.std.specs.Prelude.{List, ℕ, ◌+◌, ◌-◌, ◌*◌, ◌/◌, ◌%◌}
use Rattle.laws.specs.Bits.{bit, byte_of}
use Rattle.laws.specs.Table.{table}
use Rattle.picture.specs.Tile.{code_at}

-- the 64 codes of the tile whose bytes start at a in the memory m: pixel k is column k % 8 of line k / 8, and its code is the picture's
unfoldable pub codes_at : (ℕ → ℕ) → ℕ → List ℕ
codes_at m a = table 64 (λ k. code_at m (a + 4 * (k / 8)) (k % 8))

-- the 32 bytes of the tile whose pixel k has the code c k. Byte j is plane j % 4 of line j / 4, the lowest plane first, the leftmost pixel at bit 7
unfoldable pub tile_bytes : (ℕ → ℕ) → List ℕ
tile_bytes c = table 32 (λ j. byte_of (λ b. bit (c (8 * (j / 4) + (7 - b))) (j % 4)))
