-- R5.2, R5.3: tiles and the map. Memory m and registers g are functions of the place; `at` makes one of a list.
-- Assumes nothing.
use Rattle.std.specs.Prelude.{Bool, cond, ◌&&◌, not, ℕ, ◌+◌, ◌-◌, ◌*◌, ◌/◌, ◌%◌, eqb}
use Rattle.std.specs.Int.Bits.{bit_and}
use Rattle.laws.specs.Bits.{bit, digit}

-- R5.3: the code that bit k of four bytes has
unfoldable pub code_of : ℕ → ℕ → ℕ → ℕ → ℕ → ℕ
code_of b0 b1 b2 b3 k = digit (bit b0 k) + 2 * digit (bit b1 k) + 4 * digit (bit b2 k) + 8 * digit (bit b3 k)

-- the code of pixel p, from the left, of the tile line whose four bytes are at a
unfoldable pub code_at : (ℕ → ℕ) → ℕ → ℕ → ℕ
code_at m a p = code_of (m a) (m (a + 1)) (m (a + 2)) (m (a + 3)) (7 - p)

-- pixel or line k of a tile, the other way round where it is flipped
abbrev pub turned : Bool → ℕ → ℕ
turned flip k = cond flip (7 - k) k

-- R5.2: where the entries start, and where that of the map's pixel (x, y) is
abbrev pub names_at : (ℕ → ℕ) → ℕ
names_at g = bit_and (g 2) 0x0E * 1024

unfoldable pub entry_at : ℕ → ℕ → ℕ → ℕ
entry_at names x y = names + 2 * (32 * (y / 8) + x / 8)

-- the address of line y of the tile with entry bytes lo, hi
unfoldable pub tile_line : ℕ → ℕ → ℕ → ℕ
tile_line lo hi y = 32 * (lo + 256 * digit (bit hi 0)) + 4 * turned (bit hi 2) (y % 8)

-- R5.2, the other bits: the code of the map's pixel with these entry bytes, its colour number (palette 1 is
-- colours 16 to 31, R4.7; code 0 is a colour too, R5.3), and whether it is marked in the priority mask (R5.5)
unfoldable pub entry_code : (ℕ → ℕ) → ℕ → ℕ → ℕ → ℕ → ℕ
entry_code m lo hi x y = code_at m (tile_line lo hi y) (turned (bit hi 1) (x % 8))

unfoldable pub entry_colour : (ℕ → ℕ) → ℕ → ℕ → ℕ → ℕ → ℕ
entry_colour m lo hi x y = 16 * digit (bit hi 3) + entry_code m lo hi x y

unfoldable pub entry_front : (ℕ → ℕ) → ℕ → ℕ → ℕ → ℕ → Bool
entry_front m lo hi x y = bit hi 4 && not (eqb (entry_code m lo hi x y) 0)

-- the same of the map's pixel (x, y)
unfoldable pub map_colour : (ℕ → ℕ) → ℕ → ℕ → ℕ → ℕ
map_colour m names x y = entry_colour m (m (entry_at names x y)) (m (entry_at names x y + 1)) x y

unfoldable pub map_front : (ℕ → ℕ) → ℕ → ℕ → ℕ → Bool
map_front m names x y = entry_front m (m (entry_at names x y)) (m (entry_at names x y + 1)) x y
