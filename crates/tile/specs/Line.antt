-- What a tile's line gives, column by column.
-- Assumes nothing.
use Rattle.std.specs.Prelude.{Bool, ◌&&◌, not, List, ℕ, ◌+◌, ◌*◌, ◌/◌, ◌%◌, eqb, ltb}
use Rattle.laws.specs.Bits.{bit}
use Rattle.laws.specs.Lists.{at}
use Rattle.laws.specs.Paint.{byte_of_colour, four_at}
use Rattle.laws.specs.Table.{table}
use Rattle.picture.specs.Tile.{code_at, turned}
use Rattle.picture.specs.Picture.{solid}

-- the 32 colours as bytes, four to each, the lowest first, and the colours of such bytes
unfoldable pub colour_bytes : List ℕ → List ℕ
colour_bytes colours = table 128 (λ k. byte_of_colour (at colours (k / 4)) (k % 4))

unfoldable pub colours_in : List ℕ → List ℕ
colours_in bytes = table 32 (λ i. four_at bytes (i * 4))

-- a background line: the code of its column i, its colour, and whether it is not of code 0
abbrev pub line_code : List ℕ → ℕ → Bool → ℕ → ℕ → ℕ
line_code vram addr flip start i = code_at (at vram) addr (turned flip (start + i))

abbrev pub line_colour : List ℕ → ℕ → List ℕ → ℕ → Bool → ℕ → ℕ → ℕ
line_colour colours palette vram addr flip start i = at colours (palette + line_code vram addr flip start i)

abbrev pub line_solid : List ℕ → ℕ → Bool → ℕ → ℕ → Bool
line_solid vram addr flip start i = not (eqb (line_code vram addr flip start i) 0)

-- R5.11, R6.2, a sprite's line: its column k is marked where its code is not 0 and bit k of `held` is clear, drawn where bit k of `taken` is clear too and it
-- lies in the row, and held back where its code is not 0 and bit k of `held` is set
unfoldable pub line_marked : List ℕ → ℕ → ℕ → ℕ → ℕ → ℕ → Bool
line_marked vram addr start end held k = solid start end (code_at (at vram) addr) k && not (bit held k)

unfoldable pub line_drawn : List ℕ → ℕ → ℕ → ℕ → ℕ → ℕ → ℕ → ℕ → ℕ → Bool
line_drawn vram addr start end held taken width x k = (line_marked vram addr start end held k && not (bit taken k)) && ltb (x + k) width

unfoldable pub line_held : List ℕ → ℕ → ℕ → ℕ → ℕ → ℕ → Bool
line_held vram addr start end held k = solid start end (code_at (at vram) addr) k && bit held k

-- the colour of its column k: sprites have palette 1
abbrev pub sprite_colour : List ℕ → List ℕ → ℕ → ℕ → ℕ → ℕ
sprite_colour colours vram addr start k = at colours (16 + code_at (at vram) addr (start + k))
