-- R5.13 to R5.15, the tile dump: 512 tiles on a sheet, 256 of them as background and 256 as sprites.
-- `tall` is register 1 bit 1, `high` register 6 bit 2.
-- Assumes nothing.
use Rattle.std.specs.Prelude.{Bool, cond, ◌&&◌, List, ℕ, ◌+◌, ◌*◌, ◌/◌, ◌%◌, eqb, leb}
use Rattle.laws.specs.Bits.{bit}
use Rattle.laws.specs.Lists.{at}
use Rattle.laws.specs.Paint.{byte_of_colour}
use Rattle.laws.specs.Table.{table}
use Rattle.picture.specs.Tile.{code_at}

-- tiles from 256 on are sprites
abbrev pub is_sprite : ℕ → Bool
is_sprite c = leb 256 c

-- R5.14: tiles of sprites 16 high in pairs, one below the other, all others 16 across: where tile c of 0 to 511 stands
unfoldable pub tile_column : Bool → ℕ → ℕ
tile_column tall c = cond (tall && is_sprite c) (c % 32 / 2) (c % 16)

unfoldable pub tile_row : Bool → ℕ → ℕ
tile_row tall c = cond (tall && is_sprite c) (2 * (c / 32) + c % 2) (c / 16)

-- so this tile stands at column i of row j (each from the other: proofs/Places.antt)
unfoldable pub tile_at : Bool → ℕ → ℕ → ℕ
tile_at tall i j = cond (tall && leb 16 j) (32 * (j / 2) + 2 * i + j % 2) (16 * j + i)

-- the address of line l of tile c: number c mod 256, of a sprite from the pattern base of R5.8 on
unfoldable pub line_at : Bool → ℕ → ℕ → ℕ
line_at high c l = cond (is_sprite c && high) 8192 0 + 32 * (c % 256) + 4 * l

-- R5.13: byte b of a pixel with this code, where `old` was: as background in palette 0; as a sprite in palette 1, and code 0 leaves the pixel
unfoldable pub pixel_byte : List ℕ → Bool → ℕ → ℕ → ℕ → ℕ
pixel_byte colours sprite code b old = cond sprite (cond (eqb code 0) old (byte_of_colour (at colours (16 + code)) b)) (byte_of_colour (at colours code) b)

-- byte b of pixel (x, y) of the dump of the memory m
unfoldable pub dump_byte : (ℕ → ℕ) → Bool → Bool → List ℕ → ℕ → ℕ → ℕ → ℕ → ℕ
dump_byte m tall high colours x y b old =
    let c = tile_at tall (x / 8) (y / 8) in
    pixel_byte colours (is_sprite c) (code_at m (line_at high c (y % 8)) (x % 8)) b old

-- the bytes of a sheet
abbrev pub dump_size : ℕ
dump_size = 131072

-- the bytes after the dump: byte k is byte k mod 4 of pixel k div 4, in rows of 128 pixels, by the colours that it is given (R5.15)
unfoldable pub dumped : List ℕ → List ℕ → List ℕ → List ℕ → List ℕ
dumped vram reg colours pixels =
    table dump_size (λ k. dump_byte (at vram) (bit (at reg 1) 1) (bit (at reg 6) 2) colours (k / 4 % 128) (k / 4 / 128) (k % 4) (at pixels k))
