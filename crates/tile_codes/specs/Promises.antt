-- R14.1 to R14.5: what an author relies on: the way in matches the way out.
-- Assumes nothing.
use Rattle.std.specs.Prelude.{◌≡◌, ◌↔◌, cond, List, ℕ, ◌+◌, ◌*◌, ◌/◌, ◌%◌, ◌<◌, ◌≤◌, length, take, drop, Ok}
use Rattle.laws.specs.Bits.{bit, digit}
use Rattle.laws.specs.Lists.{at, written}
use Rattle.picture.specs.Tile.{code_at, entry_code, turned}
use Rattle.picture.specs.Picture.{tall, sprite_line}
use Rattle.tile_codes.specs.Calls.{write_tile_refusal, tile_written, tile_read}
use Rattle.tile_codes.specs.Sheet.{bad_line, converted}

-- Of an accepted write of codes to tile n: what was drawn is what shows.
pub record Imported (vram : List ℕ) (n : ℕ) (codes : List ℕ) : Type 0 where
  -- the picture's code of pixel x of line y of that tile is the one that was given;
  pub shows : (x y : ℕ) → x < 8 → y < 8 → code_at (at (tile_written vram n codes)) (32 * n + 4 * y) x ≡ at codes (8 * y + x)
  -- so it is in the background, wherever a map entry with bytes lo and hi names the tile, turned as the entry has it,
  pub background :
      (lo hi x y : ℕ) → lo + 256 * digit (bit hi 0) ≡ n
      → entry_code (at (tile_written vram n codes)) lo hi x y ≡ at codes (8 * turned (bit hi 2) (y % 8) + turned (bit hi 1) (x % 8))
  -- and in a sprite on its line d, where its tile, by the registers g, is this one
  pub sprite :
      (g : ℕ → ℕ) (tile d x : ℕ) → x < 8 → cond (bit (g 6) 2) 256 0 + cond (tall g) (tile / 2 * 2 + d / 8) tile ≡ n
      → code_at (at (tile_written vram n codes)) (sprite_line g tile d) x ≡ at codes (8 * (d % 8) + x)
  -- codes written and read come back the same
  pub back : (buffer : List ℕ) → length buffer ≡ 64 → tile_read (tile_written vram n codes) n buffer ≡ codes
  -- no other byte changes
  pub before : (k : ℕ) → k < 32 * n → at (tile_written vram n codes) k ≡ at vram k
  pub behind : (k : ℕ) → 32 * n + 32 ≤ k → at (tile_written vram n codes) k ≡ at vram k
  pub as_long : length (tile_written vram n codes) ≡ length vram

-- Of an accepted read of tile n. What it gave a write takes, and the bytes are the same.
pub record Exported (vram : List ℕ) (n : ℕ) (buffer : List ℕ) : Type 0 where
  pub taken : write_tile_refusal vram n (tile_read vram n buffer) ≡ (Ok tt)
  pub same : tile_written vram n (tile_read vram n buffer) ≡ vram

-- R14.5: a sheet, 1 to 256 tiles, one byte a code
pub record Sheet (s : List ℕ) : Type 0 where
  pub tiles : ℕ
  pub some : 1 ≤ tiles
  pub most : tiles ≤ 256
  pub size : length s ≡ 64 * tiles
  pub low : (k : ℕ) → k < length s → at s k < 16

-- Of the program: `bad` exactly for what is no sheet; of a sheet 32 bytes a tile, and what it writes for tile t is what a write of these codes to any
-- tile stores.
pub record Converts (s : List ℕ) : Type 0 where
  pub bad : (converted s ≡ bad_line) ↔ (Sheet s → ⊥)
  pub long : (h : Sheet s) → length (converted s) ≡ 32 * h.tiles
  pub stored :
      (h : Sheet s) (t : ℕ) → t < h.tiles → (vram : List ℕ) (n : ℕ) → length vram ≡ 16384 → n ≤ 511
      → tile_written vram n (take 64 (drop (64 * t) s)) ≡ written vram (32 * n) (take 32 (drop (32 * t) (converted s)))
