-- R14.3, R14.4: what the way in and the way out answer and leave.
-- Assumes nothing.
use Rattle.std.specs.Prelude.{◌≡◌, Bool, cond, not, List, [], ◌∷◌, ℕ, ◌*◌, eqb, leb, ltb, length, Err}
use Rattle.laws.specs.Bits.{any}
use Rattle.laws.specs.Lists.{at, written}
use Rattle.refusal.specs.declared.Refusal.TheVariants.{VramLength, UnknownTile, CodesLength, HighCode}
use Rattle.refusal.specs.Refusals.{refusal_number, whole, Line, line, first, Outcome}
use Rattle.tile_codes.specs.Tiles.{codes_at, tile_bytes}

-- some code is above 15
unfoldable pub any_high : List ℕ → Bool
any_high codes = any (length codes) (λ k. ltb 15 (at codes k))

-- ---- R2.1, R14.3, R14.4: the lines of the table that the two calls can meet, in this order
abbrev pub read_tile_lines : List ℕ → ℕ → ℕ → List Line
read_tile_lines vram n size =
    line (not (whole vram)) (Err VramLength) ∷ line (not (leb n 511)) (Err UnknownTile) ∷ line (not (eqb size 64)) (Err CodesLength) ∷ []

abbrev pub write_tile_lines : List ℕ → ℕ → List ℕ → List Line
write_tile_lines vram n codes =
    line (not (whole vram)) (Err VramLength)
    ∷ line (not (leb n 511)) (Err UnknownTile)
    ∷ line (not (eqb (length codes) 64)) (Err CodesLength)
    ∷ line (any_high codes) (Err HighCode)
    ∷ []

unfoldable pub read_tile_refusal : List ℕ → ℕ → ℕ → Outcome
read_tile_refusal vram n size = first (read_tile_lines vram n size)

unfoldable pub write_tile_refusal : List ℕ → ℕ → List ℕ → Outcome
write_tile_refusal vram n codes = first (write_tile_lines vram n codes)

-- what was there, where the call is refused
abbrev pub unless : Outcome → List ℕ → List ℕ → List ℕ
unless r before after = cond (eqb (refusal_number r) 0) after before

-- R14.3: video memory after the write: the 32 bytes at 32 times the tile's number, and no other byte
unfoldable pub tile_written : List ℕ → ℕ → List ℕ → List ℕ
tile_written vram n codes = unless (write_tile_refusal vram n codes) vram (written vram (32 * n) (tile_bytes (at codes)))

-- R14.4: the buffer after the read
unfoldable pub tile_read : List ℕ → ℕ → List ℕ → List ℕ
tile_read vram n codes = unless (read_tile_refusal vram n (length codes)) codes (codes_at (at vram) (32 * n))

-- What the write promises of its answer r and of video memory after it, and the read of its answer and of the buffer. Neither takes a device.
pub record WriteLeaves (vram : List ℕ) (n : ℕ) (codes : List ℕ) (r : Outcome) (vram' : List ℕ) : Type 0 where
  pub outcome : r ≡ write_tile_refusal vram n codes
  pub memory : vram' ≡ tile_written vram n codes

pub record ReadLeaves (vram : List ℕ) (n : ℕ) (codes : List ℕ) (r : Outcome) (codes' : List ℕ) : Type 0 where
  pub outcome : r ≡ read_tile_refusal vram n (length codes)
  pub buffer : codes' ≡ tile_read vram n codes
