-- R14.5: what the program `sheet` writes of a sheet of tiles, and `bad` for anything else.
-- Assumes nothing.
use Rattle.std.specs.Prelude.{◌≡◌, Bool, cond, not, ◌&&◌, List, [], ◌∷◌, ◌++◌, ℕ, zero, suc, ◌+◌, ◌*◌, ◌/◌, ◌%◌, eqb, leb, length}
use Rattle.laws.specs.Lists.{at, written}
use Rattle.tile_codes.specs.Tiles.{tile_bytes}
use Rattle.tile_codes.specs.Calls.{any_high}

abbrev pub tiles_in : List ℕ → ℕ
tiles_in s = length s / 64

unfoldable pub is_sheet : List ℕ → Bool
is_sheet s = ((eqb (length s % 64) 0 && leb 1 (tiles_in s)) && leb (tiles_in s) 256) && not (any_high s)

-- the bytes of the first n tiles of a sheet
unfoldable pub sheet_bytes : ℕ → List ℕ → List ℕ
sheet_bytes zero s = []
sheet_bytes (suc n) s = sheet_bytes n s ++ tile_bytes (λ k. at s (64 * n + k))

abbrev pub bad_line : List ℕ
bad_line = 0x62 ∷ 0x61 ∷ 0x64 ∷ 0x0A ∷ []

-- WHAT `sheet` WRITES of the input s
unfoldable pub converted : List ℕ → List ℕ
converted s = cond (is_sheet s) (sheet_bytes (tiles_in s) s) bad_line

-- What the function behind it promises of its answer n and of its buffer after it: these bytes at its start, and their number; nothing at all without room
-- for 256 tiles.
pub record SheetLeaves (s out : List ℕ) (n : ℕ) (out' : List ℕ) : Type 0 where
  pub count : n ≡ cond (leb 8192 (length out)) (length (converted s)) 0
  pub bytes : out' ≡ cond (leb 8192 (length out)) (written out 0 (converted s)) out
