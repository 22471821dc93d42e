-- R5.13 to R5.15, R2.1, R2.4: the sheet of all tiles as a call: what it answers, and the bytes that it leaves, for these registers and these colours.
-- Assumes nothing.
use Rattle.std.specs.Prelude.{◌≡◌, cond, not, ◌&&◌, List, [], ◌∷◌, ℕ, eqb, length, Err, Ok}
use Rattle.refusal.specs.declared.Refusal.TheVariants.{VramLength, PixelLength}
use Rattle.refusal.specs.Refusals.{whole, Line, line, Outcome}
use Rattle.dump.specs.Dump.{dump_size, dumped}

-- R2.1, refusal 9: a sheet has one size; refusal 8 comes before
unfoldable pub dump_refusal : List ℕ → ℕ → Outcome
dump_refusal vram size = cond (whole vram) (cond (eqb size dump_size) (Ok tt) (Err PixelLength)) (Err VramLength)

-- R2.4: the lines of the table that it can meet
abbrev pub dump_lines : List ℕ → ℕ → List Line
dump_lines vram size = line (not (whole vram)) (Err VramLength) ∷ line (not (eqb size dump_size)) (Err PixelLength) ∷ []

-- R5.15: by the colours as they are
unfoldable pub sheet_after : List ℕ → List ℕ → List ℕ → List ℕ → List ℕ
sheet_after reg colours vram pixels = cond (whole vram && eqb (length pixels) dump_size) (dumped vram reg colours pixels) pixels

-- What the call promises of its answer r and of the pixels after it.
pub record SheetLeaves (reg colours vram pixels : List ℕ) (r : Outcome) (pixels' : List ℕ) : Type 0 where
  pub outcome : r ≡ dump_refusal vram (length pixels)
  pub bytes : pixels' ≡ sheet_after reg colours vram pixels
