-- R16.3, R16.6: the call of one pixel in the C face. It reads the block, and writes nothing.
-- Assumes nothing.
use Rattle.std.specs.Prelude.{cond, List, ℕ, ◌+◌, leb, Err}
use Rattle.picture.specs.Area.{area_from, screen_of}
use Rattle.refusal.specs.declared.Refusal.TheVariants.{BlockMalformed, UnknownArea}
use Rattle.refusal.specs.Refusals.{refusal_number, outcome_of}
use Rattle.block.specs.Block.{well_formed, state_of}
use Rattle.pixel.specs.Pixel.{Pixel, has_pixel, colour_of, pixel_of}
use Rattle.word.specs.Word.{pixel_bits}
use Rattle.step.specs.Step.{reading_of}

-- R16.6: its word, with the refusal in bits 0 to 7
abbrev pub pixel_word : Pixel → ℕ
pixel_word p = refusal_number (outcome_of p) + pixel_bits (has_pixel p) (colour_of p)

-- R16.3: the block, the area, then video memory
unfoldable pub pixel_call : List ℕ → List ℕ → ℕ → ℕ → ℕ → ℕ
pixel_call b m n y x =
    cond (well_formed b)
    (cond (leb n 2) (pixel_word (pixel_of (screen_of (area_from n)) m (reading_of (state_of b)) y x)) (refusal_number (Err UnknownArea)))
    (refusal_number (Err BlockMalformed))
