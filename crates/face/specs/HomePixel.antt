-- R16.3, R16.6, R21.1: the call of one pixel on the home machine's block. It reads the block, and writes nothing.
-- Assumes nothing.
use Rattle.std.specs.Prelude.{cond, List, ℕ, Err}
use Rattle.refusal.specs.declared.Refusal.TheVariants.{BlockMalformed}
use Rattle.refusal.specs.Refusals.{refusal_number}
use Rattle.picture.specs.declared.Screen.TheVariants.{Home}
use Rattle.pixel.specs.Pixel.{pixel_of}
use Rattle.home.specs.Step.{reading_of}
use Rattle.home_block.specs.HomeBlock.{state_of, well_formed}
use Rattle.face.specs.Pixel.{pixel_word}

-- the block, then video memory
unfoldable pub pixel_call : List ℕ → List ℕ → ℕ → ℕ → ℕ
pixel_call b m y x = cond (well_formed b) (pixel_word (pixel_of Home m (reading_of (state_of b)) y x)) (refusal_number (Err BlockMalformed))
