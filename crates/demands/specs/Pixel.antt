-- ONE PIXEL IS THE ROW'S: where a screen has a pixel, the engine of one pixel gives the bytes that the engine of a row draws there, the home machine's fill
-- among them.
-- Assumes nothing.
use Rattle.std.specs.Prelude.{◌≡◌, ◌≢◌, ◌⊎◌, List, ℕ, ◌+◌, ◌*◌, ◌<◌, ◌≤◌, length, Some, None, Err, Ok}
use Rattle.laws.specs.Lists.{at}
use Rattle.laws.specs.Paint.{byte_of_colour}
use Rattle.laws.specs.Sizes.{vram_size}
use Rattle.picture.specs.declared.Screen.{Screen}
use Rattle.picture.specs.declared.Screen.TheVariants.{Home}
use Rattle.picture.specs.declared.RenderArea.{RenderArea}
use Rattle.picture.specs.Picture.{Row}
use Rattle.picture.specs.Screen.{columns, rows}
use Rattle.picture.specs.Area.{screen_of}
use Rattle.row.specs.Row as row-engine
use Rattle.vdp.specs.declared.VdpState.{VdpState}
use Rattle.refusal.specs.declared.Refusal.TheVariants.{VramLength}
use Rattle.pixel.specs.Pixel.{Pixel, colour_of, pixel_of}
use Rattle.points.specs.declared.Stepped.{Stepped}
use Rattle.step.specs.Step.{colours_now, row_picture, reading_of}
use Rattle.step.specs.Frame.{RowStepLeaves}
use Rattle.home.specs.declared.HomeState.{HomeState}
use Rattle.points.specs.declared.Stepped.{Stepped}
use Rattle.home.specs.Step as home

-- R16.5, on any screen, in any colours, for a memory, a row and a column, whatever they are: `pixel` is what the engine of one pixel gives, where `picture`
-- is the picture of each row
pub record PixelIsRow (s : Screen) (colours vram : List ℕ) (picture : ℕ → Row) (y x : ℕ) (pixel : Pixel) : Type 0 where
  -- on the screen there is a pixel
  pub there : length vram ≡ vram_size → y < rows s → x < columns s → pixel ≡ Ok (Some (colour_of pixel))
  -- its byte b is byte 4x + b of the row that the row's engine draws, into whatever buffer
  pub bytes :
      length vram ≡ vram_size → y < rows s → x < columns s → (row₀ row : List ℕ) (bits b : ℕ) → b < 4 →
      row-engine.Drawn s colours (picture y) row₀ row bits → byte_of_colour (colour_of pixel) b ≡ at row (4 * x + b)
  -- outside there is none, and `colour_of` gives four zero bytes; so it does, with refusal 8, of a memory of another size
  pub outside : length vram ≡ vram_size → (rows s ≤ y) ⊎ (columns s ≤ x) → pixel ≡ Ok None
  pub refused : length vram ≢ vram_size → pixel ≡ Err VramLength

-- of a handheld's record d in an area, now, and of the row that a step has drawn, asked of the device that the step left
pub record HandheldPixel (a : RenderArea) (vram : List ℕ) (d : VdpState) (y x : ℕ) : Type 0 where
  pub now : PixelIsRow (screen_of a) (colours_now d) vram (row_picture a vram d) y x (pixel_of (screen_of a) vram (reading_of d) y x)
  pub after_step :
      x < columns (screen_of a) → (buffer buffer' : List ℕ) (r : Stepped VdpState) (b : ℕ) → b < 4 → RowStepLeaves a vram d buffer r buffer' →
      r.row ≡ Some y → byte_of_colour (colour_of (pixel_of (screen_of a) vram (reading_of r.device) y x)) b ≡ at buffer' (4 * x + b)

-- the same of a home machine's record h
pub record HomePixel (vram : List ℕ) (h : HomeState) (y x : ℕ) : Type 0 where
  pub now : PixelIsRow Home (home.colours_now h) vram (home.row_picture vram h) y x (pixel_of Home vram (home.reading_of h) y x)
  pub after_step :
      x < columns Home → (buffer buffer' : List ℕ) (r : Stepped HomeState) (b : ℕ) → b < 4 → home.RowStepLeaves vram h buffer r buffer' → r.row ≡ Some y →
      byte_of_colour (colour_of (pixel_of Home vram (home.reading_of r.device) y x)) b ≡ at buffer' (4 * x + b)
