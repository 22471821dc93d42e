-- One pixel of a home device beside the row that a step has just drawn.
-- Assumes nothing.
use Rattle.std.specs.Prelude.{Some}
use mathlib.Core.Path.{◌≡◌, refl, sym, ap, ◌∙◌}
use mathlib.Core.List.{List}
use Prim.Native.Nat.{ℕ, ◌+◌, ◌*◌, ◌<◌, ◌≤◌}
use native.Mathlib.Omega.{arith}
use lib.ListN.{length}
use borrow.Author.Tests.{eqb-true, not-false}
use Rattle.laws.specs.Lists.{at}
use Rattle.laws.specs.Sizes.{vram_size}
use Rattle.laws.specs.Paint.{byte_of_colour}
use Rattle.picture.specs.declared.Screen.TheVariants.{Home}
use Rattle.picture.specs.Screen.{columns, row_size}
use Rattle.raster.specs.declared.Raster.{Raster}
use Rattle.raster.specs.Raster.{counted, ticked}
use Rattle.refusal.specs.Refusals.{whole}
use Rattle.refusal.proofs.Tables.{under_either}
use Rattle.pixel.specs.Pixel.{colour_of, pixel_of}
use Rattle.pixel.proofs.Spots.{pixel_taken}
use Rattle.points.specs.Points.{row_on, row_lines}
use Rattle.points.proofs.Rows.{row_low}
use Rattle.points.proofs.Laws.{row_fits}
use Rattle.home.specs.declared.HomeState.{HomeState}
use Rattle.points.specs.declared.Stepped.{Stepped}
use Rattle.home.specs.Step.{line_of, colours_now, reading_of, counter_up, refused_step, stepped, step_with, row_after, RowStepLeaves}
use Rattle.home.proofs.Laws.{row_step_here, stepped_row, stepped_reg, stepped_raster, stepped_cache, stepped_dirty}

module _ (vram : List ℕ) (h : HomeState) (y x b : ℕ) (bl : b < 4) (l : x < columns Home) where
  -- the device that a step leaves which drew row y has the same registers, scroll and colours as the row was drawn with
  module _ (e : row_on Home (line_of (counter_up h)) ≡ Some y) where
    scroll_stays : (stepped vram h).device.raster.vertical_scroll ≡ (counter_up h).raster.vertical_scroll
    unfolding ticked counted
    scroll_stays = ap (λ (r : Raster). r.vertical_scroll) (stepped_raster vram h)

    colours_stay : colours_now (stepped vram h).device ≡ colours_now h
    colours_stay = rw (stepped_dirty vram h e, stepped_cache vram h e)

    pixel_left : length vram ≡ vram_size → (buffer : List ℕ) → row_size Home ≤ length buffer
        → byte_of_colour (colour_of (pixel_of Home vram (reading_of (stepped vram h).device) y x)) b ≡ at (row_after vram h buffer) (4 * x + b)
    unfolding pixel_of
    pixel_left m buffer k =
        rw (colours_stay, stepped_reg vram h, scroll_stays)
        (pixel_taken Home vram (reading_of (counter_up h)) y x b bl m
        (row_low Home (line_of (counter_up h)) y e) l (row_after vram h buffer)
        (row_step_here vram h buffer y m k e))

  pub pixel_after_step : (buffer buffer' : List ℕ) (r : Stepped HomeState) → RowStepLeaves vram h buffer r buffer' → r.row ≡ Some y
      → byte_of_colour (colour_of (pixel_of Home vram (reading_of r.device) y x)) b ≡ at buffer' (4 * x + b)
  unfolding step_with
  pixel_after_step buffer buffer' r s =
      rw (s.answer, s.bytes)
      (under_either (λ (z : Stepped HomeState). z.row ≡ Some y →
      byte_of_colour (colour_of (pixel_of Home vram (reading_of z.device) y x)) b ≡ at (row_after vram h buffer)
      (4 * x + b))
      (row_lines Home vram (length buffer)) (λ r. refused_step r h) (stepped vram h)
      (λ r q. absurd (let z : ◌≡◌ {A = ℕ} 0 1 = cc in omega arith))
      (λ p q. pixel_left (sym (stepped_row vram h refl) ∙ q) (eqb-true (length vram) vram_size (not-false (whole vram) p.0)) buffer
      (row_fits Home vram (length buffer) p)))
