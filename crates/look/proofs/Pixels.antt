-- One pixel of a handheld beside the row that a step has just drawn.
-- Assumes nothing.
use Rattle.std.specs.Prelude.{Some}
use mathlib.Core.Path.{◌≡◌, refl, sym, ap, ◌∙◌}
use mathlib.Core.List.{List}
use Prim.Native.Nat.{ℕ, ◌+◌, ◌*◌, ◌<◌, ◌≤◌}
use native.Mathlib.Omega.{arith}
use lib.ListN.{length}
use borrow.Author.Tests.{eqb-true, not-false}
use Rattle.laws.specs.Lists.{at}
use Rattle.laws.specs.Sizes.{vram_size}
use Rattle.laws.specs.Paint.{byte_of_colour}
use Rattle.picture.specs.declared.RenderArea.{RenderArea}
use Rattle.picture.specs.Area.{screen_of, columns, row_size}
use Rattle.raster.specs.declared.Raster.{Raster}
use Rattle.raster.specs.Raster.{counted, ticked}
use Rattle.vdp.specs.declared.VdpState.{VdpState}
use Rattle.refusal.specs.Refusals.{whole}
use Rattle.refusal.proofs.Tables.{under_either}
use Rattle.pixel.specs.Pixel.{colour_of, pixel_of}
use Rattle.pixel.proofs.Spots.{pixel_taken}
use Rattle.points.specs.declared.Stepped.{Stepped}
use Rattle.points.specs.Points.{row_on, row_lines}
use Rattle.step.specs.Step.{line_of, colours_now, reading_of, counter_up, refused_step, stepped, step_with}
use Rattle.step.specs.Frame.{row_after, RowStepLeaves}
use Rattle.points.proofs.Rows.{row_low}
use Rattle.points.proofs.Laws.{row_fits}
use Rattle.step.proofs.Laws.{row_step_here, stepped_row, stepped_reg, stepped_raster, stepped_cache, stepped_dirty}

module _ (a : RenderArea) (vram : List ℕ) (d : VdpState) (y x b : ℕ) (bl : b < 4) (l : x < columns a) where
  -- the device that a step leaves which drew row y has the same registers, scroll and colours as the row was drawn with
  module _ (e : row_on (screen_of a) (line_of (counter_up d)) ≡ Some y) where
    scroll_stays : (stepped a vram d).device.raster.vertical_scroll ≡ (counter_up d).raster.vertical_scroll
    unfolding ticked counted
    scroll_stays = ap (λ (r : Raster). r.vertical_scroll) (stepped_raster a vram d)

    colours_stay : colours_now (stepped a vram d).device ≡ colours_now d
    colours_stay = rw (stepped_dirty a vram d e, stepped_cache a vram d e)

    pixel_left : length vram ≡ vram_size → (buffer : List ℕ) → row_size a ≤ length buffer
        → byte_of_colour (colour_of (pixel_of (screen_of a) vram (reading_of (stepped a vram d).device) y x)) b ≡ at (row_after a vram d buffer) (4 * x + b)
    unfolding pixel_of
    pixel_left m buffer h =
        rw (colours_stay, stepped_reg a vram d, scroll_stays)
        (pixel_taken (screen_of a) vram (reading_of (counter_up d)) y x b bl m
        (row_low (screen_of a) (line_of (counter_up d)) y e) l (row_after a vram d buffer)
        (row_step_here a vram d buffer y m h e))

  pub pixel_after_step : (buffer buffer' : List ℕ) (r : Stepped VdpState) → RowStepLeaves a vram d buffer r buffer' → r.row ≡ Some y
      → byte_of_colour (colour_of (pixel_of (screen_of a) vram (reading_of r.device) y x)) b ≡ at buffer' (4 * x + b)
  unfolding step_with
  pixel_after_step buffer buffer' r s =
      rw (s.answer, s.bytes)
      (under_either (λ (z : Stepped VdpState). z.row ≡ Some y →
      byte_of_colour (colour_of (pixel_of (screen_of a) vram (reading_of z.device) y x)) b ≡ at (row_after a vram d buffer)
      (4 * x + b))
      (row_lines (screen_of a) vram (length buffer)) (λ r. refused_step r d) (stepped a vram d)
      (λ r q. absurd (let z : ◌≡◌ {A = ℕ} 0 1 = cc in omega arith))
      (λ p q. pixel_left (sym (stepped_row a vram d refl) ∙ q) (eqb-true (length vram) vram_size (not-false (whole vram) p.0)) buffer
      (row_fits (screen_of a) vram (length buffer) p)))
