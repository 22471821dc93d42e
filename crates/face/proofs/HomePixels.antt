-- One pixel on the home machine's block: the colour that the block gives to a number, and when the call is refused.
-- Assumes nothing.
use mathlib.Core.Path.{◌≡◌, sym, ap, ◌∙◌}
use mathlib.Core.Logic.{◌≢◌}
use mathlib.Core.List.{List}
use Prim.Native.Nat.{ℕ, ◌+◌, ◌<◌}
use native.Mathlib.Omega.{arith}
use lib.ListN.{length, take, drop}
use lib.Seq.{get_or-take, get_or-drop}
use borrow.Author.Tests.{eq-eqb, ne_eqb, eqb-false}
use Rattle.laws.specs.Lists.{at}
use Rattle.laws.specs.Sizes.{vram_size}
use Rattle.laws.proofs.Tables.{get_d_table}
use Rattle.laws.proofs.Tests.{split}
use Rattle.colour.specs.Home.{home_colour, home_colours_of}
use Rattle.refusal.specs.Refusals.{refusal_number, first, whole, outcome_of}
use Rattle.picture.specs.declared.Screen.TheVariants.{Home}
use Rattle.raster.specs.declared.Raster.{Raster}
use Rattle.pixel.specs.Pixel.{Spot, pixel_lines, spot_of, in_colours, has_pixel, colour_of, pixel_of}
use Rattle.pixel.proofs.Spots.{pixel_exact, pixel_refused}
use Rattle.word.specs.Word.{refusal_in}
use Rattle.word.specs.Called.{asked_lines}
use Rattle.word.proofs.Words.{pixel_byte_lem}
use Rattle.word.proofs.Calls.{asked_both}
use Rattle.home.specs.Step.{colours_now, reading_of}
use Rattle.home_block.specs.HomeBlock.{state_of, well_formed}
use Rattle.face.specs.Pixel.{pixel_word}
use Rattle.face.specs.HomePixel.{pixel_call}
use Rattle.face.specs.HomeRefused.{call_lines}

module _ (b : List ℕ) (n : ℕ) where
  pub colour_dirty : n < 32 → at b 24 ≡ 1 → home_colour (at b (26 + n)) ≡ at (colours_now (state_of b)) n
  unfolding state_of home_colours_of
  colour_dirty h e =
      rw (eq-eqb (at b 24) 1 e)
      (sym (get_d_table 32 (λ i. home_colour (at (take 32 (drop 26 b)) i)) n h ∙ rw (get_or-take 32 (drop 26 b) n 0 h, get_or-drop 26 b n 0)))

  pub colour_clean : (at b 24 ≡ 1 → ⊥) → at (state_of b).color_cache n ≡ at (colours_now (state_of b)) n
  unfolding state_of
  colour_clean e = rw (ne_eqb (at b 24) 1 e)

-- ---- the call: refused by 10, and else from what its parts give
module _ (b m : List ℕ) (y x : ℕ) {q : ℕ} (eq : q ≡ refusal_number (first (asked_lines (well_formed b) 0))) where
  pub pixel_asked : q ≢ 0 → q ≡ pixel_call b m y x
  unfolding pixel_call
  pixel_asked h = eq ∙ split (well_formed b) (λ e. absurd (h (eq ∙ rw e))) (λ e. rw e)

  pub pixel_done :
      q ≡ 0 → {reg : List ℕ} {raster : Raster} {s : Spot} {r : ℕ} → reg ≡ (state_of b).front.reg → raster ≡ (state_of b).raster
      → s ≡ spot_of Home reg raster.vertical_scroll m y x → r ≡ pixel_word (in_colours (colours_now (state_of b)) s) → r ≡ pixel_call b m y x
  unfolding pixel_call pixel_of
  pixel_done zero eg et es er = er ∙ rw (es, eg, et, (asked_both (well_formed b) 0 eq zero).0)

-- R16.3: refused by the first line of its table that holds
pub pixel_call_exact : (b m : List ℕ) (y x : ℕ) → refusal_in (pixel_call b m y x) ≡ refusal_number (first (call_lines b (pixel_lines m)))
unfolding pixel_call
pixel_call_exact b m y x =
    split (well_formed b)
    (λ e.
    let p = pixel_of Home m (reading_of (state_of b)) y x in
    simp e (pixel_byte_lem (outcome_of p) (has_pixel p) (colour_of p) ∙ ap refusal_number (pixel_exact Home m (reading_of (state_of b)) y x)))
    (λ e. simp e)

-- R16.6: and then its word is the refusal alone, with no pixel and four zero bytes
pub pixel_call_alone : (b m : List ℕ) (y x : ℕ) → refusal_in (pixel_call b m y x) ≢ 0 → pixel_call b m y x < 256
unfolding pixel_call
pixel_call_alone b m y x =
    split (well_formed b)
    (λ e.
    split (whole m)
    (λ f.
    let p = pixel_of Home m (reading_of (state_of b)) y x in
    simp e (λ h. absurd (h (pixel_byte_lem (outcome_of p) (has_pixel p) (colour_of p) ∙ ap refusal_number (pixel_exact Home m (reading_of (state_of b)) y x)
    ∙ rw f))))
    (λ f. simp e (λ h. rw (pixel_refused Home m (reading_of (state_of b)) y x (eqb-false (length m) vram_size f)) (omega arith))))
    (λ e. simp e (λ h. omega arith))
