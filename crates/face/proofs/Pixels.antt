-- One pixel in the C face: the colour that a block gives to a number, and when the call is refused.
-- Assumes nothing.
use mathlib.Core.Path.{◌≡◌, sym, ap, ◌∙◌}
use mathlib.Core.Logic.{◌≢◌}
use mathlib.Core.List.{List}
use Prim.Native.Nat.{ℕ, ◌+◌, ◌*◌, ◌<◌}
use native.Mathlib.Omega.{arith}
use lib.Dec.{leb}
use lib.ListN.{length, take, drop}
use lib.Seq.{get_or-take, get_or-drop}
use borrow.Author.Tests.{eq-eqb, ne_eqb, eqb-false, le-leb}
use Rattle.laws.specs.Lists.{at}
use Rattle.laws.specs.Sizes.{vram_size}
use Rattle.laws.proofs.Tables.{get_d_table}
use Rattle.laws.proofs.Tests.{split}
use Rattle.colour.specs.Colour.{colour, colours_of}
use Rattle.picture.specs.declared.Screen.{Screen}
use Rattle.picture.specs.Area.{area_from, screen_of}
use Rattle.raster.specs.declared.Raster.{Raster}
use Rattle.refusal.specs.Refusals.{refusal_number, first, whole, outcome_of}
use Rattle.block.specs.Block.{well_formed, state_of}
use Rattle.pixel.specs.Pixel.{Spot, pixel_lines, spot_of, in_colours, has_pixel, colour_of, pixel_of}
use Rattle.pixel.proofs.Spots.{pixel_exact, pixel_refused}
use Rattle.step.specs.Step.{colours_now, reading_of}
use Rattle.face.specs.Refused.{refusal_in, step_call_lines}
use Rattle.face.specs.Pixel.{pixel_word, pixel_call}
use Rattle.word.specs.Called.{asked_lines}
use Rattle.word.proofs.Words.{pixel_byte_lem}
use Rattle.word.proofs.Calls.{asked_both}

module _ (b : List ℕ) (n : ℕ) where
  pub colour_dirty : n < 32 → at b 26 ≡ 1 → colour (at b (27 + 2 * n)) (at b (27 + (2 * n + 1))) ≡ at (colours_now (state_of b)) n
  unfolding state_of colours_of
  colour_dirty h e =
      rw (eq-eqb (at b 26) 1 e)
      (sym (get_d_table 32 (λ i. colour (at (take 64 (drop 27 b)) (2 * i)) (at (take 64 (drop 27 b)) (2 * i + 1))) n h
      ∙ rw (
        get_or-take 64 (drop 27 b) (2 * n) 0 (omega arith),
        get_or-take 64 (drop 27 b) (2 * n + 1) 0 (omega arith),
        get_or-drop 27 b (2 * n) 0,
        get_or-drop 27 b (2 * n + 1) 0,
      )))

  pub colour_clean : (at b 26 ≡ 1 → ⊥) → at (state_of b).color_cache n ≡ at (colours_now (state_of b)) n
  unfolding state_of
  colour_clean e = rw (ne_eqb (at b 26) 1 e)

-- ---- the call: refused by 10 or 11, and else from what its parts give
module _ (b m : List ℕ) (n y x : ℕ) {q : ℕ} (eq : q ≡ refusal_number (first (asked_lines (well_formed b) n))) where
  pub pixel_asked : q ≢ 0 → q ≡ pixel_call b m n y x
  unfolding pixel_call
  pixel_asked h = eq ∙ split (well_formed b) (λ e. split (leb n 2) (λ f. absurd (h (eq ∙ rw (e, f)))) (λ f. rw (e, f))) (λ e. rw e)

  pub pixel_done :
      q ≡ 0 → {z : Screen} {reg : List ℕ} {raster : Raster} {s : Spot} {r : ℕ} → z ≡ screen_of (area_from n) → reg ≡ (state_of b).reg →
      raster ≡ (state_of b).raster
      → s ≡ spot_of z reg raster.vertical_scroll m y x → r ≡ pixel_word (in_colours (colours_now (state_of b)) s) → r ≡ pixel_call b m n y x
  unfolding pixel_call pixel_of
  pixel_done zero ez eg et es er = let t = asked_both (well_formed b) n eq zero in er ∙ rw (es, eg, et, ez, t.0, le-leb n 2 t.1)

-- R16.3: refused by the first line of its table that holds; R16.6: and then its word is the refusal alone, with no pixel and four zero bytes
module _ (b m : List ℕ) (n y x : ℕ) where
  pub pixel_call_exact : refusal_in (pixel_call b m n y x) ≡ refusal_number (first (step_call_lines b n (pixel_lines m)))
  unfolding pixel_call
  pixel_call_exact =
      split (well_formed b)
      (λ e.
      split (leb n 2)
      (λ l.
      simp (e, l)
      (let p = pixel_of (screen_of (area_from n)) m (reading_of (state_of b)) y x in
      pixel_byte_lem (outcome_of p) (has_pixel p) (colour_of p) ∙ ap refusal_number (pixel_exact (screen_of (area_from n)) m (reading_of (state_of b)) y x)))
      (λ l. simp (e, l)))
      (λ e. simp e)

  pub pixel_call_alone : refusal_in (pixel_call b m n y x) ≢ 0 → pixel_call b m n y x < 256
  unfolding pixel_call
  pixel_call_alone =
      split (well_formed b)
      (λ e.
      split (leb n 2)
      (λ l.
      split (whole m)
      (λ f.
      let p = pixel_of (screen_of (area_from n)) m (reading_of (state_of b)) y x in
      simp (e, l)
      (λ h. absurd (h (pixel_byte_lem (outcome_of p) (has_pixel p) (colour_of p)
      ∙ ap refusal_number (pixel_exact (screen_of (area_from n)) m (reading_of (state_of b)) y x)
      ∙ rw f))))
      (λ f. simp (e, l) (λ h. rw (pixel_refused (screen_of (area_from n)) m (reading_of (state_of b)) y x (eqb-false (length m) vram_size f)) (omega arith))))
      (λ l. simp (e, l) (λ h. omega arith)))
      (λ e. simp e (λ h. omega arith))
