-- One pixel in its colours: on the screen, outside, refused, and beside the bytes of its row.
-- Assumes nothing.
use Rattle.std.specs.Prelude.{Some, None, Err, Ok}
use Rattle.std.proofs.Common.{◌≡◌, ℕ, ◌+◌, ◌*◌, ◌<◌, ◌≤◌, Bool, true, false, cond, ltb, ◌≢◌, ◌⊎◌, List, ◌++◌, length, take, sym, refl, ap, ◌∙◌, ⊎_elim, arith}
use Rattle.std.proofs.Common.{get_or-take, le-ltb, lt-ltb, eq-eqb, ne_eqb}
use mathlib.Core.Bool.{and-false}
use lib.ListN.{get_or-append}
use Rattle.laws.specs.Lists.{at}
use Rattle.laws.specs.Sizes.{vram_size}
use Rattle.laws.specs.Paint.{byte_of_colour}
use Rattle.laws.proofs.Tests.{split}
use Rattle.picture.specs.declared.Screen.{Screen}
use Rattle.picture.specs.Picture.{Row}
use Rattle.picture.specs.Screen.{columns, rows, row_size, picture_of, row_bytes}
use Rattle.picture.proofs.Laws.{length-row_bytes, row_size_lem, pixel_byte_lem}
use Rattle.refusal.specs.declared.Refusal.TheVariants.{VramLength}
use Rattle.refusal.specs.Refusals.{whole, first, outcome_of}
use Rattle.points.specs.Points.{Reading}
use Rattle.pixel.specs.Pixel.{Spot, Pixel, on_screen, pixel_lines, spot_of, in_colours, colour_of, pixel_of}

same_refusal : (colours : List ℕ) (t : Bool) (c : ℕ) → outcome_of (in_colours colours (cond {A = Spot} t (Ok (Some c)) (Ok None))) ≡ (Ok tt)
same_refusal colours true c = refl
same_refusal colours false c = refl

module _ (s : Screen) (vram : List ℕ) (k : Reading) (y x : ℕ) where
  abbrev picture : Row
  picture = picture_of s k.reg k.raster.vertical_scroll vram y

  pub pixel_inside : length vram ≡ vram_size → y < rows s → x < columns s → pixel_of s vram k y x ≡ Ok
      (Some (at k.colours ((picture_of s k.reg k.raster.vertical_scroll vram y).colour x)))
  unfolding pixel_of spot_of
  pixel_inside m h l = rw (eq-eqb (length vram) vram_size m, lt-ltb y (rows s) h, lt-ltb x (columns s) l)

  pub pixel_outside : length vram ≡ vram_size → (rows s ≤ y) ⊎ (columns s ≤ x) → pixel_of s vram k y x ≡ Ok None
  unfolding pixel_of spot_of
  pixel_outside m o =
      rw (eq-eqb (length vram) vram_size m)
      (⊎_elim (λ h. rw (le-ltb y (rows s) h)) (λ l. rw (le-ltb x (columns s) l, and-false (ltb y (rows s)))) o)

  pub pixel_refused : length vram ≢ vram_size → pixel_of s vram k y x ≡ Err VramLength
  unfolding pixel_of spot_of
  pixel_refused n = rw (ne_eqb (length vram) vram_size n)

  -- R16.3: refused by the first line of its table that holds
  pub pixel_exact : outcome_of (pixel_of s vram k y x) ≡ first (pixel_lines vram)
  unfolding pixel_of spot_of
  pixel_exact = split (whole vram) (λ e. simp e (same_refusal k.colours (on_screen s y x) (picture.colour x))) (λ e. simp e)

  -- the bytes of the row, at the pixel
  module _ (b : ℕ) (bl : b < 4) (m : length vram ≡ vram_size) (h : y < rows s) (l : x < columns s) where
    abbrev bytes : List ℕ
    bytes = row_bytes k.colours (columns s) picture

    shown : byte_of_colour (colour_of (pixel_of s vram k y x)) b ≡ at bytes (4 * x + b)
    shown =
        ap (λ (p : Pixel). byte_of_colour (colour_of p) b) (pixel_inside m h l) ∙ sym (pixel_byte_lem k.colours (columns s) picture x b l bl)

    pub pixel_drawn : {row : List ℕ} (rest : List ℕ) → row ≡ row_bytes k.colours (columns s)
        (picture_of s k.reg k.raster.vertical_scroll vram y) ++ rest
        → byte_of_colour (colour_of (pixel_of s vram k y x)) b ≡ at row (4 * x + b)
    pixel_drawn rest e =
        let n : 4 * x + b < length bytes = omega (arith, length-row_bytes k.colours (columns s) picture) in
        shown ∙ sym (ap (λ (r : List ℕ). at r (4 * x + b)) e ∙ get_or-append bytes rest 0 (4 * x + b) n)

    pub pixel_taken : (row : List ℕ) → take (row_size s) row ≡ row_bytes k.colours (columns s)
        (picture_of s k.reg k.raster.vertical_scroll vram y)
        → byte_of_colour (colour_of (pixel_of s vram k y x)) b ≡ at row (4 * x + b)
    pixel_taken row e =
        let n : 4 * x + b < row_size s = omega (arith, row_size_lem s) in
        shown ∙ sym (sym (get_or-take (row_size s) row (4 * x + b) 0 n) ∙ ap (λ (r : List ℕ). at r (4 * x + b)) e)
