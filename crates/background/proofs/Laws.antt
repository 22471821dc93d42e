-- The laws of a row of background: the columns of one tile, their marks, and where runs of pixels start.
-- Assumes nothing.
use Rattle.std.proofs.Common.{◌≡◌, ℕ, ◌+◌, ◌-◌, ◌*◌, ◌/◌, ◌%◌, ◌^◌, ◌<◌, ◌≤◌, min, Bool, true, false, cond, ◌&&◌, ◌||◌, eqb, ltb, ◌≢◌, ◌⊎◌, List, sym, refl, ap}
use Rattle.std.proofs.Common.{◌∙◌, inr, ⊎_elim, add_assoc, zero-add, arith, le-ltb, lt-ltb, ne_eqb}
use mathlib.Core.Bool.{and-false, or-false}
use native.Mathlib.Decide.{dec_lt, ℕ_discrete}
use lib.Pow.{field, mod-mod-pow}
use Rattle.laws.specs.Bits.{bit, digit, number, any}
use Rattle.laws.specs.Circle.{past}
use Rattle.laws.specs.Lists.{at}
use Rattle.laws.specs.Paint.{painted}
use Rattle.laws.proofs.Any.{any_cong, any_split, any_place, bit_of_lem}
use Rattle.laws.proofs.Bits.{bit_zero, bit_shr, digit_test}
use Rattle.laws.proofs.Paint.{painted_on}
use Rattle.bitmap.specs.Mask.{with_byte, bytes_of, cleared}
use Rattle.bitmap.proofs.Circle.{bytes_of_ext, with_byte-bytes_of}
use Rattle.picture.specs.Tile.{turned, tile_line, entry_at, entry_code, entry_colour, entry_front, map_colour, map_front}
use Rattle.picture.specs.View.{cut_mark}
use Rattle.tile.specs.Line.{line_code, line_colour, line_solid}
use Rattle.background.specs.Background.{back_colour, back_front, prio_to, place_at, Whole}

-- ---- columns of one tile
same_column : (t i : ℕ) → t % 8 + i < 8 → (t + i) % 256 / 8 ≡ t % 256 / 8
same_column t i h =
    let e : (t + i) / 8 ≡ t / 8 = omega arith in
    field (t + i) 5 3 ∙ ap (λ k. k % 32) e ∙ sym (field t 5 3)

same_rest : (t i : ℕ) → t % 8 + i < 8 → (t + i) % 256 % 8 ≡ t % 256 % 8 + i
same_rest t i h =
    let e : (t + i) % 8 ≡ t % 8 + i = omega arith in
    mod-mod-pow (t + i) 5 3 ∙ e ∙ ap (λ k. k + i) (sym (mod-mod-pow t 5 3))

module _ (vram : List ℕ) (names sx y x i : ℕ) (h : (sx + x) % 8 + i < 8) where
  abbrev pub lo : ℕ
  lo = at vram (names + 2 * (32 * (y / 8) + (sx + x) % 256 / 8))

  abbrev pub hi : ℕ
  hi = at vram (names + 2 * (32 * (y / 8) + (sx + x) % 256 / 8) + 1)

  pub back_colour_lem : back_colour vram names sx y (x + i) ≡ 16 * digit (bit hi 3) + line_code vram (tile_line lo hi y) (bit hi 1) ((sx + x) % 256 % 8) i
  unfolding back_colour map_colour entry_colour entry_code entry_at
  back_colour_lem = rw (← add_assoc sx x i, same_column (sx + x) i h, same_rest (sx + x) i h)

  pub back_front_lem : back_front vram names sx y (x + i) ≡ (bit hi 4 && line_solid vram (tile_line lo hi y) (bit hi 1) ((sx + x) % 256 % 8) i)
  unfolding back_front map_front entry_front entry_code entry_at
  back_front_lem = rw (← add_assoc sx x i, same_column (sx + x) i h, same_rest (sx + x) i h)

  -- the same, from what the code has of the tile
  pub back_shade : (colours : List ℕ) {pal addr : ℕ} {flip t : Bool} → flip ≡ bit hi 1 → t ≡ bit hi 3 → pal ≡ 16 * digit t → addr ≡ tile_line lo hi y
      → line_colour colours pal vram addr flip ((sx + x) % 256 % 8) i ≡ at colours (back_colour vram names sx y (x + i))
  back_shade colours f t p a = ap (λ (k : ℕ). at colours k) (rw (p, t, a, f) (sym back_colour_lem))

  pub back_in_front : {addr : ℕ} {flip t : Bool} → flip ≡ bit hi 1 → t ≡ bit hi 4 → addr ≡ tile_line lo hi y
      → back_front vram names sx y (x + i) ≡ (t && line_solid vram addr flip ((sx + x) % 256 % 8) i)
  back_in_front f t a = rw (t, a, f) back_front_lem

-- ---- the two bytes of an entry, low and high, as one number
module _ {n low : ℕ} (high : ℕ) (h : low < 256) (e : n ≡ low + 256 * high) where
  -- its bits from 8 on are the high byte's
  pub entry_bit : (j : ℕ) → eqb (n / 2 ^ (8 + j) % 2) 1 ≡ bit high j
  unfolding bit
  entry_bit j = let b : n / 2 ^ 8 ≡ high = omega arith in sym (bit_shr n 8 j) ∙ rw b

  pub entry_palette : n / 2048 % 2 * 16 ≡ 16 * digit (eqb (n / 2 ^ (8 + 3) % 2) 1)
  entry_palette = omega (arith, digit_test (n / 2048 % 2) (omega arith))

  pub entry_line : (y : ℕ) {k : ℕ} → k ≡ 4 * turned (eqb (n / 2 ^ (8 + 2) % 2) 1) (y % 8) → 32 * (n % 512) + k ≡ tile_line low high y
  unfolding tile_line
  entry_line y q =
      let d : digit (bit high 0) ≡ high % 2 = ap digit (bit_zero high) ∙ digit_test (high % 2) (omega arith) in
      let c : n % 512 ≡ low + 256 * (high % 2) = omega arith in
      rw (q, entry_bit 2, d, c)

-- ---- the marks of one tile
module _ (vram : List ℕ) (names sx y cut x n : ℕ) (small : n ≤ 8) (w : Whole cut x n) (solid : ℕ → Bool) where
  more : (t : Bool) → ((j : ℕ) → j < n → back_front vram names sx y (x + j) ≡ (t && solid j)) → (i : ℕ) → i < 256
      → prio_to vram names sx y cut (x + n) i ≡ (prio_to vram names sx y cut x i ||
      (ltb (past i (place_at cut x)) n && (t && solid (past i (place_at cut x)))))
  unfolding prio_to
  more t f i l =
      any_split x n (λ p. eqb (cut_mark cut p) i && back_front vram names sx y p)
      ∙ ap (λ (b : Bool). any x (λ p. eqb (cut_mark cut p) i && back_front vram names sx y p) || b)
      (any_cong n (λ j. eqb (cut_mark cut (x + j)) i && back_front vram names sx y (x + j)) (λ j. eqb ((place_at cut x + j) % 256) i && (t && solid j))
      (λ j h. rw (w j h, f j h))
      ∙ any_place n (place_at cut x) i (λ j. t && solid j) (omega arith) l)

  pub tile_marks : (t : Bool) {mask mask' : List ℕ} {bits : ℕ} → ((j : ℕ) → j < n → back_front vram names sx y (x + j) ≡ (t && solid j)) → mask ≡
      bytes_of (prio_to vram names sx y cut x)
      → bits ≡ number n solid → mask' ≡ cond t (with_byte mask (place_at cut x) bits) mask → mask' ≡ bytes_of (prio_to vram names sx y cut (x + n))
  tile_marks true f e b p =
      p ∙ rw (e, b, with_byte-bytes_of (prio_to vram names sx y cut x) (place_at cut x) (number n solid))
      (bytes_of_ext (λ i. prio_to vram names sx y cut x i || bit (number n solid) (past i (place_at cut x))) (prio_to vram names sx y cut (x + n))
      (λ i l. rw (bit_of_lem n solid (past i (place_at cut x))) (sym (more true f i l))))
  tile_marks false f e b p =
      p ∙ e ∙ bytes_of_ext (prio_to vram names sx y cut x) (prio_to vram names sx y cut (x + n))
      (λ i l. sym (more false f i l ∙ rw (and-false (ltb (past i (place_at cut x)) n)) (or-false (prio_to vram names sx y cut x i))))

-- the marks of a tile that has priority or has it not
pub where_front : (t : Bool) (solid : ℕ → Bool) → cond t (number 8 solid) 0 ≡ number 8 (λ j. t && solid j)
unfolding number
where_front true solid = refl
where_front false solid = refl

-- ---- where a run of pixels starts: at the row's start, or, in the row, at a tile's first pixel
abbrev pub Starts : ℕ → ℕ → ℕ → Type 0
Starts sx width x = (x ≡ 0) ⊎ (x < width → (8 ≤ sx % 8 + x) × ((sx + x) % 8 ≡ 0))

-- a mark of a row that is not cut, and of a tile that is not the first, is at its pixel
uncut : (k : ℕ) → k < 256 → cut_mark 0 k ≡ k
unfolding cut_mark
uncut k h =
    elim (dec_lt k 8) [
      | yes l ↦ rw (lt-ltb k 8 l) (omega arith)
      | no l ↦ let m : 8 ≤ k = omega arith in rw (le-ltb k 8 m)
    ]

beyond : (cut k : ℕ) → 8 - cut ≤ k → cut_mark cut k ≡ k
unfolding cut_mark
beyond cut k h = rw (le-ltb k (8 - cut) h)

first : (cut j : ℕ) → cut ≤ 8 → j < 8 - cut → cut_mark cut (0 + j) ≡ ((256 - cut) % 256 + j) % 256
unfolding cut_mark
first cut j c h = let l : 0 + j < 8 - cut = omega arith in rw (lt-ltb (0 + j) (8 - cut) l) (omega arith)

small_mod : (k : ℕ) → k < 256 → k ≡ k % 256
small_mod k h = omega arith

pub whole : (sx width cut x n : ℕ) → (cut ≡ 0) ⊎ (cut ≡ sx % 8) → Starts sx width x → x < width → (sx + x) % 8 + n ≤ 8 → x + n ≤ 256 → Whole cut x n
whole sx width cut x n d s l f r j h =
    elim (ℕ_discrete x 0) [
      | yes z ↦
          let c8 : cut ≤ 8 = ⊎_elim (λ q. omega arith) (λ q. omega arith) d in
          let lj : j < 8 - cut = ⊎_elim (λ q. omega arith) (λ q. omega arith) d in
          rw (z) (first cut j c8 lj)
      | no nz ↦
          let b : x + j < 256 = omega arith in
          rw (ne_eqb x 0 nz)
          (⊎_elim (λ q. rw q (uncut (x + j) b))
          (λ q.
          let v = ⊎_elim {C = (8 ≤ sx % 8 + x) × ((sx + x) % 8 ≡ 0)} (λ z. absurd (nz z)) (λ u. u l) s in
          let a : 8 - cut ≤ x + j = omega arith in
          beyond cut (x + j) a)
          d ∙ small_mod (x + j) b)
    ]

-- the pixels of the row's first tile
pub whole-first : (sx cut n : ℕ) → (cut ≡ 0) ⊎ (cut ≡ sx % 8) → sx % 8 + n ≤ 8 → Whole cut 0 n
whole-first sx cut n d f j h =
    let c8 : cut ≤ 8 = ⊎_elim (λ q. omega arith) (λ q. omega arith) d in
    let lj : j < 8 - cut = ⊎_elim (λ q. omega arith) (λ q. omega arith) d in
    first cut j c8 lj

-- ---- the row's first tile: what is painted from its pixels on, and the mask that it marks
pub from_start : (row : List ℕ) (m : ℕ) (f : ℕ → ℕ) {row' : List ℕ} → row' ≡ painted row 0 m (λ i. f (0 + i)) → row' ≡ painted row 0 m f
unfolding painted
from_start row m f e = rw (zero-add m) at (painted_on row 0 m f refl e)

pub from-cleared :
    (vram : List ℕ) (names sx y cut m : ℕ) {mask mask' : List ℕ}
    → (mask ≡ bytes_of (prio_to vram names sx y cut 0) → mask' ≡ bytes_of (prio_to vram names sx y cut (0 + m)))
    → mask ≡ cleared → mask' ≡ bytes_of (prio_to vram names sx y cut m)
unfolding cleared prio_to any
from-cleared vram names sx y cut m f e = f e ∙ ap (λ (k : ℕ). bytes_of (prio_to vram names sx y cut k)) (zero-add m)

-- it ends at a tile's end, or at the row's
pub first_ends : (sx width : ℕ) {m : ℕ} → m ≡ min (8 - sx % 8) width → (m ≤ width) × (m < width → (8 ≤ sx % 8 + m) × ((sx + m) % 8 ≡ 0))
first_ends sx width e = (omega arith, λ h. (omega arith, omega arith))

-- ---- a tile behind the first, from pixel x on: what it asks for, and where the next one stands
module _ (sx width cut x : ℕ) (d : (cut ≡ 0) ⊎ (cut ≡ sx % 8)) (most : width ≤ 256) (u : x < width → (8 ≤ sx % 8 + x) × ((sx + x) % 8 ≡ 0)) where
  -- one that the row's end cuts, in a row of n bytes
  pub last_asks : (n : ℕ) → x < width → width < x + 8 → width * 4 ≤ n
      → (((sx + x) % 8 + (width - x) ≤ 8) × ((x + (width - x)) * 4 ≤ n) × (x < 256)) × ((width - x ≤ 8) × (cut ≤ 8) × Whole cut x (width - x))
  last_asks n l s h =
      let v = u l in
      let f : (sx + x) % 8 + (width - x) ≤ 8 = omega arith in
      let r : x + (width - x) ≤ 256 = omega arith in (
        (f, omega arith, omega arith),
        (omega arith, ⊎_elim (λ q. omega arith) (λ q. omega arith) d, whole sx width cut x (width - x) d (inr u) l f r),
      )

  module _ (t : x + 8 ≤ width) where
    inner : (8 ≤ sx % 8 + x) × ((sx + x) % 8 ≡ 0)
    inner = u (omega arith)

    pub whole_asks : (n : ℕ) → width * 4 ≤ n → ((sx + x) % 8 ≡ 0) × ((x + 8) * 4 ≤ n) × (x < 256)
    whole_asks n h = (inner.1, omega arith, omega arith)

    pub not_first : x ≢ 0
    not_first e = let v = inner in omega arith

    pub inside : x + 8 ≤ 256
    inside = omega arith

    pub whole-marks : Whole cut x 8
    whole-marks = let v = inner in whole sx width cut x 8 d (inr u) (omega arith) (omega arith) inside

    pub next_starts : x + 8 < width → (8 ≤ sx % 8 + (x + 8)) × ((sx + (x + 8)) % 8 ≡ 0)
    next_starts h = let v = inner in (omega arith, omega arith)

-- ---- the byte that keeps the marks of a whole tile, and those behind it
pub own_mark : (x : ℕ) → x < 8 * (x / 8 + 1)
own_mark x = omega arith

pub other_mark : (x k : ℕ) → x + 8 < 8 * k → (k ≢ x / 8 + 1) × (x < 8 * k)
other_mark x k h = ((λ e. omega arith), omega arith)

pub mark_step : (x m : ℕ) → x % 8 ≡ m % 8 → (x + 8) % 8 ≡ m % 8
mark_step x m e = omega arith

-- ---- the rest of the row, from pixel x on
pub up_to : (x w : ℕ) → x ≤ w → x + (w - x) ≡ w
up_to x w h = omega arith

pub painted_rest :
    (row : List ℕ) (x w : ℕ) (f : ℕ → ℕ) {row₁ row₂ : List ℕ} → x ≤ w → row₁ ≡ painted row 0 x f → row₂ ≡ painted row₁ x (w - x) (λ i. f (x + i))
    → row₂ ≡ painted row 0 w f
painted_rest row x w f h e d = painted_on row x (w - x) f e d ∙ ap (λ (k : ℕ). painted row 0 k f) (up_to x w h)
