-- What a turn of each loop shows, and the sums that make a byte and a code.
-- Assumes nothing.
use mathlib.Core.Path.{◌≡◌, refl, sym, ap, ◌∙◌}
use mathlib.Core.Bool.{Bool, ◌||◌}
use mathlib.Core.List.{List}
use Prim.Native.Nat.{ℕ, ◌+◌, ◌-◌, ◌*◌, ◌/◌, ◌%◌, ◌<◌}
use native.Mathlib.Nat.{add-zero, add_assoc}
use native.Mathlib.Numerals.{add-one}
use native.Mathlib.Omega.{arith}
use lib.ListN.{length}
use Rattle.laws.specs.Bits.{bit, digit, number, byte_of, any}
use Rattle.laws.specs.Lists.{at}
use Rattle.laws.proofs.Bits.{number_ext}
use Rattle.laws.proofs.Tables.{length-table, get_d_table}
use Rattle.picture.specs.Tile.{code_of, code_at}
use Rattle.tile_codes.specs.Tiles.{codes_at, tile_bytes}
use Rattle.tile_codes.proofs.Planes.{code_bits, byte_of_tile}

-- a code from its four weights
pub code_sum :
    (b0 b1 b2 b3 i : ℕ) {w0 w1 w2 w3 : ℕ} → w0 ≡ 1 * digit (bit b0 i) → w1 ≡ 2 * digit (bit b1 i) → w2 ≡ 4 * digit (bit b2 i) → w3 ≡ 8 * digit
    (bit b3 i)
    → w0 + w1 + (w2 + w3) ≡ code_of b0 b1 b2 b3 i
unfolding code_of
code_sum b0 b1 b2 b3 i e0 e1 e2 e3 = omega arith

-- a plane's byte from its halves
halves : (f : ℕ → Bool) → 16 * number 4 (λ b. f (4 + b)) + number 4 f ≡ byte_of f
unfolding byte_of number
halves f = omega arith

module _ (codes : List ℕ) (from p : ℕ) where
  pub half_is :
      code_of (at codes (from + 3)) (at codes (from + 2)) (at codes (from + 1)) (at codes from) p ≡ number 4 (λ b. bit (at codes (from + (3 - b))) p)
  half_is =
      code_bits (at codes (from + 3)) (at codes (from + 2)) (at codes (from + 1)) (at codes from) p (λ b. bit (at codes (from + (3 - b))) p) refl refl refl
      (ap (λ (k : ℕ). bit (at codes k) p) (sym (add-zero from)))

  pub plane_sum :
      {h l : ℕ} → h ≡ number 4 (λ b. bit (at codes (from + (3 - b))) p) → l ≡ number 4 (λ b. bit (at codes (from + 4 + (3 - b))) p)
      → 16 * h + l ≡ byte_of (λ b. bit (at codes (from + (7 - b))) p)
  plane_sum e d =
      let f : ℕ → Bool = λ b. bit (at codes (from + (7 - b))) p in
      let on : (b : ℕ) → b < 4 → bit (at codes (from + 4 + (3 - b))) p ≡ f b =
      λ b h. let k : from + 4 + (3 - b) ≡ from + (7 - b) = omega arith in ap (λ (k : ℕ). bit (at codes k) p) k in
      let up : (b : ℕ) → b < 4 → bit (at codes (from + (3 - b))) p ≡ f (4 + b) =
      λ b h. let k : from + (3 - b) ≡ from + (7 - (4 + b)) = omega arith in ap (λ (k : ℕ). bit (at codes k) p) k in
      (λ i. 16 * (e ∙ number_ext 4 (λ b. bit (at codes (from + (3 - b))) p) (λ b. f (4 + b)) up) i
      + (d ∙ number_ext 4 (λ b. bit (at codes (from + 4 + (3 - b))) p) f on) i)
      ∙ halves f

-- ---- any code above 15, one more looked at
pub any_step : (f : ℕ → Bool) (i : ℕ) {t : Bool} → t ≡ any i f → (f i || t) ≡ any (i + 1) f
unfolding any
any_step f i e = rw add-one (ap (λ (t : Bool). f i || t) e)

-- ---- the bytes of a tile, one more put
pub tile_long : (c : ℕ → ℕ) → length (tile_bytes c) ≡ 32
unfolding tile_bytes
tile_long c = length-table 32 (λ j. byte_of (λ b. bit (c (8 * (j / 4) + (7 - b))) (j % 4)))

pub plane_is :
    (codes : List ℕ) (from j : ℕ) {v : ℕ} → j < 32 → v ≡ byte_of (λ b. bit (at codes (from + 8 * (j / 4) + (7 - b))) (j % 4))
    → v ≡ at (tile_bytes (λ k. at codes (from + k))) j
unfolding byte_of
plane_is codes from j h e =
    e
    ∙ number_ext 8 (λ b. bit (at codes (from + 8 * (j / 4) + (7 - b))) (j % 4)) (λ b. bit (at codes (from + (8 * (j / 4) + (7 - b)))) (j % 4))
    (λ b hb. ap (λ (z : ℕ). bit (at codes z) (j % 4)) (add_assoc from (8 * (j / 4)) (7 - b)))
    ∙ sym (byte_of_tile (λ k. at codes (from + k)) j h)

-- ---- the codes of a tile, one more got
pub codes_long : (m : ℕ → ℕ) (a : ℕ) → length (codes_at m a) ≡ 64
unfolding codes_at
codes_long m a = length-table 64 (λ k. code_at m (a + 4 * (k / 8)) (k % 8))

pub code_got : (m : ℕ → ℕ) (a k : ℕ) → k < 64 → at (codes_at m a) k ≡ code_at m (a + 4 * (k / 8)) (k % 8)
unfolding codes_at
code_got m a k h = get_d_table 64 (λ k. code_at m (a + 4 * (k / 8)) (k % 8)) k h

pub code_is :
    (m : ℕ → ℕ) (a k : ℕ) {v : ℕ} → k < 64
    → v ≡ code_of (m (a + 4 * (k / 8))) (m (a + 4 * (k / 8) + 1)) (m (a + 4 * (k / 8) + 2)) (m (a + 4 * (k / 8) + 3)) (7 - k % 8)
    → v ≡ at (codes_at m a) k
unfolding code_at
code_is m a k h e = e ∙ sym (code_got m a k h)
