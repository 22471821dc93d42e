-- Planes and codes: what a tile's bytes say of its codes, and its codes of its bytes.
-- Assumes nothing.
use mathlib.Core.Path.{◌≡◌, refl, sym, ap, ◌∙◌}
use mathlib.Core.Bool.{Bool}
use Prim.Native.Nat.{ℕ, ◌+◌, ◌-◌, ◌*◌, ◌/◌, ◌%◌, ◌<◌}
use native.Mathlib.Nat.{add-zero}
use native.Mathlib.Omega.{arith}
use Rattle.laws.specs.Bits.{bit, digit, number, byte_of}
use Rattle.laws.specs.Lists.{at}
use Rattle.laws.proofs.Bits.{number_lt, number_bit, bit_number, byte_is, bit_byte_of}
use Rattle.laws.proofs.Tables.{get_d_table}
use Rattle.picture.specs.Tile.{code_of, code_at}
use Rattle.tile_codes.specs.Tiles.{tile_bytes}

-- a code is the number of its four bits
pub code_bits :
    (b0 b1 b2 b3 k : ℕ) (f : ℕ → Bool) → bit b0 k ≡ f 0 → bit b1 k ≡ f 1 → bit b2 k ≡ f 2 → bit b3 k ≡ f 3 → code_of b0 b1 b2 b3 k ≡ number 4 f
unfolding code_of number
code_bits b0 b1 b2 b3 k f e0 e1 e2 e3 = omega (arith, ap digit e0, ap digit e1, ap digit e2, ap digit e3)

code_at_lem : (m : ℕ → ℕ) (a x : ℕ) → code_at m a x ≡ number 4 (λ q. bit (m (a + q)) (7 - x))
unfolding code_at
code_at_lem m a x =
    code_bits (m a) (m (a + 1)) (m (a + 2)) (m (a + 3)) (7 - x) (λ q. bit (m (a + q)) (7 - x))
    (ap (λ (z : ℕ). bit (m z) (7 - x)) (sym (add-zero a))) refl refl refl

-- ---- the bytes of a tile
pub byte_of_tile : (c : ℕ → ℕ) (j : ℕ) → j < 32 → at (tile_bytes c) j ≡ byte_of (λ b. bit (c (8 * (j / 4) + (7 - b))) (j % 4))
unfolding tile_bytes
byte_of_tile c j h = get_d_table 32 (λ j. byte_of (λ b. bit (c (8 * (j / 4) + (7 - b))) (j % 4))) j h

-- plane q of line y has bit q of the code of pixel x
plane_bit : (c : ℕ → ℕ) (x y q : ℕ) → x < 8 → y < 8 → q < 4 → bit (at (tile_bytes c) (4 * y + q)) (7 - x) ≡ bit (c (8 * y + x)) q
plane_bit c x y q hx hy hq =
    let e : 8 * ((4 * y + q) / 4) + (7 - (7 - x)) ≡ 8 * y + x = omega arith in
    let d : (4 * y + q) % 4 ≡ q = omega arith in
    ap (λ (v : ℕ). bit v (7 - x)) (byte_of_tile c (4 * y + q) (omega arith))
    ∙ bit_byte_of (λ b. bit (c (8 * ((4 * y + q) / 4) + (7 - b))) ((4 * y + q) % 4)) (7 - x) (omega arith)
    ∙ (λ i. bit (c (e i)) (d i))

-- where a memory has these bytes, its codes are those that they were made of
module _ (m : ℕ → ℕ) (a : ℕ) (c : ℕ → ℕ) (has : (j : ℕ) → j < 32 → m (a + j) ≡ at (tile_bytes c) j) where
  plane_has : (x y q p : ℕ) → x < 8 → y < 8 → q < 4 → p ≡ a + (4 * y + q) → bit (m p) (7 - x) ≡ bit (c (8 * y + x)) q
  plane_has x y q p hx hy hq e =
      ap (λ (z : ℕ). bit (m z) (7 - x)) e ∙ ap (λ (v : ℕ). bit v (7 - x)) (has (4 * y + q) (omega arith)) ∙ plane_bit c x y q hx hy hq

  pub shown : (x y : ℕ) → x < 8 → y < 8 → c (8 * y + x) < 16 → code_at m (a + 4 * y) x ≡ c (8 * y + x)
  unfolding code_at
  shown x y hx hy h =
      code_bits (m (a + 4 * y)) (m (a + 4 * y + 1)) (m (a + 4 * y + 2)) (m (a + 4 * y + 3)) (7 - x) (bit (c (8 * y + x)))
      (plane_has x y 0 (a + 4 * y) hx hy (omega arith) (omega arith))
      (plane_has x y 1 (a + 4 * y + 1) hx hy (omega arith) (omega arith))
      (plane_has x y 2 (a + 4 * y + 2) hx hy (omega arith) (omega arith))
      (plane_has x y 3 (a + 4 * y + 3) hx hy (omega arith) (omega arith))
      ∙ number_bit 4 (c (8 * y + x)) h

-- where the codes are a memory's, the bytes that are made of them are that memory's
module _ (m : ℕ → ℕ) (a : ℕ) (c : ℕ → ℕ) (is : (k : ℕ) → k < 64 → c k ≡ code_at m (a + 4 * (k / 8)) (k % 8)) where
  code_bit : (y b q : ℕ) → y < 8 → b < 8 → q < 4 → bit (c (8 * y + (7 - b))) q ≡ bit (m (a + (4 * y + q))) b
  code_bit y b q hy hb hq =
      let e : (8 * y + (7 - b)) / 8 ≡ y = omega arith in
      let d : (8 * y + (7 - b)) % 8 ≡ 7 - b = omega arith in
      let f : a + 4 * y + q ≡ a + (4 * y + q) = omega arith in
      let g : 7 - (7 - b) ≡ b = omega arith in
      ap (λ (v : ℕ). bit v q) (is (8 * y + (7 - b)) (omega arith))
      ∙ (λ i. bit (code_at m (a + 4 * e i) (d i)) q)
      ∙ ap (λ (v : ℕ). bit v q) (code_at_lem m (a + 4 * y) (7 - b))
      ∙ bit_number 4 (λ q. bit (m (a + 4 * y + q)) (7 - (7 - b))) q hq
      ∙ (λ i. bit (m (f i)) (g i))

  pub same_byte : (j : ℕ) → j < 32 → m (a + j) < 256 → at (tile_bytes c) j ≡ m (a + j)
  same_byte j h low =
      let e : 4 * (j / 4) + j % 4 ≡ j = omega arith in
      byte_of_tile c j h
      ∙ sym
      (byte_is (m (a + j)) (λ b. bit (c (8 * (j / 4) + (7 - b))) (j % 4)) low
      (λ b hb. code_bit (j / 4) b (j % 4) (omega arith) hb (omega arith) ∙ ap (λ (z : ℕ). bit (m (a + z)) b) e))

-- a code has four bits
pub code_low : (m : ℕ → ℕ) (a x : ℕ) → code_at m a x < 16
code_low m a x = rw (code_at_lem m a x) (number_lt 4 (λ q. bit (m (a + q)) (7 - x)))
