-- Lanes: a lane of the number that lanes make, the lanes in the other order, and the bits of a byte, reversed and cut.
-- Assumes nothing.
use mathlib.Core.Path.{◌≡◌, refl, sym, ap, ◌∙◌}
use mathlib.Core.Bool.{Bool, true, false, not, ◌||◌}
use Prim.Native.Nat.{ℕ, zero, suc, ◌+◌, ◌-◌, ◌*◌, ◌/◌, ◌%◌, ◌^◌, ◌<◌, ◌≤◌}
use native.Mathlib.Nat.{not-suc-le-zero, mod-lt, mod-le, one-mul, div-one}
use native.Mathlib.Omega.{arith}
use lib.Bits.{bit_or}
use lib.Dec.{eqb}
use lib.Arith.{lt-one}
use lib.Pow.{shr-shr, shr_le, shl_exact, pow-add, pow_pos}
use Rattle.std.specs.Int.{w8, w64, reverse_bits, reverse_bits_onto, swap_bytes}
use Rattle.laws.specs.Bits.{bit, digit, number}
use Rattle.laws.proofs.Bits.{bit-or, number_ext, number_bit, bit_shr, bit_mod}
use Rattle.laws.proofs.Sweep.{same}
use Rattle.picture.specs.Tile.{code_of}
use Rattle.tile.specs.Lanes.{lanes, lane}

-- ---- the lanes that are left, lane by lane
pub past_zero : (c : ℕ) → c ≡ c / 2 ^ (8 * 0)
past_zero c = sym (div-one c)

pub past_step : (c i : ℕ) {w : ℕ} → w ≡ c / 2 ^ (8 * i) → w / 256 ≡ c / 2 ^ (8 * (i + 1))
past_step c i e =
    let q : 8 * i + 8 ≡ 8 * (i + 1) = omega arith in
    ap (λ (x : ℕ). x / 256) e ∙ shr-shr c (8 * i) 8 ∙ ap (λ (k : ℕ). c / 2 ^ k) q

pub past_lane : (c i : ℕ) {w : ℕ} → w ≡ c / 2 ^ (8 * i) → w % 256 ≡ lane c i
unfolding lane
past_lane c i e = ap (λ (x : ℕ). x % 256) e

-- ---- a lane of lanes
pub lane_zero : (w : ℕ) → lane w 0 ≡ w % 256
unfolding lane
lane_zero w = omega arith

pub lane_past : (w s k : ℕ) → lane (w / 2 ^ (8 * s)) k ≡ lane w (s + k)
unfolding lane
lane_past w s k = let e : 8 * s + 8 * k ≡ 8 * (s + k) = omega arith in rw (shr-shr, e)

pub lane_suc : (w k : ℕ) → lane w (suc k) ≡ lane (w / 256) k
lane_suc w k = let e : 1 + k ≡ suc k = omega arith in rw e at (sym (lane_past w 1 k))

pub lane_lanes : (n : ℕ) (f : ℕ → ℕ) → ((k : ℕ) → f k < 256) → (i : ℕ) → i < n → lane (lanes n f) i ≡ f i
unfolding lanes
lane_lanes zero f h i l = absurd (not-suc-le-zero l)
lane_lanes (suc n) f h zero l = lane_zero _ ∙ omega (arith, h 0)
lane_lanes (suc n) f h (suc i) l =
    let e : (f 0 + 256 * lanes n (λ k. f (suc k))) / 256 ≡ lanes n (λ k. f (suc k)) = omega (arith, h 0) in
    lane_suc _ i ∙ ap (λ (x : ℕ). lane x i) e ∙ lane_lanes n (λ k. f (suc k)) (λ k. h (suc k)) i (omega arith)

pub lane_lt : (w k : ℕ) → lane w k < 256
unfolding lane
lane_lt w k = omega arith

-- ---- lanes that count bytes, four to a colour
pub lane_quad : (n c : ℕ) → ((k : ℕ) → k < n → lane c k < 16) → (i : ℕ) → i < n → lane (c * 4) i ≡ 4 * lane c i
lane_quad zero c h i l = absurd (not-suc-le-zero l)
lane_quad (suc n) c h zero l =
    let q = h 0 (omega arith) in
    let z = lane_zero c in
    lane_zero (c * 4) ∙ omega (arith, q, z)
lane_quad (suc n) c h (suc i) l =
    let q = h 0 (omega arith) in
    let z = lane_zero c in
    let e : c * 4 / 256 ≡ c / 256 * 4 = omega (arith, q, z) in
    lane_suc (c * 4) i
    ∙ ap (λ (x : ℕ). lane x i) e
    ∙ lane_quad n (c / 256) (λ k m. rw (← lane_suc c k) (h (suc k) (omega arith))) i (omega arith)
    ∙ ap (λ (x : ℕ). 4 * x) (sym (lane_suc c i))

pub lane_bytes : (c : ℕ) → c < 2 ^ 64 → ((k : ℕ) → k < 8 → lane c k < 16) → (i : ℕ) → i < 8 → lane (c * 4 % 2 ^ 64) i ≡ 4 * lane c i
unfolding lane
lane_bytes c l h i m =
    let q = h 7 (omega arith) in
    let e : c * 4 % 2 ^ 64 ≡ c * 4 = omega (arith, q) in
    ap (λ (x : ℕ). lane x i) e ∙ lane_quad 8 c h i m

-- a number of n lanes from its lanes
pub lanes_is : (n w : ℕ) (f : ℕ → ℕ) → w < 2 ^ (8 * n) → ((k : ℕ) → k < n → lane w k ≡ f k) → w ≡ lanes n f
unfolding lanes
lanes_is zero w f h e = lt-one h
lanes_is (suc n) w f h e =
    let p : 2 ^ (8 * suc n) ≡ 2 ^ (8 * n) * 256 = let q : 8 * suc n ≡ 8 * n + 8 = omega arith in ap (λ (k : ℕ). 2 ^ k) q ∙ pow-add 2 (8 * n) 8 in
    let l : w / 256 < 2 ^ (8 * n) = omega arith in
    omega (
      arith,
      sym (lane_zero w) ∙ e 0 (omega arith),
      lanes_is n (w / 256) (λ k. f (suc k)) l
          (λ k q. sym (lane_suc w k) ∙ e (suc k) (omega arith)),
    )

-- ---- the bits of a byte in the other order, by a sweep over all bytes
pub reversed_is : (b : ℕ) → b < 256 → reverse_bits w8 b ≡ number 8 (λ k. bit b (7 - k))
unfolding number bit reverse_bits_onto
reversed_is b h = same 256 (reverse_bits w8) (λ b. number 8 (λ k. bit b (7 - k))) tt b h

-- ---- the lanes in the other order
pub mirrored_is : (w : ℕ) → swap_bytes w64 w ≡ lanes 8 (λ k. lane w (7 - k))
unfolding lanes lane
mirrored_is w =
    let eight : (a b c d e f g h : ℕ) →
    a * 72057594037927936 + b * 281474976710656 + c * 1099511627776 + d * 4294967296 + e * 16777216 + f * 65536 + g * 256 + h
    ≡ h + 256 * (g + 256 * (f + 256 * (e + 256 * (d + 256 * (c + 256 * (b + 256 * (a + 256 * 0))))))) = λ a b c d e f g h. omega arith in
    ap (λ (a : ℕ). a * 72057594037927936 + lane w 1 * 281474976710656 + lane w 2 * 1099511627776 + lane w 3 * 4294967296 + lane w 4 * 16777216
    + lane w 5 * 65536 + lane w 6 * 256 + lane w 7) (sym (lane_zero w))
    ∙ eight (lane w 0) (lane w 1) (lane w 2) (lane w 3) (lane w 4) (lane w 5) (lane w 6) (lane w 7)

lanes_ext : (n : ℕ) (f g : ℕ → ℕ) → ((k : ℕ) → k < n → f k ≡ g k) → lanes n f ≡ lanes n g
unfolding lanes
lanes_ext zero f g e = refl
lanes_ext (suc n) f g e = rw (e 0 (omega arith), lanes_ext n (λ k. f (suc k)) (λ k. g (suc k)) (λ k h. e (suc k) (omega arith)))

-- lanes that are known, in the other order
pub turned_lanes : (f : ℕ → ℕ) → ((k : ℕ) → f k < 256) → {w : ℕ} → w ≡ lanes 8 f → lanes 8 (λ k. lane w (7 - k)) ≡ lanes 8 (λ k. f (7 - k))
turned_lanes f h e = lanes_ext 8 _ _ (λ k l. ap (λ (x : ℕ). lane x (7 - k)) e ∙ lane_lanes 8 f h (7 - k) (omega arith))

-- ---- which pixels are not of code 0
some : (d0 d1 d2 d3 : Bool) → ((d0 || d2) || (d1 || d3)) ≡ not (eqb (digit d0 + 2 * digit d1 + 4 * digit d2 + 8 * digit d3) 0)
some false false false false = refl
some false false false true = refl
some false false true false = refl
some false false true true = refl
some false true false false = refl
some false true false true = refl
some false true true false = refl
some false true true true = refl
some true false false false = refl
some true false false true = refl
some true false true false = refl
some true false true true = refl
some true true false false = refl
some true true false true = refl
some true true true false = refl
some true true true true = refl

pub solid_bit : (b0 b1 b2 b3 k : ℕ) → bit (bit_or (bit_or b0 b2) (bit_or b1 b3)) k ≡ not (eqb (code_of b0 b1 b2 b3 k) 0)
unfolding code_of
solid_bit b0 b1 b2 b3 k = rw (bit-or, bit-or, bit-or) (some (bit b0 k) (bit b1 k) (bit b2 k) (bit b3 k))

-- ---- a byte's bits, straight and cut
pub straight : (b : ℕ) → b < 256 → b ≡ number 8 (λ k. bit b (7 - (7 - k)))
straight b h =
    sym (number_bit 8 b h)
    ∙ number_ext 8 (bit b) (λ k. bit b (7 - (7 - k))) (λ j l. let e : j ≡ 7 - (7 - j) = omega arith in ap (bit b) e)

pub cut_low : (n : ℕ) → n ≤ 8 → 1 * 2 ^ n % 2 ^ 64 ≡ 2 ^ n
cut_low n h = shl_exact {a = 1} 1 n 64 (omega arith) (omega arith) ∙ one-mul (2 ^ n)

pub cut_lt : (b s m : ℕ) → b < 256 → b / 2 ^ s % m < 256
cut_lt b s m h = omega (arith, mod-le (b / 2 ^ s) m, shr_le b s)

pub cut_is : (b s n : ℕ) → s + n ≤ 8 → b / 2 ^ s % (1 * 2 ^ n % 2 ^ 64) ≡ number n (λ k. bit b (s + k))
cut_is b s n h =
    rw (cut_low n (omega arith))
    (sym (number_bit n (b / 2 ^ s % 2 ^ n) (mod-lt (b / 2 ^ s) (pow_pos n)))
    ∙ number_ext n (bit (b / 2 ^ s % 2 ^ n)) (λ k. bit b (s + k)) (λ j l. bit_mod n (b / 2 ^ s) j l ∙ bit_shr b s j))
