-- The four bytes of a tile's line as rows of bits, and the eight codes as the columns: what the exchanges of bits come to.
-- Assumes nothing.
use mathlib.Core.Path.{◌≡◌, refl, sym, ap, ap₂, ◌∙◌}
use mathlib.Core.Bool.{Bool, true, false, cond, not, ◌&&◌, ◌||◌, or-false}
use Prim.Native.Nat.{ℕ, zero, suc, ◌+◌, ◌-◌, ◌*◌, ◌/◌, ◌%◌, ◌^◌, ◌<◌, ◌≤◌}
use native.Mathlib.Nat.{div-one, mod-lt, mul_assoc, lt_of_le_of_lt}
use native.Mathlib.Decide.{dec_lt}
use native.Mathlib.Omega.{arith}
use lib.Bits.{bit_and, bit_or, bit_xor, differ, or_mod, or_shr, xor_shr, xor_step, xor_lt, and_le_l, and_le_r, shifted_even}
use lib.Dec.{eqb, ltb, leb}
use lib.Pow.{shl-shr, shr-shr, shr_le, pow-add, pow_pos}
use borrow.Author.Tests.{lt-ltb, le-ltb, le-leb, lt-leb}
use Rattle.laws.specs.Bits.{bit, digit, number, byte_of}
use Rattle.laws.proofs.Bits.{bit-or, bit-and, bit_shr, bit_mod, bit_above, byte_is}
use Rattle.laws.proofs.Sweep.{same}
use Rattle.picture.specs.Tile.{code_of}
use Rattle.tile.specs.Lanes.{lanes, lane, exchange}
use Rattle.tile.proofs.Lanes.{lane_lt, lanes_is}

-- ---- `^` and `<<`, bit by bit
abbrev unlike : Bool → Bool → Bool
unlike true b = not b
unlike false b = b

unlike_digits : (p q : ℕ) → p < 2 → q < 2 → eqb (differ p q) 1 ≡ unlike (eqb p 1) (eqb q 1)
unlike_digits zero zero hp hq = refl
unlike_digits zero (suc zero) hp hq = refl
unlike_digits zero (suc (suc q)) hp hq = absurd (omega arith)
unlike_digits (suc zero) zero hp hq = refl
unlike_digits (suc zero) (suc zero) hp hq = refl
unlike_digits (suc zero) (suc (suc q)) hp hq = absurd (omega arith)
unlike_digits (suc (suc p)) q hp hq = absurd (omega arith)

differ_lt : (p q : ℕ) → p < 2 → q < 2 → differ p q < 2
differ_lt zero zero hp hq = omega arith
differ_lt zero (suc zero) hp hq = omega arith
differ_lt zero (suc (suc q)) hp hq = absurd (omega arith)
differ_lt (suc zero) zero hp hq = omega arith
differ_lt (suc zero) (suc zero) hp hq = omega arith
differ_lt (suc zero) (suc (suc q)) hp hq = absurd (omega arith)
differ_lt (suc (suc p)) q hp hq = absurd (omega arith)

xor_low : (a b : ℕ) → bit_xor a b % 2 ≡ differ (a % 2) (b % 2)
xor_low a b = let h = differ_lt (a % 2) (b % 2) (omega arith) (omega arith) in omega (arith, xor_step a b)

bit-xor : (a b j : ℕ) → bit (bit_xor a b) j ≡ unlike (bit a j) (bit b j)
unfolding bit
bit-xor a b j =
    ap (λ (x : ℕ). eqb (x % 2) 1) (xor_shr a b j)
    ∙ ap (λ (x : ℕ). eqb x 1) (xor_low (a / 2 ^ j) (b / 2 ^ j))
    ∙ unlike_digits (a / 2 ^ j % 2) (b / 2 ^ j % 2) (omega arith) (omega arith)

-- below the shift no bit is set, and from it on stand the bits of v
bit_up_low : (v s j : ℕ) → j < s → bit (v * 2 ^ s) j ≡ false
unfolding bit
bit_up_low v s j h =
    let d = s - j - 1 in
    let e : s ≡ suc d + j = omega arith in
    let q : v * 2 ^ s ≡ v * 2 ^ suc d * 2 ^ j = ap (λ (k : ℕ). v * 2 ^ k) e ∙ ap (λ (k : ℕ). v * k) (pow-add 2 (suc d) j) ∙ sym
    (mul_assoc v (2 ^ suc d) (2 ^ j)) in
    ap (λ (x : ℕ). eqb (x / 2 ^ j % 2) 1) q ∙ ap (λ (x : ℕ). eqb (x % 2) 1) (shl-shr (v * 2 ^ suc d) j) ∙ ap (λ (x : ℕ). eqb x 1) (shifted_even v d)

bit_up : (v s j : ℕ) → j < 64 → bit (v * 2 ^ s % 2 ^ 64) j ≡ (leb s j && bit v (j - s))
bit_up v s j h =
    bit_mod 64 (v * 2 ^ s) j h
    ∙ elim (dec_lt j s) [
      | yes l ↦ bit_up_low v s j l ∙ rw (lt-leb s j l)
      | no nl ↦
          let le : s ≤ j = omega arith in
          let e : s + (j - s) ≡ j = omega arith in
          ap (bit (v * 2 ^ s)) (sym e) ∙ sym (bit_shr (v * 2 ^ s) s (j - s)) ∙ ap (λ (x : ℕ). bit x (j - s)) (shl-shr v s) ∙ rw (le-leb s j le)
    ]

-- ---- one exchange: where a bit of the number comes from
abbrev moved : ℕ → ℕ → ℕ → ℕ
moved s m j = cond (bit m j) (s + j) (cond (leb s j && bit m (j - s)) (j - s) j)

and-false : (a : Bool) → (a && false) ≡ false
and-false true = refl
and-false false = refl

pub and-true : (a : Bool) → (a && true) ≡ a
and-true true = refl
and-true false = refl

once : (a b : Bool) → unlike (unlike a (unlike a b)) false ≡ b
once true true = refl
once true false = refl
once false true = refl
once false false = refl

back : (a d : Bool) → unlike (unlike a false) (unlike d a) ≡ d
back true true = refl
back true false = refl
back false true = refl
back false false = refl

none : (a : Bool) → unlike (unlike a false) false ≡ a
none true = refl
none false = refl

-- a bit a, with b above it and d below it, where the mask has its place (u) or the place below (l)
three : (a b d u l : Bool) → (u && l) ≡ false → unlike (unlike a (unlike a b && u)) (unlike d a && l) ≡ cond u b (cond l d a)
three a b d true true e = absurd (let z : ◌≡◌ {A = ℕ} 0 1 = ap (λ (t : Bool). digit (not t)) e in omega arith)
three a b d true false e = rw (and-true (unlike a b), and-false (unlike d a)) (once a b)
three a b d false true e = rw (and-false (unlike a b), and-true (unlike d a)) (back a d)
three a b d false false e = rw (and-false (unlike a b), and-false (unlike d a)) (none a)

lower : (x s j : ℕ) (u : Bool) → (leb s j && (unlike (bit x (j - s)) (bit x (s + (j - s))) && u)) ≡
    (unlike (bit x (j - s)) (bit x j) && (leb s j && u))
lower x s j u =
    elim (dec_lt j s) [
      | yes l ↦ rw (lt-leb s j l) (sym (and-false (unlike (bit x (j - s)) (bit x j))))
      | no nl ↦
          let le : s ≤ j = omega arith in
          let e : s + (j - s) ≡ j = omega arith in
          rw (le-leb s j le, e)
    ]

of_cond : (x : ℕ) (t : Bool) (i j : ℕ) → bit x (cond t i j) ≡ cond t (bit x i) (bit x j)
of_cond x true i j = refl
of_cond x false i j = refl

exchange_bit : (x s m j : ℕ) → j < 64 → (bit m j && (leb s j && bit m (j - s))) ≡ false → bit (exchange x s m) j ≡ bit x (moved s m j)
unfolding exchange
exchange_bit x s m j h e =
    let t = bit_and (bit_xor x (x / 2 ^ s)) m in
    let q : (i : ℕ) → bit t i ≡ (unlike (bit x i) (bit x (s + i)) && bit m i) =
    λ i. bit-and (bit_xor x (x / 2 ^ s)) m i ∙ ap (λ (b : Bool). b && bit m i) (bit-xor x (x / 2 ^ s) i ∙ ap (unlike (bit x i)) (bit_shr x s i)) in
    bit-xor (bit_xor x t) (t * 2 ^ s % 2 ^ 64) j
    ∙ ap₂ unlike
    (bit-xor x t j ∙ ap (unlike (bit x j)) (q j))
    (bit_up t s j h ∙ ap (λ (b : Bool). leb s j && b) (q (j - s)) ∙ lower x s j (bit m (j - s)))
    ∙ three (bit x j) (bit x (s + j)) (bit x (j - s)) (bit m j) (leb s j && bit m (j - s)) e
    ∙ sym (of_cond x (bit m j) (s + j) (cond (leb s j && bit m (j - s)) (j - s) j)
    ∙ ap (cond (bit m j) (bit x (s + j))) (of_cond x (leb s j && bit m (j - s)) (j - s) j))

exchange_lt : (x s m : ℕ) → x < 2 ^ 64 → exchange x s m < 2 ^ 64
unfolding exchange
exchange_lt x s m h =
    let t = bit_and (bit_xor x (x / 2 ^ s)) m in
    let u : bit_xor x (x / 2 ^ s) < 2 ^ 64 = xor_lt 64 x (x / 2 ^ s) h (lt_of_le_of_lt (shr_le x s) h) in
    xor_lt 64 (bit_xor x t) (t * 2 ^ s % 2 ^ 64) (xor_lt 64 x t h (lt_of_le_of_lt (and_le_l (bit_xor x (x / 2 ^ s)) m) u))
    (mod-lt (t * 2 ^ s) (pow_pos 64))

-- ---- tests as numbers, for the sweeps
digit_false : (b : Bool) → digit b ≡ 0 → b ≡ false
digit_false true e = absurd (omega arith)
digit_false false e = refl

pub digit_same : (a b : Bool) → digit a ≡ digit b → a ≡ b
digit_same true true e = refl
digit_same true false e = absurd (omega arith)
digit_same false true e = absurd (omega arith)
digit_same false false e = refl

ltb-digit : (a b : ℕ) → digit (ltb a b) ≡ 1 → a < b
ltb-digit a b e =
    elim (dec_lt a b) [
      | yes l ↦ l
      | no nl ↦ let le : b ≤ a = omega arith in absurd
          (let z : ◌≡◌ {A = ℕ} 0 1 = ap digit (sym (le-ltb a b le)) ∙ e in omega arith)
    ]

-- ---- the four bytes, their halves apart
abbrev fours : ℕ → ℕ
fours x = bit_and (bit_or x (x * 2 ^ 28 % 2 ^ 64)) 0x0F0F0F0F0F0F0F0F

abbrev halved : ℕ → ℕ
halved j = cond (ltb j 32) j (j - 28)

fours_bit : (x j : ℕ) → x < 2 ^ 32 → j < 64 → bit (fours x) j ≡ (bit x (halved j) && bit 0x0F0F0F0F0F0F0F0F j)
unfolding bit
fours_bit x j h l =
    bit-and (bit_or x (x * 2 ^ 28 % 2 ^ 64)) 0x0F0F0F0F0F0F0F0F j
    ∙ ap (λ (b : Bool). b && bit 0x0F0F0F0F0F0F0F0F j) (bit-or x (x * 2 ^ 28 % 2 ^ 64) j ∙ ap (λ (b : Bool). bit x j || b) (bit_up x 28 j l))
    ∙ elim (dec_lt j 32) [
      | yes u ↦ elim (dec_lt j 28) [
        | yes v ↦ rw (lt-ltb j 32 u, lt-leb 28 j v, or-false (bit x j))
        | no nv ↦
            let q : j ≡ 28 + (j - 28) = omega arith in
            let e = ap (bit 0x0F0F0F0F0F0F0F0F) q ∙ digit_false _
            (same 4 (λ i. digit (bit 0x0F0F0F0F0F0F0F0F (28 + i))) (λ i. 0) tt (j - 28) (omega arith)) in
            rw (e, and-false (bit x j || (leb 28 j && bit x (j - 28))), and-false (bit x (halved j)))
      ]
      | no nu ↦
          let a : 32 ≤ j = omega arith in
          let b : 28 ≤ j = omega arith in
          rw (le-ltb j 32 a, le-leb 28 j b, bit_above 32 x j h a)
    ]

-- ---- the exchanges, one after the other: bit j of the codes
abbrev first : ℕ → ℕ
first j = moved 7 0x00AA00AA00AA00AA j

abbrev source : ℕ → ℕ
source j = moved 14 0x0000CCCC0000CCCC (first j)

abbrev clash : ℕ → ℕ → ℕ → ℕ
clash s m j = digit (bit m j && (leb s j && bit m (j - s)))

columns : (x j : ℕ) → x < 2 ^ 32 → j < 64 → bit (exchange (exchange (fours x) 14 0x0000CCCC0000CCCC) 7 0x00AA00AA00AA00AA) j ≡
    (bit x (halved (source j)) && ltb (j % 8) 4)
unfolding bit
columns x j h l =
    let a = digit_false _ (same 64 (clash 7 0x00AA00AA00AA00AA) (λ j. 0) tt j l) in
    let b = ltb-digit _ _ (same 64 (λ j. digit (ltb (first j) 64)) (λ j. 1) tt j l) in
    let c = digit_false _ (same 64 (λ j. clash 14 0x0000CCCC0000CCCC (first j)) (λ j. 0) tt j l) in
    let d = ltb-digit _ _ (same 64 (λ j. digit (ltb (source j) 64)) (λ j. 1) tt j l) in
    let e = digit_same _ _ (same 64 (λ j. digit (bit 0x0F0F0F0F0F0F0F0F (source j))) (λ j. digit (ltb (j % 8) 4)) tt j l) in
    exchange_bit (exchange (fours x) 14 0x0000CCCC0000CCCC) 7 0x00AA00AA00AA00AA j l a
    ∙ exchange_bit (fours x) 14 0x0000CCCC0000CCCC (first j) b c
    ∙ fours_bit x (source j) h d
    ∙ ap (λ (b : Bool). bit x (halved (source j)) && b) e

turns : (j : ℕ) → j < 64 → cond (ltb (j % 8) 4) (halved (source j)) 0 ≡ cond (ltb (j % 8) 4) (8 * (j % 8) + j / 8) 0
unfolding bit
turns j l = same 64 (λ j. cond (ltb (j % 8) 4) (halved (source j)) 0) (λ j. cond (ltb (j % 8) 4) (8 * (j % 8) + j / 8) 0) tt j l

-- the codes as the code makes them
abbrev pub codes : ℕ → ℕ
codes x = exchange (exchange (fours x) 14 0x0000CCCC0000CCCC) 7 0x00AA00AA00AA00AA

squares : (x k r : ℕ) → x < 2 ^ 32 → k < 8 → r < 8 → bit (codes x) (8 * k + r) ≡ (bit x (8 * r + k) && ltb r 4)
squares x k r h hk hr =
    let j = 8 * k + r in
    let l : 8 * k + r < 64 = omega arith in
    let er : (8 * k + r) % 8 ≡ r = omega arith in
    let ek : (8 * k + r) / 8 ≡ k = omega arith in
    columns x (8 * k + r) h l
    ∙ elim (dec_lt r 4) [
      | yes u ↦
          let t = lt-ltb r 4 u in
          let q : halved (source (8 * k + r)) ≡ 8 * r + k = rw (er, ek, t) at (turns (8 * k + r) l) in
          ap₂ (λ (i : ℕ) (b : Bool). bit x i && b) q (ap (λ (n : ℕ). ltb n 4) er)
      | no nu ↦
          let a : 4 ≤ r = omega arith in
          rw (er, le-ltb r 4 a, and-false (bit x (halved (source (8 * k + r)))), and-false (bit x (8 * r + k)))
    ]

-- ---- the codes, lane by lane
bit_lane : (w k r : ℕ) → r < 8 → bit (lane w k) r ≡ bit w (8 * k + r)
unfolding lane
bit_lane w k r h = bit_mod 8 (w / 2 ^ (8 * k)) r h ∙ bit_shr w (8 * k) r

code_byte : (x k : ℕ) → k < 8 → byte_of (λ r. bit x (8 * r + k) && ltb r 4) ≡ code_of (lane x 0) (lane x 1) (lane x 2) (lane x 3) k
unfolding byte_of number code_of
code_byte x k h =
    let q : (r : ℕ) → r < 4 → digit (bit x (8 * r + k) && ltb r 4) ≡ digit (bit (lane x r) k) =
    λ r l. ap (λ (b : Bool). digit (bit x (8 * r + k) && b)) (lt-ltb r 4 l) ∙ ap digit (and-true (bit x (8 * r + k)) ∙ sym (bit_lane x r k h)) in
    let z : (r : ℕ) → 4 ≤ r → digit (bit x (8 * r + k) && ltb r 4) ≡ 0 =
    λ r l. ap (λ (b : Bool). digit (bit x (8 * r + k) && b)) (le-ltb r 4 l) ∙ ap digit (and-false (bit x (8 * r + k))) in
    omega (
      arith,
      q 0 (omega arith),
      q 1 (omega arith),
      q 2 (omega arith),
      q 3 (omega arith),
      z 4 (omega arith),
      z 5 (omega arith),
      z 6
          (omega arith),
      z 7 (omega arith),
    )

codes_lane : (x k : ℕ) → x < 2 ^ 32 → k < 8 → lane (codes x) k ≡ code_of (lane x 0) (lane x 1) (lane x 2) (lane x 3) k
codes_lane x k h hk =
    byte_is (lane (codes x) k) (λ r. bit x (8 * r + k) && ltb r 4) (lane_lt (codes x) k)
    (λ r l. sym (bit_lane (codes x) k r l ∙ squares x k r h hk l))
    ∙ code_byte x k hk

fours_lt : (x : ℕ) → x < 2 ^ 32 → fours x < 2 ^ 64
fours_lt x h = lt_of_le_of_lt (and_le_r (bit_or x (x * 2 ^ 28 % 2 ^ 64)) 0x0F0F0F0F0F0F0F0F) (omega arith)

pub codes_are : (x : ℕ) (f : ℕ → ℕ) → x < 2 ^ 32 → ((k : ℕ) → k < 8 → f k ≡ k) → codes x ≡ lanes 8
    (λ k. code_of (lane x 0) (lane x 1) (lane x 2) (lane x 3) (f k))
codes_are x f h e =
    lanes_is 8 (codes x) (λ k. code_of (lane x 0) (lane x 1) (lane x 2) (lane x 3) (f k))
    (exchange_lt (exchange (fours x) 14 0x0000CCCC0000CCCC) 7 0x00AA00AA00AA00AA (exchange_lt (fours x) 14 0x0000CCCC0000CCCC (fours_lt x h)))
    (λ k l. codes_lane x k h l ∙ ap (code_of (lane x 0) (lane x 1) (lane x 2) (lane x 3)) (sym (e k l)))

-- ---- the four bytes laid over each other
pub solid_is : (x : ℕ) → bit_or (bit_or x (x / 2 ^ 16)) (bit_or x (x / 2 ^ 16) / 2 ^ 8) % 256 ≡ bit_or (bit_or (lane x 0) (lane x 2))
    (bit_or (lane x 1) (lane x 3))
unfolding lane
solid_is x =
    or_mod (bit_or x (x / 2 ^ 16)) (bit_or x (x / 2 ^ 16) / 2 ^ 8) 8
    ∙ ap₂ bit_or
    (or_mod x (x / 2 ^ 16) 8 ∙ ap (λ (n : ℕ). bit_or n (x / 2 ^ 16 % 256)) (ap (λ (n : ℕ). n % 256) (sym (div-one x))))
    (ap (λ (n : ℕ). n % 256) (or_shr x (x / 2 ^ 16) 8 ∙ ap (bit_or (x / 2 ^ 8)) (shr-shr x 16 8)) ∙ or_mod (x / 2 ^ 8) (x / 2 ^ 24) 8)
