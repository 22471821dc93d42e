-- Laws of `any`, of places around the circle of 256, and of a number that is not 0.
-- Assumes nothing.
use mathlib.Core.Path.{◌≡◌, refl, sym, ap, ◌∙◌}
use mathlib.Core.Bool.{Bool, true, false, ◌&&◌, ◌||◌, not, or-false}
use Prim.Native.Nat.{ℕ, zero, suc, ◌+◌, ◌*◌, ◌%◌, ◌^◌, ◌<◌, ◌≤◌}
use native.Mathlib.Nat.{add-zero, add-suc}
use native.Mathlib.Decide.{ℕ_discrete, dec_lt}
use native.Mathlib.Omega.{arith}
use lib.Dec.{eqb, ltb}
use borrow.Author.Tests.{eq-eqb, ne_eqb, lt-ltb, le-ltb}
use Rattle.laws.specs.Bits.{bit, digit, number, any}
use lib.Pow.{pow_pos}
use Rattle.laws.proofs.Bits.{bit_number, bit_above, number_lt, number_snoc}
use Rattle.laws.specs.Circle.{past}
use Rattle.laws.proofs.Tests.{neither}

or_swap : (a b c : Bool) → (a || (b || c)) ≡ (b || (a || c))
or_swap true true c = refl
or_swap true false c = refl
or_swap false true c = refl
or_swap false false c = refl

pub any_cong : (n : ℕ) (f g : ℕ → Bool) → ((k : ℕ) → k < n → f k ≡ g k) → any n f ≡ any n g
unfolding any
any_cong zero f g e = refl
any_cong (suc n) f g e = rw (e n (omega arith), any_cong n f g (λ k h. e k (omega arith)))

pub any_none : (n : ℕ) (f : ℕ → Bool) → ((k : ℕ) → k < n → f k ≡ false) → any n f ≡ false
unfolding any
any_none zero f e = refl
any_none (suc n) f e = rw (e n (omega arith)) (any_none n f (λ k h. e k (omega arith)))

pub any_false : (n : ℕ) (f : ℕ → Bool) → any n f ≡ false → (k : ℕ) → k < n → f k ≡ false
unfolding any
any_false zero f e k h = absurd (omega arith)
any_false (suc n) f e k h =
    let t = neither (f n) (any n f) e in
    elim (dec_lt k n) [
      | yes l ↦ any_false n f t.1 k l
      | no l ↦ let q : k ≡ n = omega arith in ap f q ∙ t.0
    ]

pub any_split : (x n : ℕ) (f : ℕ → Bool) → any (x + n) f ≡ (any x f || any n (λ j. f (x + j)))
unfolding any
any_split x zero f = rw add-zero (sym (or-false (any x f)))
any_split x (suc n) f = rw (add-suc, any_split x n f) (or_swap (f (x + n)) (any x f) (any n (λ j. f (x + j))))

-- of the places off, off + 1, .. around the circle, place i is the one at past i off
pub any_place : (n off i : ℕ) (g : ℕ → Bool) → n ≤ 256 → i < 256 → any n (λ j. eqb ((off + j) % 256) i && g j) ≡
    (ltb (past i off) n && g (past i off))
unfolding any
any_place zero off i g h l = let z : 0 ≤ past i off = omega arith in rw (le-ltb (past i off) 0 z)
any_place (suc n) off i g h l =
    elim (ℕ_discrete n (past i off)) [
      | yes e ↦
          let here : (off + n) % 256 ≡ i = omega arith in
          let more : past i off < suc n = omega arith in
          let less : n ≤ past i off = omega arith in
          rw (eq-eqb ((off + n) % 256) i here, any_place n off i g (omega arith) l, lt-ltb (past i off) (suc n) more, le-ltb (past i off) n less, e)
          (or-false (g (past i off)))
      | no ne ↦
          let there : (off + n) % 256 ≡ i → ⊥ = λ q. ne (omega arith) in
          rw (ne_eqb ((off + n) % 256) i there, any_place n off i g (omega arith) l)
          (elim (dec_lt (past i off) n) [
            | yes k ↦ let m : past i off < suc n = omega arith in rw (lt-ltb (past i off) n k, lt-ltb (past i off) (suc n) m)
            | no k ↦
                let a : n ≤ past i off = omega arith in
                let b : suc n ≤ past i off = omega arith in
                rw (le-ltb (past i off) n a, le-ltb (past i off) (suc n) b)
          ])
    ]

-- a bit of a number that its bits give
pub bit_of_lem : (n : ℕ) (f : ℕ → Bool) (k : ℕ) → bit (number n f) k ≡ (ltb k n && f k)
bit_of_lem n f k =
    elim (dec_lt k n) [
      | yes h ↦ rw (lt-ltb k n h) (bit_number n f k h)
      | no h ↦ let l : n ≤ k = omega arith in rw (le-ltb k n l) (bit_above n (number n f) k (number_lt n f) l)
    ]

-- ---- a number is not 0 where one of its bits is set
weighted : (t : Bool) (a w : ℕ) → 0 < w → not (eqb (a + digit t * w) 0) ≡ (t || not (eqb a 0))
weighted true a w h = ap not (ne_eqb (a + 1 * w) 0 (λ e. omega arith))
weighted false a w h = let e : a + 0 * w ≡ a = omega arith in rw e

pub any_number : (n : ℕ) (f : ℕ → Bool) → not (eqb (number n f) 0) ≡ any n f
unfolding any number
any_number zero f = refl
any_number (suc n) f = rw (number_snoc n f) (weighted (f n) (number n f) (2 ^ n) (pow_pos n) ∙ ap (λ (b : Bool). f n || b) (any_number n f))
