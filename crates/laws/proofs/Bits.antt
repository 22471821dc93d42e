-- The laws of one byte's bits: of the number that bits make, and of `|`, `<<` and `>>`, bit by bit.
-- Assumes nothing.
use mathlib.Core.Path.{◌≡◌, refl, sym, ap, ap₂, ◌∙◌, fun_ext}
use mathlib.Core.Bool.{Bool, true, false, cond, ◌||◌, ◌&&◌}
use Prim.Native.Nat.{ℕ, zero, suc, ◌+◌, ◌*◌, ◌/◌, ◌%◌, ◌-◌, ◌^◌, ◌≤◌, ◌<◌, min, max}
use native.Mathlib.Nat.{div-one, div-eq_of_lt, lt_of_lt_of_le, pow-suc, mul_assoc, add_comm, add-zero, add-suc, not-suc-le-zero}
use native.Mathlib.Numerals.{one-add, add-one}
use native.Mathlib.Omega.{arith}
use lib.Arith.{lt-one}
use lib.Dec.{eqb}
use lib.Pow.{shl_exact, shr-shr, shl-shr, pow_mono, field, mod-mod-pow}
use lib.Bits.{bit_and, bit_or, and_shr, and_step, or_shr, or_step, or_lt, or_shifted_r, shifted_half, shifted_even}
use Rattle.laws.specs.Bits.{bit, digit, number, byte_of}

-- ---- bit 0 and the others
pub digit_test : (d : ℕ) → d < 2 → digit (eqb d 1) ≡ d
digit_test zero h = refl
digit_test (suc zero) h = refl
digit_test (suc (suc d)) h = absurd (omega arith)

test_digit : (b : Bool) → eqb (digit b) 1 ≡ b
test_digit true = refl
test_digit false = refl

pub bit_zero : (n : ℕ) → bit n 0 ≡ eqb (n % 2) 1
unfolding bit
bit_zero n = ap (λ (x : ℕ). eqb (x % 2) 1) (div-one n)

pub bit_suc : (n j : ℕ) → bit n (suc j) ≡ bit (n / 2) j
unfolding bit
bit_suc n j = ap (λ (x : ℕ). eqb (x % 2) 1) (ap (λ (k : ℕ). n / 2 ^ k) (sym (one-add j)) ∙ sym (shr-shr n 1 j))

-- ---- the number that bits make
pub number_ext : (n : ℕ) (f g : ℕ → Bool) → ((j : ℕ) → j < n → f j ≡ g j) → number n f ≡ number n g
unfolding number
number_ext zero f g e = refl
number_ext (suc n) f g e =
    ap₂ (λ (b : Bool) (x : ℕ). digit b + 2 * x) (e 0 (omega arith))
    (number_ext n (λ j. f (suc j)) (λ j. g (suc j)) (λ j h. e (suc j) (omega arith)))

pub number_bit : (n b : ℕ) → b < 2 ^ n → number n (bit b) ≡ b
unfolding number
number_bit zero b h = sym (lt-one h)
number_bit (suc n) b h =
    ap₂ (λ (d : ℕ) (x : ℕ). d + 2 * x)
    (ap digit (bit_zero b) ∙ digit_test (b % 2) (omega arith))
    (ap (number n) (fun_ext (bit_suc b)) ∙ number_bit n (b / 2) (omega (arith, pow-suc 2 n)))
    ∙ omega arith

digit_lt : (b : Bool) → digit b < 2
digit_lt true = omega arith
digit_lt false = omega arith

pub bit_number : (n : ℕ) (f : ℕ → Bool) (j : ℕ) → j < n → bit (number n f) j ≡ f j
unfolding number
bit_number zero f j h = absurd (not-suc-le-zero h)
bit_number (suc n) f zero h =
    let m = number n (λ j. f (suc j)) in
    let e : (digit (f 0) + 2 * m) % 2 ≡ digit (f 0) = omega (arith, digit_lt (f 0)) in
    bit_zero (digit (f 0) + 2 * m) ∙ ap (λ (x : ℕ). eqb x 1) e ∙ test_digit (f 0)
bit_number (suc n) f (suc j) h =
    let m = number n (λ j. f (suc j)) in
    let e : (digit (f 0) + 2 * m) / 2 ≡ m = omega (arith, digit_lt (f 0)) in
    bit_suc (digit (f 0) + 2 * m) j ∙ ap (λ (x : ℕ). bit x j) e ∙ bit_number n (λ j. f (suc j)) j (omega arith)

pub number_lt : (n : ℕ) (f : ℕ → Bool) → number n f < 2 ^ n
unfolding number
number_lt zero f = omega arith
number_lt (suc n) f = omega (arith, digit_lt (f 0), number_lt n (λ j. f (suc j)), pow-suc 2 n)

shift_suc : (a k : ℕ) → a * 2 ^ suc k ≡ a * 2 ^ k * 2
shift_suc a k = ap (λ (x : ℕ). a * x) (pow-suc 2 k) ∙ sym (mul_assoc a (2 ^ k) 2)

-- one bit more, at the top
pub number_snoc : (n : ℕ) (f : ℕ → Bool) → number (suc n) f ≡ number n f + digit (f n) * 2 ^ n
unfolding number
number_snoc zero f = omega arith
number_snoc (suc n) f = omega (arith, number_snoc n (λ j. f (suc j)), shift_suc (digit (f (suc n))) n)

-- `bits |= 1 << n`, where bits has none from n on
pub number_mark : (n : ℕ) (f : ℕ → Bool) → f n ≡ true → bit_or (number n f) (1 * 2 ^ n) ≡ number (suc n) f
number_mark n f e =
    or_shifted_r 1 n (number n f) (number_lt n f)
    ∙ add_comm (1 * 2 ^ n) (number n f)
    ∙ ap (λ (b : Bool). number n f + digit b * 2 ^ n) (sym e)
    ∙ sym (number_snoc n f)

-- the same in a byte, where the shift is `1 * 2 ^ n % 256`
pub byte_mark : (n : ℕ) (f : ℕ → Bool) → n < 8 → f n ≡ true → bit_or (number n f) (1 * 2 ^ n % 256) ≡ number (suc n) f
byte_mark n f h e = ap (bit_or (number n f)) (shl_exact {a = 1} 1 n 8 (omega arith) (omega arith)) ∙ number_mark n f e

pub number_skip : (n : ℕ) (f : ℕ → Bool) → f n ≡ false → number n f ≡ number (suc n) f
number_skip n f e = let z : digit (f n) * 2 ^ n ≡ 0 = ap (λ (b : Bool). digit b * 2 ^ n) e ∙ omega arith in omega (arith, number_snoc n f)

-- ---- a number has no bits above it
pub bit_above : (n b j : ℕ) → b < 2 ^ n → n ≤ j → bit b j ≡ false
unfolding bit
bit_above n b j h le = ap (λ (x : ℕ). eqb (x % 2) 1) (div-eq_of_lt (lt_of_lt_of_le h (pow_mono le)))

-- ---- `|`
or_digits : (p q : ℕ) → p < 2 → q < 2 → eqb (max p q) 1 ≡ (eqb p 1 || eqb q 1)
or_digits zero zero hp hq = refl
or_digits zero (suc zero) hp hq = refl
or_digits zero (suc (suc q)) hp hq = absurd (omega arith)
or_digits (suc zero) zero hp hq = refl
or_digits (suc zero) (suc zero) hp hq = refl
or_digits (suc zero) (suc (suc q)) hp hq = absurd (omega arith)
or_digits (suc (suc p)) q hp hq = absurd (omega arith)

or_low : (a b : ℕ) → bit_or a b % 2 ≡ max (a % 2) (b % 2)
or_low a b = omega (arith, or_step a b)

pub bit-or : (a b j : ℕ) → bit (bit_or a b) j ≡ (bit a j || bit b j)
unfolding bit
bit-or a b j =
    ap (λ (x : ℕ). eqb (x % 2) 1) (or_shr a b j)
    ∙ ap (λ (x : ℕ). eqb x 1) (or_low (a / 2 ^ j) (b / 2 ^ j))
    ∙ or_digits (a / 2 ^ j % 2) (b / 2 ^ j % 2) (omega arith) (omega arith)

-- ---- `&`
and_digits : (p q : ℕ) → p < 2 → q < 2 → eqb (min p q) 1 ≡ (eqb p 1 && eqb q 1)
and_digits zero zero hp hq = refl
and_digits zero (suc zero) hp hq = refl
and_digits zero (suc (suc q)) hp hq = absurd (omega arith)
and_digits (suc zero) zero hp hq = refl
and_digits (suc zero) (suc zero) hp hq = refl
and_digits (suc zero) (suc (suc q)) hp hq = absurd (omega arith)
and_digits (suc (suc p)) q hp hq = absurd (omega arith)

and_low : (a b : ℕ) → bit_and a b % 2 ≡ min (a % 2) (b % 2)
and_low a b = omega (arith, and_step a b)

pub bit-and : (a b j : ℕ) → bit (bit_and a b) j ≡ (bit a j && bit b j)
unfolding bit
bit-and a b j =
    ap (λ (x : ℕ). eqb (x % 2) 1) (and_shr a b j)
    ∙ ap (λ (x : ℕ). eqb x 1) (and_low (a / 2 ^ j) (b / 2 ^ j))
    ∙ and_digits (a / 2 ^ j % 2) (b / 2 ^ j % 2) (omega arith) (omega arith)

-- ---- `>>`
pub bit_shr : (n k j : ℕ) → bit (n / 2 ^ k) j ≡ bit n (k + j)
unfolding bit
bit_shr n k j = ap (λ (x : ℕ). eqb (x % 2) 1) (shr-shr n k j)

-- ---- `<<`, which drops what leaves the byte
pub bit_mod : (n x j : ℕ) → j < n → bit (x % 2 ^ n) j ≡ bit x j
bit_mod zero x j h = absurd (not-suc-le-zero h)
bit_mod (suc n) x zero h =
    bit_zero (x % 2 ^ suc n)
    ∙ ap (λ (y : ℕ). eqb y 1) (ap (λ (k : ℕ). x % 2 ^ k % 2) (sym (add-one n)) ∙ mod-mod-pow x n 1)
    ∙ sym (bit_zero x)
bit_mod (suc n) x (suc j) h =
    bit_suc (x % 2 ^ suc n) j
    ∙ ap (λ (y : ℕ). bit y j) (ap (λ (k : ℕ). x % 2 ^ k / 2) (sym (add-one n)) ∙ field x n 1)
    ∙ bit_mod n (x / 2) j (omega arith)
    ∙ sym (bit_suc x j)

bit_mul_low : (v s j : ℕ) → j < s → bit (v * 2 ^ s) j ≡ false
bit_mul_low v zero j h = absurd (not-suc-le-zero h)
bit_mul_low v (suc s) zero h = bit_zero (v * 2 ^ suc s) ∙ ap (λ (x : ℕ). eqb x 1) (shifted_even v s)
bit_mul_low v (suc s) (suc j) h =
    bit_suc (v * 2 ^ suc s) j ∙ ap (λ (x : ℕ). bit x j) (shifted_half v s) ∙ bit_mul_low v s j (omega arith)

-- below the shift no bit is set
pub bit_shl_low : (v s j : ℕ) → j < s → j < 8 → bit (v * 2 ^ s % 256) j ≡ false
bit_shl_low v s j h h8 = bit_mod 8 (v * 2 ^ s) j h8 ∙ bit_mul_low v s j h

-- from the shift on stand the bits of v
pub bit_shl : (v s j : ℕ) → s + j < 8 → bit (v * 2 ^ s % 256) (s + j) ≡ bit v j
bit_shl v s j h =
    bit_mod 8 (v * 2 ^ s) (s + j) h ∙ sym (bit_shr (v * 2 ^ s) s j) ∙ ap (λ (x : ℕ). bit x j) (shl-shr v s)

-- ---- a byte that an `|` made, from its bits
pub byte_or : (b x : ℕ) (g : ℕ → Bool) → b < 256 → x < 256 → ((j : ℕ) → j < 8 → g j ≡ (bit b j || bit x j)) → bit_or b x ≡ byte_of g
unfolding byte_of
byte_or b x g hb hx e =
    sym (number_bit 8 (bit_or b x) (or_lt 8 b x hb hx))
    ∙ number_ext 8 (bit (bit_or b x)) g (λ j h. bit-or b x j ∙ sym (e j h))

-- a byte from its bits
pub byte_is : (b : ℕ) (g : ℕ → Bool) → b < 256 → ((j : ℕ) → j < 8 → g j ≡ bit b j) → b ≡ byte_of g
unfolding byte_of
byte_is b g hb e = sym (number_bit 8 b hb) ∙ number_ext 8 (bit b) g (λ j h. sym (e j h))

pub bit_byte_of : (f : ℕ → Bool) (j : ℕ) → j < 8 → bit (byte_of f) j ≡ f j
unfolding byte_of
bit_byte_of f j h = bit_number 8 f j h

-- ---- a byte that a loop marks bit by bit
marked_next : (f : ℕ → Bool) (i b : ℕ) (t : Bool) → i < 8 → b ≡ number i f → f i ≡ t → cond t (bit_or b (1 * 2 ^ i % 256)) b ≡ number (i + 1) f
marked_next f i b true h e q = rw (e, add-one) (byte_mark i f h q)
marked_next f i b false h e q = rw (e, add-one) (number_skip i f q)

-- one bit more: what a turn of the loop shows
pub number_step :
    (f : ℕ → Bool) (i : ℕ) {b b' : ℕ} {t : Bool} → i < 8 → b ≡ number i f → t ≡ f i → b' ≡ cond t (bit_or b (1 * 2 ^ i % 256)) b → b' ≡ number (i + 1)
    f
number_step f i {b} {b'} {t} h e q p = p ∙ marked_next f i b t h e (sym q)

number_by : (f : ℕ → Bool) (n d : ℕ) → ((k : ℕ) → n ≤ k → f k ≡ false) → number n f ≡ number (n + d) f
number_by f n zero h = rw add-zero
number_by f n (suc d) h = rw add-suc (number_by f n d h ∙ number_skip (n + d) f (h (n + d) (omega arith)))

-- no bits from n on: n bits are the byte
pub number_all : (f : ℕ → Bool) (n : ℕ) → n ≤ 8 → ((k : ℕ) → n ≤ k → f k ≡ false) → number n f ≡ byte_of f
unfolding byte_of
number_all f n l h = let e : n + (8 - n) ≡ 8 = omega arith in rw e at (number_by f n (8 - n) h)
