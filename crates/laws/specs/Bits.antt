-- The bits of a number, and the number that bits make.
-- Assumes nothing.
use Rattle.std.specs.Prelude.{Bool, true, false, ◌||◌, ℕ, zero, suc, ◌+◌, ◌*◌, ◌/◌, ◌%◌, ◌^◌, eqb}

-- bit j of the number n, bit 0 the lowest
unfoldable pub bit : ℕ → ℕ → Bool
bit n j = eqb (n / 2 ^ j % 2) 1

abbrev pub digit : Bool → ℕ
digit true = 1
digit false = 0

-- the number whose n lowest bits are f 0, f 1, .., and whose others are clear
unfoldable pub number : ℕ → (ℕ → Bool) → ℕ
number zero f = 0
number (suc n) f = digit (f 0) + 2 * number n (λ j. f (suc j))

-- the byte whose bit j is f j
unfoldable pub byte_of : (ℕ → Bool) → ℕ
byte_of f = number 8 f

-- f holds somewhere below n
unfoldable pub any : ℕ → (ℕ → Bool) → Bool
any zero f = false
any (suc n) f = f n || any n f
