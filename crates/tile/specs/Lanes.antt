-- Eight small numbers side by side in one: a lane is a byte of it.
-- Assumes nothing.
use Rattle.std.specs.Prelude.{ℕ, zero, suc, ◌+◌, ◌*◌, ◌/◌, ◌%◌, ◌^◌}
use Rattle.std.specs.Int.Bits.{bit_and, bit_xor}

-- the number whose n lowest lanes are f 0, f 1, ..
unfoldable pub lanes : ℕ → (ℕ → ℕ) → ℕ
lanes zero f = 0
lanes (suc n) f = f 0 + 256 * lanes n (λ k. f (suc k))

-- lane k of a number
unfoldable pub lane : ℕ → ℕ → ℕ
lane w k = w / 2 ^ (8 * k) % 256

-- a number of 64 bits with those that are s places apart exchanged where m has the lower of the two
unfoldable pub exchange : ℕ → ℕ → ℕ → ℕ
exchange x s m = bit_xor (bit_xor x (bit_and (bit_xor x (x / 2 ^ s)) m)) (bit_and (bit_xor x (x / 2 ^ s)) m * 2 ^ s % 2 ^ 64)
