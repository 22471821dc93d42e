-- R5.4, the masks: 256 bits around a circle in 32 bytes. Bit i of the mask is bit i mod 8 of byte i div 8, and bit 256 is bit 0 again.
-- Assumes nothing.
use Rattle.std.specs.Prelude.{Bool, false, ◌||◌, ◌&&◌, List, ◌++◌, ℕ, ◌+◌, ◌*◌, ◌/◌, ◌%◌, get_or, take}
use Rattle.laws.specs.Bits.{bit, byte_of, any}
use Rattle.laws.specs.Circle.{past}
use Rattle.laws.specs.Table.{table}

-- ---- the mask
-- bit i of the mask that the bytes m hold, around the circle
unfoldable pub bit_of : List ℕ → ℕ → Bool
bit_of m i = bit (get_or m (i % 256 / 8) 0) (i % 8)

-- the 32 bytes of the mask whose bit i is f i, for i below 256
unfoldable pub bytes_of : (ℕ → Bool) → List ℕ
bytes_of f = table 32 (λ k. byte_of (λ j. f (8 * k + j)))

-- ---- what the methods do

-- bit i of m with the byte value laid in at off: what was set stays, and bit j of value comes to bit off + j of the circle. So bit i gets
-- bit (i - off) mod 256 of value, and a byte has none from 8 on
unfoldable pub laid : List ℕ → ℕ → ℕ → ℕ → Bool
laid m off value i = bit_of m i || bit value (past i off)

unfoldable pub cleared : List ℕ
cleared = bytes_of (λ i. false)

unfoldable pub with_byte : List ℕ → ℕ → ℕ → List ℕ
with_byte m off value = bytes_of (laid m off value)

-- the byte whose bit j is bit off + j of the circle
unfoldable pub byte_at : List ℕ → ℕ → ℕ
byte_at m off = byte_of (λ j. bit_of m (off + j))

-- one of the pixels that `bits` has, from place k up, is set in the mask already
unfoldable pub hits : List ℕ → ℕ → ℕ → Bool
hits m k bits = any 8 (λ j. bit_of m (k + j) && bit bits j)

-- the bits 0 to 191 of a mask, and behind them the bits 0 to 63 of another
unfoldable pub joined : List ℕ → List ℕ → List ℕ
joined m n = take 24 m ++ take 8 n
