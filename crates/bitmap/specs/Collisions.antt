-- The assertions of the Rust's own test `sprite_collisions`, as one computed statement about the definitions.
-- Assumes nothing.
use Rattle.std.specs.Prelude.{◌≡◌, refl, Bool, true, not, ◌&&◌, List, ℕ, replicate, set}
use Rattle.laws.specs.Bits.{bit, any}
use Rattle.bitmap.specs.Mask.{bit_of, hits}

-- the mask as the test changes it, byte by byte
m₁ : List ℕ
m₁ = set (replicate 32 0) 8 0xF3

m₂ : List ℕ
m₂ = set m₁ 12 0x3C

m₃ : List ℕ
m₃ = set m₂ 10 0x1

m₄ : List ℕ
m₄ = set m₃ 10 0x80

m₅ : List ℕ
m₅ = set m₄ 31 0xFF

m₆ : List ℕ
m₆ = set (set m₅ 31 0) 0 0xFF

pub asserted : Bool
asserted =
    hits m₁ 64 0xF && not (hits m₁ 72 0xF)
    && hits m₂ 95 0xF && not (hits m₂ 94 0xF)
    && hits m₃ 80 0xFF && hits m₃ 73 0xFF && not (hits m₃ 81 0xFF) && not (hits m₃ 72 0xFF)
    && hits m₄ 80 0xFF && hits m₄ 87 0xFF && not (hits m₄ 79 0xFF) && not (hits m₄ 88 0xFF)
    && hits m₅ 250 0xFF && hits m₆ 250 0xFF

pub all_hold : asserted ≡ true
unfolding asserted m₁ m₂ m₃ m₄ m₅ m₆ hits any bit_of bit
all_hold = refl
