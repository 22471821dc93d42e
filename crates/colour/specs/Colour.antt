-- R4.6, R4.7: a colour of two palette bytes, and the 32 of a palette.
-- Assumes nothing.
use Rattle.std.specs.Prelude.{List, ℕ, ◌+◌, ◌*◌, ◌/◌, ◌%◌}
use Rattle.laws.specs.Lists.{at}
use Rattle.laws.specs.Paint.{of_bytes}
use Rattle.laws.specs.Table.{table}

abbrev pub red : ℕ → ℕ → ℕ
red a b = 17 * (a % 16)

abbrev pub green : ℕ → ℕ → ℕ
green a b = 17 * (a / 16)

abbrev pub blue : ℕ → ℕ → ℕ
blue a b = 17 * (b % 16)

-- the colour as a number, red its lowest byte
unfoldable pub colour : ℕ → ℕ → ℕ
colour a b = of_bytes (red a b) (green a b) (blue a b) 255

-- R4.7: both palettes, the 32 colours of 64 palette bytes
unfoldable pub colours_of : List ℕ → List ℕ
colours_of p = table 32 (λ i. colour (at p (2 * i)) (at p (2 * i + 1)))
