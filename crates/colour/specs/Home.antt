-- R20.2: a colour of one byte of the home machine's palette, and the 32 of that palette.
-- Assumes nothing.
use Rattle.std.specs.Prelude.{List, ℕ, ◌*◌, ◌/◌, ◌%◌}
use Rattle.laws.specs.Lists.{at}
use Rattle.laws.specs.Paint.{of_bytes}
use Rattle.laws.specs.Table.{table}

-- what the two lowest bits of b show as
abbrev pub shade : ℕ → ℕ
shade b = 85 * (b % 4)

-- the colour as a number, red its lowest byte
unfoldable pub home_colour : ℕ → ℕ
home_colour b = of_bytes (shade b) (shade (b / 4)) (shade (b / 16)) 255

-- the 32 colours of 32 palette bytes
unfoldable pub home_colours_of : List ℕ → List ℕ
home_colours_of p = table 32 (λ i. home_colour (at p i))
