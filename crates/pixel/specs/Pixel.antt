-- One pixel on its own: whether there is one, its colour number, and its colour.
-- Assumes nothing.
use Rattle.std.specs.Prelude.{ℕ, Bool, true, false, cond, not, ◌&&◌, List, [], ◌∷◌, nat_lt, Option, Some, None, Result, Err, Ok}
use Rattle.laws.specs.Lists.{at}
use Rattle.picture.specs.declared.Screen.{Screen}
use Rattle.picture.specs.Screen.{columns, rows, picture_of}
use Rattle.refusal.specs.declared.Refusal.{Refusal}
use Rattle.refusal.specs.declared.Refusal.TheVariants.{VramLength}
use Rattle.refusal.specs.Refusals.{whole, Line, line, under, Outcome, answered}
use Rattle.points.specs.Points.{Reading}

-- R16.2: row y and column x are on the screen
abbrev pub on_screen : Screen → ℕ → ℕ → Bool
on_screen s y x = nat_lt y (rows s) && nat_lt x (columns s)

-- R16.1: what the call answers: the colour number of the pixel, or that there is none, or why it is refused
abbrev pub Spot : Type 0
Spot = Result (Option ℕ) Refusal

-- the same in its colours: the colour of the pixel
abbrev pub Pixel : Type 0
Pixel = Result (Option ℕ) Refusal

-- no pixel, and why the call was refused, if it was
abbrev pub no_spot : Outcome → Spot
no_spot = answered None

-- R16.3: video memory first
abbrev pub pixel_lines : List ℕ → List Line
pixel_lines vram = line (not (whole vram)) (Err VramLength) ∷ []

-- R16.1 to R16.3: by the registers, the latched scroll and video memory, the pixel of row y at column x that the picture of the row has
unfoldable pub spot_of : Screen → List ℕ → ℕ → List ℕ → ℕ → ℕ → Spot
spot_of s reg scroll vram y x =
    under (pixel_lines vram) no_spot
    (cond (on_screen s y x) (Ok (Some ((picture_of s reg scroll vram y).colour x))) (Ok None))

-- R16.1: the same in these colours
abbrev pub in_colours : List ℕ → Spot → Pixel
in_colours colours (Ok (Some n)) = Ok (Some (at colours n))
in_colours colours (Ok None) = Ok None
in_colours colours (Err r) = Err r

-- R16.2: whether there is a pixel
abbrev pub has_pixel : Pixel → Bool
has_pixel (Ok (Some c)) = true
has_pixel (Ok None) = false
has_pixel (Err r) = false

-- R16.4: its four bytes are those of this colour, all 0 where there is no pixel
abbrev pub colour_of : Pixel → ℕ
colour_of (Ok (Some c)) = c
colour_of (Ok None) = 0
colour_of (Err r) = 0

-- R16.1, R16.4: of a machine, by what a step reads of it: the registers, the latched scroll and the colours that it has now, whatever its counter reads
unfoldable pub pixel_of : Screen → List ℕ → Reading → ℕ → ℕ → Pixel
pixel_of s vram k y x = in_colours k.colours (spot_of s k.reg k.raster.vertical_scroll vram y x)
