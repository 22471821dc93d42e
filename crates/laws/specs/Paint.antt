-- The bytes of a row of pixels, four to a pixel, and what is put into them.
-- Assumes nothing.
use Rattle.std.specs.Prelude.{ℕ, zero, suc, ◌+◌, ◌*◌, ◌/◌, ◌%◌, Bool, true, false, cond, List, set, eqb}
use Rattle.laws.specs.Lists.{at}

-- the row with the four bytes of colour c at pixel x
unfoldable pub put : List ℕ → ℕ → ℕ → List ℕ
put row x c = set (set (set (set row (x * 4) (c % 256)) (x * 4 + 1) (c / 256 % 256)) (x * 4 + 2) (c / 65536 % 256)) (x * 4 + 3) (c / 16777216 % 256)

-- byte b of a colour, the lowest first
abbrev pub byte_of_colour : ℕ → ℕ → ℕ
byte_of_colour c zero = c % 256
byte_of_colour c (suc zero) = c / 256 % 256
byte_of_colour c (suc (suc zero)) = c / 65536 % 256
byte_of_colour c (suc (suc (suc b))) = c / 16777216 % 256

-- the colour of four bytes, the lowest first
abbrev pub of_bytes : ℕ → ℕ → ℕ → ℕ → ℕ
of_bytes r g b a = r + 256 * g + 65536 * b + 16777216 * a

-- the four bytes from place k on as one number, the lowest first
abbrev pub four_at : List ℕ → ℕ → ℕ
four_at l k = of_bytes (at l k) (at l (k + 1)) (at l (k + 2)) (at l (k + 3))

-- the row with n pixels from x on, the i-th of colour f i
unfoldable pub painted : List ℕ → ℕ → ℕ → (ℕ → ℕ) → List ℕ
painted row x zero f = row
painted row x (suc n) f = put (painted row x n f) (x + n) (f n)

-- the row, or, where the test holds, the row with the pixel put
abbrev pub put_if : Bool → List ℕ → ℕ → ℕ → List ℕ
put_if true row x c = put row x c
put_if false row x c = row

-- the row with those of n pixels from x on that are shown, the i-th of colour f i
unfoldable pub overlaid : List ℕ → ℕ → ℕ → (ℕ → Bool) → (ℕ → ℕ) → List ℕ
overlaid row x zero shown f = row
overlaid row x (suc n) shown f = put_if (shown n) (overlaid row x n shown f) (x + n) (f n)

-- f with c at p
unfoldable pub over : (ℕ → ℕ) → ℕ → ℕ → ℕ → ℕ
over f p c i = cond (eqb i p) c (f i)

-- the picture g with the shown ones of n pixels of f from x on
unfoldable pub overlay : (ℕ → ℕ) → ℕ → ℕ → (ℕ → Bool) → (ℕ → ℕ) → ℕ → ℕ
overlay g x zero shown f p = g p
overlay g x (suc n) shown f p = cond (shown n) (over (overlay g x n shown f) (x + n) (f n) p) (overlay g x n shown f p)
