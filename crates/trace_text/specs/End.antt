-- R7.11, R7.13, R20.9: the last line of a trace, and a frame as a picture.
-- Assumes nothing.
use Rattle.std.specs.Prelude.{Bool, cond, List, [], ◌∷◌, ◌++◌, ℕ, zero, suc, ◌+◌, ◌*◌, leb, length}
use Rattle.laws.specs.Lists.{at}
use Rattle.picture.specs.declared.Screen.{Screen}
use Rattle.picture.specs.Screen.{columns, rows}
use Rattle.trace_text.specs.Text.{decimal, line, end_line, bad_line}

-- whether the offset at which a run of the recording s stopped is its end; if not, a bad record stands there
abbrev pub ended : List ℕ → ℕ → Bool
ended s stopped = leb (length s) stopped

-- R7.11: the last line, by where the run stopped and how many records it had
unfoldable pub last_line : List ℕ → ℕ → ℕ → List ℕ
last_line s stopped count = cond (ended s stopped) (end_line count) (bad_line stopped)

-- red, green and blue of the first n pixels of a frame
unfoldable pub pixels : ℕ → List ℕ → List ℕ
pixels zero frame = []
pixels (suc n) frame = pixels n frame ++ (at frame (4 * n) ∷ at frame (4 * n + 1) ∷ at frame (4 * n + 2) ∷ [])

-- R7.13, R20.9: the pixels of a screen
unfoldable pub pixel_count : Screen → ℕ
pixel_count screen = columns screen * rows screen

-- the three lines `P6`, its columns and rows, `255`
unfoldable pub header : Screen → List ℕ
header screen = line ((0x50 ∷ 0x36 ∷ []) ∷ []) ++ (line (decimal (columns screen) ∷ decimal (rows screen) ∷ []) ++ line (decimal 255 ∷ []))

-- a frame as a binary PPM
unfoldable pub ppm : Screen → List ℕ → List ℕ
ppm screen frame = header screen ++ pixels (pixel_count screen) frame

-- what a run is worth where it stopped: the picture of its frame, or the line that says where the recording is bad
unfoldable pub drawn : Screen → List ℕ → ℕ → List ℕ → List ℕ
drawn screen s stopped frame = cond (ended s stopped) (ppm screen frame) (bad_line stopped)

-- room for the header of a picture, and three bytes for each pixel
abbrev pub picture_room : Screen → ℕ
picture_room screen = 15 + 3 * pixel_count screen
