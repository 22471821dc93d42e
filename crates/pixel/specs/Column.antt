-- One column of a row, as the code goes through it: the row's priority mask by its places, and what a sprite makes of the column and of the mask near it.
-- Assumes nothing.
use Rattle.std.specs.Prelude.{◌≡◌, ℕ, ◌+◌, ◌-◌, ◌*◌, ◌%◌, ◌<◌, ◌≤◌, min, Bool, true, cond, not, ◌&&◌, ◌≢◌, ◌⊎◌, List, nat_le, nat_lt}
use Rattle.laws.specs.Bits.{bit, digit}
use Rattle.laws.specs.Circle.{past}
use Rattle.laws.specs.Lists.{at}
use Rattle.picture.specs.declared.Stand.{Stand}
use Rattle.picture.specs.declared.Screen.{Screen}
use Rattle.picture.specs.declared.Screen.TheVariants.{VisibleOnly, EffectiveArea, TrueEdges, Home}
use Rattle.picture.specs.Tile.{code_at}
use Rattle.picture.specs.Picture.{Canvas, solid}
use Rattle.background.specs.Background.{Room, prio_to}
use Rattle.pixel.specs.declared.one_column.Scene.{Scene}
use Rattle.pixel.specs.declared.one_column.Column.{Column}
use Rattle.pixel.specs.declared.one_column.Shift.{Shift}

-- what is asked of a scene
pub record Set (vram : List ℕ) (b : Scene) : Type 0 where
  pub room : Room vram b.names b.sx b.y
  pub last_low : b.last < 224
  pub cut_low : b.cut < 8
  pub wide : 8 ≤ b.width
  pub narrow : b.width ≤ 256

-- a Y byte that neither ends the list nor belongs to a sprite on the line, were it a circle of 256 lines
abbrev pub Clear : ℕ → ℕ → ℕ → Type 0
Clear line lines y = (y ≢ 0xD0) × (lines ≤ (line + 256 - (y + 1) % 256) % 256)

-- R20.5: the map's line that column x shows
abbrev pub line_at : Scene → ℕ → ℕ
line_at b x = cond (nat_le 192 x) b.last b.y

-- R5.5: a place of its priority mask: what marks it shows one line of the map, since where the first tile marks to the left all columns show the same one
abbrev pub front_at : List ℕ → Scene → ℕ → Bool
front_at vram b i = prio_to vram b.names b.sx (line_at b i) b.cut b.width i

-- the place j to the left of place i, around the circle
abbrev pub left_of : ℕ → ℕ → ℕ
left_of i j = (i + 256 - j) % 256

-- how far the mark of a sprite that is seen stands to the right of its column, whatever its X byte
abbrev pub off_of : Screen → ℕ → ℕ
off_of VisibleOnly e = 48 + e
off_of EffectiveArea e = e
off_of TrueEdges e = 0
off_of Home e = 0

-- how far its X byte stands to the right of its column
abbrev pub ahead_of : Screen → ℕ → ℕ
ahead_of VisibleOnly e = 48 + e
ahead_of EffectiveArea e = e
ahead_of TrueEdges e = 48 + e
ahead_of Home e = e

-- how far to the left of its own place a column of a sprite that starts with pixel `start` is tested and marked
abbrev pub back_of : Screen → ℕ → ℕ
back_of VisibleOnly start = start
back_of EffectiveArea start = start
back_of TrueEdges start = 0
back_of Home start = 0

-- what the code has of these three for a screen
pub record Shifts (s : Screen) (e : ℕ) (r : Shift) : Type 0 where
  pub off : r.off ≡ off_of s e
  pub ahead : r.ahead ≡ ahead_of s e
  pub back : (start : ℕ) → start * digit r.back ≡ back_of s start
  pub off_low : r.off < 256
  pub ahead_low : r.ahead < 256

-- how many places are needed, the column's own and those to the left of it: a sprite that the left edge cuts is tested `start` places to the left, and
-- has no pixel as far right as 8 - start
abbrev pub reach_of : ℕ → ℕ
reach_of col = 8 - min col 7

-- R5.11, R5.12: a sprite marks the place j to the left of column col's
unfoldable pub marks_left : List ℕ → Scene → Stand → ℕ → ℕ → ℕ → ℕ → Bool
marks_left vram b s addr col off j =
    solid s.start s.end (code_at (at vram) addr) (past (left_of (col + off) j) s.mark) && not (s.seen && front_at vram b (left_of col j))

-- the colour number of column col with a sprite whose marks are bits, over those that are taken and the colour that was there;
-- it is tested `back` to the left
unfoldable pub colour_with : List ℕ → Stand → ℕ → ℕ → ℕ → ℕ → ℕ → ℕ → ℕ
colour_with vram s addr col back bits taken old =
    cond (s.seen && (nat_le s.x col && (nat_lt (s.start + (col - s.x)) s.end && (bit bits back && not (bit taken back)))))
    (16 + code_at (at vram) addr (s.start + (col - s.x))) old

-- what ties a sprite that is seen to its column: both masks have it at the same distance, and only at the left edge is it tested to the left
pub record Tied (off back : ℕ) (s : Stand) : Type 0 where
  pub mark : s.seen ≡ true → (s.mark + back) % 256 ≡ (s.x + off) % 256
  pub prio : s.seen ≡ true → (s.prio + off) % 256 ≡ s.mark % 256
  pub edge : s.seen ≡ true → (back ≡ 0) ⊎ (s.x ≡ 0)
  pub within : back ≤ s.start

-- the code's column is column col of the canvas, with the marks that a sprite there can meet
pub record Shows (col off : ℕ) (c : Canvas) (r : Column) : Type 0 where
  pub colour : r.colour ≡ c.colour col
  pub mask : (j : ℕ) → j < reach_of col → bit r.taken j ≡ c.mask (left_of (col + off) j)
