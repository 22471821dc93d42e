-- R5.1, R5.5: a row of background, by the map's column sx that its pixel 0 shows, the map's line y, and how far to the left its first tile marks.
-- Assumes nothing.
use Rattle.std.specs.Prelude.{◌≡◌, ℕ, ◌+◌, ◌-◌, ◌%◌, ◌<◌, ◌≤◌, Bool, cond, ◌&&◌, List, length, ◌==◌, nat_lt}
use Rattle.laws.specs.Bits.{bit, any}
use Rattle.laws.specs.Lists.{at}
use Rattle.laws.specs.Sizes.{vram_size}
use Rattle.picture.specs.declared.Screen.{Screen}
use Rattle.picture.specs.declared.Screen.TheVariants.{VisibleOnly, EffectiveArea, TrueEdges, Home}
use Rattle.picture.specs.Tile.{map_colour, map_front}
use Rattle.picture.specs.View.{cut_mark}

-- the colour number of pixel x, and whether it stands in front of sprites
unfoldable pub back_colour : List ℕ → ℕ → ℕ → ℕ → ℕ → ℕ
back_colour vram names sx y x = map_colour (at vram) names ((sx + x) % 256) y

unfoldable pub back_front : List ℕ → ℕ → ℕ → ℕ → ℕ → Bool
back_front vram names sx y x = map_front (at vram) names ((sx + x) % 256) y

-- the cached colour of pixel x, where f gives its number
abbrev pub shade : List ℕ → (ℕ → ℕ) → ℕ → ℕ
shade colours f x = at colours (f x)

-- R5.5, R18.1: how far to the left the first tile of a row marks, where scroll cuts s pixels of it
abbrev pub cut_of : Screen → ℕ → ℕ
cut_of VisibleOnly s = s
cut_of EffectiveArea s = 0
cut_of TrueEdges s = 0
cut_of Home s = 0

-- R20.4, R20.5: the map's column that column 0 of home row `line` shows: scrolled sideways, but not in the first 16 rows where register 0 bit 6 is set
abbrev pub home_column : List ℕ → ℕ → ℕ
home_column reg line = cond (bit (at reg 0) 6 && nat_lt line 16) 0 ((256 - at reg 8) % 256)

-- R20.5: the map's line that its columns from 192 on show, where those before them show line y: the row's own where register 0 bit 7 is set
abbrev pub home_last : List ℕ → ℕ → ℕ → ℕ
home_last reg line y = cond (bit (at reg 0) 7) line y

-- bit i of the priority mask after the pixels below n
unfoldable pub prio_to : List ℕ → ℕ → ℕ → ℕ → ℕ → ℕ → ℕ → Bool
prio_to vram names sx y cut n i = any n (λ x. (cut_mark cut x == i) && back_front vram names sx y x)

-- what the drawing asks of its arguments
pub record Room (vram : List ℕ) (names sx y : ℕ) : Type 0 where
  pub memory : length vram ≡ vram_size
  pub names_low : names ≤ 14336
  pub column : sx < 256
  pub line : y < 224

-- where the pixels of one tile, from x on, mark
abbrev pub place_at : ℕ → ℕ → ℕ
place_at cut x = cond (x == 0) ((256 - cut) % 256) x

-- the pixels x to below x + n mark the bits from there on, around the circle
abbrev pub Whole : ℕ → ℕ → ℕ → Type 0
Whole cut x n = (j : ℕ) → j < n → cut_mark cut (x + j) ≡ (place_at cut x + j) % 256
