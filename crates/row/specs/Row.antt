-- A row as drawn: its bytes, and the status bits that it sets; and its background alone.
-- Assumes nothing.
use Rattle.std.specs.Prelude.{◌≡◌, Bool, false, List, ◌++◌, ℕ, drop}
use Rattle.laws.specs.Bits.{bit}
use Rattle.laws.specs.Lists.{at}
use Rattle.laws.specs.Paint.{painted}
use Rattle.bitmap.specs.Mask.{bytes_of}
use Rattle.picture.specs.declared.Screen.{Screen}
use Rattle.picture.specs.declared.Screen.TheVariants.{VisibleOnly, EffectiveArea, TrueEdges, Home}
use Rattle.picture.specs.Picture.{Row, back, front}
use Rattle.picture.specs.Screen.{columns, row_size, row_bytes, status_bits, view_of}
use Rattle.row.specs.declared.Back.{Back}

-- from row₀, the row buffer and the status bits that the picture p of a row of the screen gives: its own bytes, and behind them what was there
pub record Drawn (s : Screen) (colours : List ℕ) (p : Row) (row₀ row : List ℕ) (bits : ℕ) : Type 0 where
  pub bytes : row ≡ row_bytes colours (columns s) p ++ drop (row_size s) row₀
  pub status : bits ≡ status_bits p

-- R20.6: whether the fill comes over a row
abbrev pub fill_on : Screen → (ℕ → ℕ) → Bool
fill_on VisibleOnly g = false
fill_on EffectiveArea g = false
fill_on TrueEdges g = false
fill_on Home g = bit (g 0) 5

-- the background of row `line` on row₀, with what it leaves for the sprites
pub record Backed (s : Screen) (reg : List ℕ) (scroll : ℕ) (vram colours : List ℕ) (line : ℕ) (row₀ row : List ℕ) (r : Back) : Type 0 where
  pub bytes : row ≡ painted row₀ 0 (columns s) (λ x. at colours (back (at vram) (at reg) (view_of s (at reg) scroll line) x))
  pub mask : r.prio.bits ≡ bytes_of (front (at vram) (at reg) (view_of s (at reg) scroll line))
  pub wide : r.width ≡ columns s
  pub below : r.line ≡ (view_of s (at reg) scroll line).line
  pub fill : r.fill ≡ fill_on s (at reg)
