-- The tests of a sprite's column, past the columns that are shown.
-- Assumes nothing.
use mathlib.Core.Path.{◌≡◌}
use mathlib.Core.List.{List}
use mathlib.Core.Bool.{false}
use Prim.Native.Nat.{ℕ, ◌+◌, ◌≤◌}
use borrow.Author.Tests.{le-ltb}
use Rattle.laws.specs.Lists.{at}
use Rattle.picture.specs.Tile.{code_at}
use Rattle.picture.specs.Picture.{solid}
use Rattle.tile.specs.Line.{line_marked, line_drawn, line_held}

pub solid_past : (start end : ℕ) (code : ℕ → ℕ) (k : ℕ) → end ≤ start + k → solid start end code k ≡ false
unfolding solid
solid_past start end code k h = rw (le-ltb (start + k) end h)

pub marked_past : (vram : List ℕ) (addr start end held k : ℕ) → end ≤ start + k → line_marked vram addr start end held k ≡ false
unfolding line_marked
marked_past vram addr start end held k h = rw (solid_past start end (code_at (at vram) addr) k h)

pub drawn_past : (vram : List ℕ) (addr start end held taken width x k : ℕ) → end ≤ start + k → line_drawn vram addr start end held taken width x k ≡
    false
unfolding line_drawn
drawn_past vram addr start end held taken width x k h = rw (marked_past vram addr start end held k h)

pub held_past : (vram : List ℕ) (addr start end held k : ℕ) → end ≤ start + k → line_held vram addr start end held k ≡ false
unfolding line_held
held_past vram addr start end held k h = rw (solid_past start end (code_at (at vram) addr) k h)
