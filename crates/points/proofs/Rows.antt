-- Which row a line draws, and where that row lies in a frame.
-- Assumes nothing.
use Rattle.std.specs.Prelude.{None, Option, Some, ℕ}
use mathlib.Core.Path.{◌≡◌, refl, sym, ◌∙◌}
use mathlib.Core.Bool.{Bool, true, false, cond, ◌&&◌}
use Prim.Native.Nat.{ℕ, ◌+◌, ◌-◌, ◌*◌, ◌<◌, ◌≤◌}
use native.Mathlib.Omega.{arith}
use borrow.Author.Tests.{lt-ltb, le-leb, ltb-true, leb-true}
use lib.Dec.{ltb, leb}
use Rattle.laws.proofs.Tests.{both}
use Rattle.picture.specs.declared.Screen.{Screen}
use Rattle.picture.specs.declared.Screen.TheVariants.{VisibleOnly, EffectiveArea, TrueEdges, Home}
use Rattle.picture.specs.Screen.{rows, first_line, row_size, frame_size}
use Rattle.points.specs.Points.{row_on, RowIn}

-- a row is drawn: its number is below the area's, and its line is known
told : (a : Screen) (l y : ℕ) (t : Bool) → (leb (first_line a) l && ltb l (first_line a + rows a)) ≡ t → cond t (Some (l - first_line a)) None ≡ Some
    y → (y < rows a) × (l ≡ first_line a + y)
told a l y true e q =
    let k : l - first_line a ≡ y = cc in
    let b = both (leb (first_line a) l) (ltb l (first_line a + rows a)) e in
    let low : first_line a ≤ l = leb-true (first_line a) l b.0 in
    let high : l < first_line a + rows a = ltb-true l (first_line a + rows a) b.1 in
    (omega arith, omega arith)
told a l y false e q = absurd (let z : ◌≡◌ {A = ℕ} 0 1 = cc in omega arith)

module _ (a : Screen) (l y : ℕ) (e : row_on a l ≡ Some y) where
  pub row_low : y < rows a
  unfolding row_on
  row_low = (told a l y (leb (first_line a) l && ltb l (first_line a + rows a)) refl e).0

  pub row_line : l ≡ first_line a + y
  unfolding row_on
  row_line = (told a l y (leb (first_line a) l && ltb l (first_line a + rows a)) refl e).1

-- each row below the area's number is drawn at its line
pub row_at : (a : Screen) (l : ℕ) → first_line a ≤ l → l < first_line a + rows a → row_on a l ≡ Some (l - first_line a)
unfolding row_on
row_at a l low high = rw (le-leb (first_line a) l low, lt-ltb l (first_line a + rows a) high)

pub row_in : (a : Screen) (l : ℕ) {r : Option ℕ} → r ≡ row_on a l → RowIn a r
row_in a l e = λ y q. row_low a l y (sym e ∙ q)

-- ---- a row's part of a frame: it lies in the frame, and its places are numbers of the machine
pub row_end : (a : Screen) (y : ℕ) → y < rows a → y * row_size a + row_size a ≤ frame_size a
row_end VisibleOnly y h = omega arith
row_end EffectiveArea y h = omega arith
row_end TrueEdges y h = omega arith
row_end Home y h = omega arith

pub frame_small : (a : Screen) → frame_size a ≤ 229376
frame_small VisibleOnly = omega arith
frame_small EffectiveArea = omega arith
frame_small TrueEdges = omega arith
frame_small Home = omega arith

pub start_small : (a : Screen) (y : ℕ) → y < 256 → y * row_size a ≤ 261120
start_small VisibleOnly y h = omega arith
start_small EffectiveArea y h = omega arith
start_small TrueEdges y h = omega arith
start_small Home y h = omega arith

pub frame-rows : (a : Screen) → frame_size a ≡ row_size a * rows a
frame-rows VisibleOnly = refl
frame-rows EffectiveArea = refl
frame-rows TrueEdges = refl
frame-rows Home = refl
