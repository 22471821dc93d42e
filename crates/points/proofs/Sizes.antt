-- The bytes of a frame and of a row as the code counts them.
-- Assumes nothing.
use mathlib.Core.Path.{◌≡◌, sym, ◌∙◌}
use Prim.Native.Nat.{ℕ, ◌*◌, ◌/◌}
use native.Mathlib.Nat.{mul_comm}
use native.Mathlib.Omega.{arith}
use Rattle.picture.specs.declared.Screen.{Screen}
use Rattle.picture.specs.declared.Screen.TheVariants.{VisibleOnly, EffectiveArea, TrueEdges, Home}
use Rattle.picture.specs.Screen.{columns, rows, row_size, frame_size}
use Rattle.points.proofs.Rows.{frame-rows}

-- a row has four bytes for each column
pub quarter : (a : Screen) {w : ℕ} → w ≡ row_size a → w / 4 ≡ columns a
quarter VisibleOnly e = omega arith
quarter EffectiveArea e = omega arith
quarter TrueEdges e = omega arith
quarter Home e = omega arith

module _ (a : Screen) {n w : ℕ} (en : n ≡ rows a) (ew : w ≡ row_size a) where
  -- and a frame its rows
  pub frame_is : n * w ≡ frame_size a
  frame_is = rw (en, ew) (mul_comm (rows a) (row_size a) ∙ sym (frame-rows a))
