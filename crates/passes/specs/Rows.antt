-- THE ROWS OF A PASS, in any area and by either table: which are drawn twice, and how each ends.
-- R4.2: in the effective area the lines that the jump goes back over draw their rows a second time.
-- Assumes nothing.
use Rattle.std.specs.Prelude.{◌≡◌, ◌↔◌, ◌≢◌, ◌⊎◌, ℕ, ◌+◌, ◌≤◌, ◌<◌, Some}
use Rattle.laws.specs.Once.{ExactlyOnce, ExactlyTwice}
use Rattle.picture.specs.Screen.{columns, rows, first_line, row_bytes}
use Rattle.raster.specs.Raster.{jump_line, jump_to}
use Rattle.passes.specs.Machine.{Machine}
use Rattle.passes.specs.Pass.{Watched, pass, colours_at, line_set, row_at_end, picture_at}

pub record RowsDrawn {M : Machine} {a : M.Area} (r : Watched M a) : Type 0 where
  -- a row whose line the jump goes back over, D5 to D9 or to DA, is drawn exactly twice
  pub twice :
      (y : ℕ) → y < rows (M.screen a) → jump_to ≤ y + first_line (M.screen a) → y + first_line (M.screen a) < jump_line r.table →
      ExactlyTwice (pass r) (λ i. (r.answer i).row ≡ Some y)
  -- every other exactly once
  pub once :
      (y : ℕ) → y < rows (M.screen a) → (y + first_line (M.screen a) < jump_to) ⊎ (jump_line r.table ≤ y + first_line (M.screen a)) →
      ExactlyOnce (pass r) (λ i. (r.answer i).row ≡ Some y)
  pub no_other : (i y : ℕ) → (r.answer i).row ≡ Some y → y < rows (M.screen a)
  -- row y is drawn by the steps that set line y + 24 (in the effective area, and at home, line y), and by no other
  pub at_line : (i y : ℕ) → y < rows (M.screen a) → ((r.answer i).row ≡ Some y) ↔ (line_set r i ≡ y + first_line (M.screen a))
  -- each ends as the picture rule gives it at the last step that draws it, step i
  pub last_bytes :
      (i y : ℕ) → i < pass r → (r.answer i).row ≡ Some y → ((j : ℕ) → i < j → j < pass r → (r.answer j).row ≢ Some y) →
      row_at_end r y ≡ row_bytes (colours_at r i) (columns (M.screen a)) (picture_at r i y)
