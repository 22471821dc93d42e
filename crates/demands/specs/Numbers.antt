-- What is said of every pass, in the handheld's own numbers: the rows that are drawn twice, and the author's line.
-- Assumes nothing.
use Rattle.std.specs.Prelude.{◌≡◌, ◌≢◌, ◌⊎◌, List, ℕ, suc, ◌≤◌, ◌<◌, Some}
use Rattle.laws.specs.Once.{ExactlyOnce, ExactlyTwice}
use Rattle.picture.specs.declared.RenderArea.TheVariants.{VisibleOnly, EffectiveArea}
use Rattle.picture.specs.Screen.{row_bytes}
use Rattle.raster.specs.declared.LineTable.{LineTable}
use Rattle.raster.specs.declared.LineTable.TheVariants.{Steps261, Steps262}
use Rattle.passes.specs.Pass.{Watched, pass, line_set, row_at_end, picture_at}
use Rattle.passes.specs.Split.{Split}
use Rattle.demands.specs.Handheld.{handheld}

-- Of the effective area: rows 213 to 217 by table 0, and 213 to 218 by table 1, are drawn twice a pass, and every other row once.
abbrev pub last_twice : LineTable → ℕ
last_twice Steps261 = 217
last_twice Steps262 = 218

pub record EffectiveRows (r : Watched handheld EffectiveArea) : Type 0 where
  pub twice : (y : ℕ) → 213 ≤ y → y ≤ last_twice r.table → ExactlyTwice (pass r) (λ i. (r.answer i).row ≡ Some y)
  pub once : (y : ℕ) → y < 224 → (y < 213) ⊎ (last_twice r.table < y) → ExactlyOnce (pass r) (λ i. (r.answer i).row ≡ Some y)

-- The author's own line: the step that sets 90 draws row 66 with the old palette, the next one row 67 with the new (where the pass goes on to it: it does
-- unless it began with line 91).
pub record Ninety {r : Watched handheld VisibleOnly} {old new : List ℕ} (s : Split r 90 old new) : Type 0 where
  pub row_66 : row_at_end r 66 ≡ row_bytes (handheld.colours_of old) 160 (picture_at r s.moment.step 66)
  pub row_67 : line_set r 0 ≢ 91 → row_at_end r 67 ≡ row_bytes (handheld.colours_of new) 160 (picture_at r (suc s.moment.step) 67)
