-- R4.1 to R4.5, a step of any machine's record: its points, and the record that it leaves by them.
-- Assumes nothing.
use Rattle.std.specs.Prelude.{◌≡◌}
use Rattle.points.specs.declared.Points.{Points}
use Rattle.points.specs.declared.Stepped.{Stepped}

-- the answer of the step, by what the points answer and leave, where `after` gives the record after them
abbrev pub joined_by : {D : Type 0} → (D → Points → D) → D → Points → Stepped D
joined_by after d points =
    record {
      outcome = points.outcome;
      interrupt = points.interrupt;
      report = points.report;
      row = points.row;
      device = after d points;
    }

-- What a step promises of its answer r, where `leave` is what its points promise of theirs and of its buffers.
pub record StepLeaves {D : Type 0} (after : D → Points → D) (d : D) (leave : Points → Type 0) (r : Stepped D) : Type 0 where
  pub points : Points
  pub left : leave points
  pub answer : r ≡ joined_by after d points
