-- R20.9: the records of a recording as a machine takes them.
-- Assumes nothing.
use Rattle.std.specs.Prelude.{Bool, true, false, cond, List, ℕ}
use Rattle.picture.specs.declared.RenderArea.{RenderArea}
use Rattle.picture.specs.declared.RenderArea.TheVariants.{VisibleOnly, EffectiveArea, TrueEdges}
use Rattle.trace_record.specs.declared.Machine.{Machine}
use Rattle.trace_record.specs.declared.Machine.TheVariants.{Handheld, Home}
use Rattle.trace_record.specs.declared.Record.{Record}
use Rattle.trace_record.specs.declared.Record.TheVariants.{Write, Read, Step, Bad, End}
use Rattle.trace_record.specs.Record.{record_at}

-- the areas that a machine has steps of; a step of another is a bad record
abbrev pub has_area : Machine → RenderArea → Bool
has_area Handheld a = true
has_area Home VisibleOnly = true
has_area Home EffectiveArea = false
has_area Home TrueEdges = false

abbrev pub taken_by : Machine → Record → Record
taken_by m (Write port value) = Write port value
taken_by m (Read port) = Read port
taken_by m (Step area) = cond (has_area m area) (Step area) Bad
taken_by m Bad = Bad
taken_by m End = End

-- the record at offset k, as the machine m takes it
abbrev pub record_on : Machine → List ℕ → ℕ → Record
record_on m s k = taken_by m (record_at s k)
