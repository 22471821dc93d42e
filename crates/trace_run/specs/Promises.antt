-- R19.7, R20.9: the programs run exactly the records that a reader hands out, those of the home machine up to the first step of another area than 0; and
-- `bad` names the offset where they stop.
-- Assumes nothing.
use Rattle.std.specs.Prelude.{◌≡◌, cond, List, [], ◌∷◌, ◌++◌, ℕ, leb, length}
use Rattle.picture.specs.declared.RenderArea.{RenderArea}
use Rattle.vdp.specs.declared.VdpState.{VdpState}
use Rattle.trace_record.specs.declared.Record.{Record}
use Rattle.trace_record.specs.Reader.{is_call, records, stop}
use Rattle.trace_record.specs.Promises.{all_bytes}
use Rattle.trace_record.specs.Machine.{taken_by}
use Rattle.trace_record.specs.declared.Machine.{Machine}
use Rattle.trace_run.specs.declared.Device.{Device}
use Rattle.trace_run.specs.declared.Shown.{Shown}
use Rattle.trace_run.specs.Device.{handheld}
use Rattle.trace_text.specs.Text.{line_of, end_line, bad_line}
use Rattle.trace_run.specs.Run.{World, Turn, start, row_turn, turn_for, turn_by, lines, ran}
use Rattle.trace_run.specs.Output.{text}

-- records, one after another, with steps made as `step` makes them: what they leave, and the lines that they print
abbrev pub ran_all : (RenderArea → World → Turn) → List Record → World → World
ran_all step [] w = w
ran_all step (x ∷ xs) w = ran_all step xs (turn_by x step w).world

abbrev pub lines_all : (RenderArea → World → Turn) → List Record → World → List ℕ
lines_all step [] w = []
lines_all step (x ∷ xs) w = line_of (turn_by x step w).answer ++ lines_all step xs (turn_by x step w).world

-- a run through the recording s from the world w on does what the records xs do, stands at offset k, and has counted as many records
pub record ReadsAlong (step : RenderArea → World → Turn) (s : List ℕ) (w : World) (xs : List Record) (k : ℕ) : Type 0 where
  pub world : ran step s w ≡ ran_all step xs w
  pub prints : lines step (length s) s w ≡ lines_all step xs w
  pub place : (ran step s w).run.at ≡ k
  pub count : (ran step s w).run.count ≡ length xs

-- `trace`, `snapshot` and `layers`, each by what its frame shows, on the device d with any buffers; and all that `trace` prints
abbrev pub Runs : Device → List ℕ → List Record → ℕ → Type 0
Runs d s xs k =
    (vram row frame : List ℕ)
    → let w = start d vram row frame in
    ((shown : Shown) → ReadsAlong (turn_for shown) s w xs k)
    × (text s w ≡ lines_all row_turn xs w ++ cond (leb (length s) k) (end_line (length xs)) (bad_line k))

-- R19.7: any handheld, all that the reader hands out
abbrev pub ReaderRuns : Type 0
ReaderRuns = (d : VdpState) (s : List ℕ) → Runs (handheld d) s (records s) (stop s)

-- of these records, those that a machine runs: all before the first step of an area that it has not
abbrev pub run_by : Machine → List Record → List Record
run_by m [] = []
run_by m (x ∷ xs) = cond (is_call (taken_by m x)) (x ∷ run_by m xs) []

-- R20.9: any device of either machine, up to the end of these
abbrev pub MachineRuns : Type 0
MachineRuns =
    (d : Device) (s : List ℕ)
    → let xs = run_by d.machine (records s) in
    Runs d s xs (length (all_bytes xs))
