-- R7.8, R7.13, R15.5, R20.9: what a recording does, record by record. All programs follow a recording by these definitions.
-- Assumes nothing.
use Rattle.std.specs.Prelude.{◌≡◌, cond, List, [], ◌++◌, ℕ, zero, suc, ◌+◌, ◌-◌, ◌*◌, ◌%◌, eqb, length, None, Option, Some}
use Rattle.laws.specs.Paint.{painted, of_bytes}
use Rattle.picture.specs.declared.RenderArea.{RenderArea}
use Rattle.picture.specs.declared.RenderArea.TheVariants.{VisibleOnly, EffectiveArea, TrueEdges}
use Rattle.picture.specs.Area.{frame_size}
use Rattle.step.specs.Step.{counter_up, row_step_of}
use Rattle.step.specs.Layers.{row_layers}
use Rattle.trace_record.specs.declared.Record.{Record}
use Rattle.trace_record.specs.declared.Record.TheVariants.{Write, Read, Step, Bad, End}
use Rattle.trace_record.specs.declared.Machine.{Machine}
use Rattle.trace_record.specs.declared.Machine.TheVariants.{Handheld, Home}
use Rattle.trace_run.specs.declared.Device.{Device}
use Rattle.refusal.specs.Refusals.{refusal_number}
use Rattle.trace_text.specs.declared.Answer.{Answer}
use Rattle.trace_text.specs.declared.Answer.TheVariants as Says
use Rattle.trace_run.specs.declared.Run.{Run}
use Rattle.trace_run.specs.declared.Shown.{Shown}
use Rattle.trace_run.specs.declared.Shown.TheVariants.{Nothing, Colours, Layers}
use Rattle.trace_run.specs.declared.Turned.{Turned}
use Rattle.trace_record.specs.Machine.{record_on}
use Rattle.trace_run.specs.Device.{AfterWrite, AfterRead, AfterStep, device_write, device_read, device_row_step, device_frame_step}
use Rattle.trace_text.specs.Text.{line_of}

-- What one who follows a recording holds: the device and its place in the recording (`Run`), and the lent buffers. The trace has no frame.
pub record World : Type 0 where
  pub run : Run
  pub vram : List ℕ
  pub row : List ℕ
  pub frame : List ℕ

abbrev pub held : Run → List ℕ → List ℕ → List ℕ → World
held run vram row frame = record { run = run; vram = vram; row = row; frame = frame }

-- this device, at the recording's first byte
abbrev pub start : Device → List ℕ → List ℕ → List ℕ → World
start d vram row frame = held (record { device = d; at = 0; count = 0 }) vram row frame

-- What a record does: the answer of its call, if it is one, and the world after it.
pub record Turn : Type 0 where
  pub answer : Option Answer
  pub world : World

-- the run after a call, one record and k bytes on
abbrev pub on : Run → ℕ → Device → Run
on run k d = record { device = d; at = run.at + k; count = run.count + 1 }

-- R7.10: what a step's line tells
abbrev pub step_answer : AfterStep → Answer
step_answer s = Says.Stepped (refusal_number s.outcome) s.counter s.interrupt s.report

-- a step into the row buffer, as the trace makes all of its steps
unfoldable pub row_turn : RenderArea → World → Turn
row_turn a w =
    let s = device_row_step a w.run.device w.vram w.row in
    record { answer = Some (step_answer s); world = held (on w.run 3 s.device) w.vram s.buffer w.frame }

-- a step into the frame
unfoldable pub into_frame : RenderArea → World → Turn
into_frame a w =
    let s = device_frame_step a w.run.device w.vram w.frame in
    record { answer = Some (step_answer s); world = held (on w.run 3 s.device) w.vram w.row s.buffer }

-- R7.13, R18.5, R20.9: a step as the snapshot makes it: of an area of the visible size into the frame, and so of area 0 at home; of the effective area
-- as in the trace
unfoldable pub frame_turn : RenderArea → World → Turn
frame_turn VisibleOnly w = into_frame VisibleOnly w
frame_turn EffectiveArea w = row_turn EffectiveArea w
frame_turn TrueEdges w = into_frame TrueEdges w

-- R15.5: the colour of a layer: the background dark grey, a held-back pixel magenta, sprite n from green to red as n goes up
unfoldable pub layer_colour : ℕ → ℕ
layer_colour l =
    cond (eqb l 0) (of_bytes 32 32 32 255) (cond (eqb l 1) (of_bytes 255 0 255 255) (of_bytes (4 * (l - 64) % 256) (255 - 4 * (l - 64) % 256) 128 255))

-- the frame with the colours of the layers in a buffer at its row; the layers of the row that a step on this device draws, where it is drawn
abbrev pub layers_painted : Option ℕ → (ℕ → ℕ → ℕ) → List ℕ → List ℕ
layers_painted None layer frame = frame
layers_painted (Some y) layer frame = painted frame (160 * y) 160 (λ x. layer_colour (layer y x))

-- those of the row that a step into a row buffer of n bytes draws; the home machine tells no layers
abbrev pub layers_on : Machine → RenderArea → Device → List ℕ → ℕ → List ℕ → List ℕ
layers_on Handheld a d m n frame = layers_painted (row_step_of a m n d.vdp).row (row_layers a m (counter_up d.vdp)) frame
layers_on Home a d m n frame = frame

-- a step into the row buffer, with its layers as colours in the frame
unfoldable pub layers_into : RenderArea → World → Turn
layers_into a w =
    let d = w.run.device in
    let s = device_row_step a d w.vram w.row in
    record {
      answer = Some (step_answer s);
      world = held (on w.run 3 s.device) w.vram s.buffer (layers_on d.machine a d w.vram (length w.row) w.frame);
    }

-- R15.5, R18.5: a step as `layers` makes it: the layers of an area of the visible size in the frame, the effective area as in the trace
unfoldable pub layer_turn : RenderArea → World → Turn
layer_turn VisibleOnly w = layers_into VisibleOnly w
layer_turn EffectiveArea w = row_turn EffectiveArea w
layer_turn TrueEdges w = layers_into TrueEdges w

-- what the frame shows, and the bytes that it then has at least
abbrev pub turn_for : Shown → RenderArea → World → Turn
turn_for Nothing = row_turn
turn_for Colours = frame_turn
turn_for Layers = layer_turn

abbrev pub frame_for : Shown → ℕ
frame_for Nothing = 0
frame_for Colours = frame_size VisibleOnly
frame_for Layers = frame_size VisibleOnly

-- what it shows of a step of an area: nothing where the area has not the visible size
abbrev pub shown_of : Shown → RenderArea → Shown
shown_of shown VisibleOnly = shown
shown_of shown EffectiveArea = Nothing
shown_of shown TrueEdges = shown

-- a record of the recording, with steps made as `step` makes them; at a bad record and at the end nothing happens
unfoldable pub turn_by : Record → (RenderArea → World → Turn) → World → Turn
turn_by (Write port value) step w =
    let a = device_write w.run.device w.vram port value in
    record { answer = Some (Says.Wrote (refusal_number a.outcome)); world = held (on w.run 4 a.device) a.vram w.row w.frame }
turn_by (Read port) step w =
    let a = device_read w.run.device w.vram port in
    record { answer = Some (Says.Gave (refusal_number a.outcome) a.byte); world = held (on w.run 3 a.device) w.vram w.row w.frame }
turn_by (Step area) step w = step area w
turn_by Bad step w = record { answer = None; world = w }
turn_by End step w = record { answer = None; world = w }

-- the record at the run's place, as its machine takes it
unfoldable pub turn_of : (RenderArea → World → Turn) → List ℕ → World → Turn
turn_of step s w = turn_by (record_on w.run.device.machine s w.run.at) step w

-- n records of the recording s, from the world w on: what they leave, and the lines that they print
unfoldable pub after : (RenderArea → World → Turn) → ℕ → List ℕ → World → World
after step zero s w = w
after step (suc n) s w = (turn_of step s (after step n s w)).world

unfoldable pub lines : (RenderArea → World → Turn) → ℕ → List ℕ → World → List ℕ
lines step zero s w = []
lines step (suc n) s w = lines step n s w ++ line_of (turn_of step s (after step n s w)).answer

-- the whole recording: one record for each of its bytes is enough, since at its end, and at a bad record, nothing happens any more
unfoldable pub ran : (RenderArea → World → Turn) → List ℕ → World → World
ran step s w = after step (length s) s w

-- What a turn of the code promises of its answer r and of the buffers after it.
pub record TurnLeaves (t : Turn) (r : Turned) (vram row frame : List ℕ) : Type 0 where
  pub answer : r.answer ≡ t.answer
  pub world : held r.run vram row frame ≡ t.world

-- ---- what a turn of the code answers, by the call that it makes
abbrev pub turned : Option Answer → Run → Turned
turned a run = record { answer = a; run = run }

abbrev pub write_turned : Run → AfterWrite → Turned
write_turned run a = turned (Some (Says.Wrote (refusal_number a.outcome))) (on run 4 a.device)

abbrev pub read_turned : Run → AfterRead → Turned
read_turned run a = turned (Some (Says.Gave (refusal_number a.outcome) a.byte)) (on run 3 a.device)

abbrev pub step_turned : Run → AfterStep → Turned
step_turned run s = turned (Some (step_answer s)) (on run 3 s.device)
