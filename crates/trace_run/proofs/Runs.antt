-- A whole recording, record by record: what bounds hold, and how the world and the text grow.
-- Assumes nothing.
use Rattle.std.specs.Prelude.{None, Option, Some}
use mathlib.Core.Path.{◌≡◌, refl, ap, ◌∙◌}
use mathlib.Core.List.{List, [], ◌∷◌, ◌++◌}
use Prim.Native.Nat.{ℕ, zero, suc, ◌+◌, ◌-◌, ◌*◌, ◌/◌, ◌%◌, ◌<◌, ◌≤◌}
use native.Mathlib.Numerals.{add-one}
use native.Mathlib.Omega.{arith}
use lib.Dec.{lit≤}
use lib.ListN.{length, length-append}
use Rattle.laws.specs.Lists.{written}
use Rattle.laws.proofs.Tests.{either}
use Rattle.picture.specs.declared.RenderArea.{RenderArea}
use Rattle.picture.specs.declared.RenderArea.TheVariants.{VisibleOnly, EffectiveArea, TrueEdges}
use Rattle.picture.specs.Area.{frame_size}
use Rattle.refusal.specs.Refusals.{refusal_number}
use Rattle.points.specs.declared.VdpInt.{VdpInt}
use Rattle.points.specs.declared.VdpInt.TheVariants.{NoInterrupt, InterruptGenerated}
use Rattle.points.specs.declared.DisplayRefresh.{DisplayRefresh}
use Rattle.points.specs.declared.DisplayRefresh.TheVariants.{NoDisplay, ScreenDone, ScreenDoneNoRefresh}
use Rattle.points.specs.Points.{interrupt_number, report_number}
use Rattle.trace_record.specs.declared.Record.{Record}
use Rattle.trace_record.specs.declared.Record.TheVariants.{Write, Read, Step, Bad, End}
use Rattle.trace_record.specs.declared.Machine.{Machine}
use Rattle.trace_record.specs.declared.Machine.TheVariants.{Handheld, Home}
use Rattle.trace_run.specs.declared.Device.{Device}
use Rattle.trace_text.specs.declared.Answer.{Answer}
use Rattle.trace_text.specs.declared.Answer.TheVariants as Says
use Rattle.trace_run.specs.declared.Run.{Run}
use Rattle.trace_run.specs.declared.Shown.{Shown}
use Rattle.trace_run.specs.declared.Shown.TheVariants.{Nothing, Colours, Layers}
use Rattle.trace_run.specs.declared.Turned.{Turned}
use Rattle.trace_record.specs.Record.{record_at}
use Rattle.trace_record.specs.Machine.{has_area, taken_by, record_on}
use Rattle.trace_record.specs.Writer.{size}
use Rattle.trace_record.proofs.Records.{fits}
use Rattle.trace_run.specs.Device.{AfterStep, write_on, read_on, row_step_on, frame_step_on, device_write, device_read, device_row_step, device_frame_step}
use Rattle.trace_text.specs.Text.{digit_of, decimal, hex_digit, line_of}
use Rattle.trace_run.specs.Run.{World, Turn, held, step_answer, row_turn, into_frame, frame_turn, layers_into, layer_turn, frame_for, turn_for, turn_by}
use Rattle.trace_run.specs.Run.{turn_of, after, lines, TurnLeaves}
use Rattle.trace_text.proofs.Lines.{decimal_short, one, grow}

-- ---- how long a line is
pub wrote_short : (n : ℕ) → length (line_of (Some (Says.Wrote n))) ≤ 8
unfolding line_of
wrote_short n = simp length-append (omega (arith, decimal_short n))

pub gave_short : (n b : ℕ) → length (line_of (Some (Says.Gave n b))) ≤ 11
unfolding line_of
gave_short n b = simp length-append (omega (arith, decimal_short n))

interrupt_one : (i : VdpInt) → interrupt_number i < 10
interrupt_one NoInterrupt = lit≤ tt
interrupt_one InterruptGenerated = lit≤ tt

report_one : (d : DisplayRefresh) → report_number d < 10
report_one NoDisplay = lit≤ tt
report_one ScreenDone = lit≤ tt
report_one ScreenDoneNoRefresh = lit≤ tt

-- the line of a step behind its refusal
abbrev rest : ℕ → VdpInt → DisplayRefresh → List ℕ
rest c i d = 0x20 ∷ hex_digit (c / 16) ∷ hex_digit (c % 16) ∷ 0x20 ∷ digit_of (interrupt_number i) ∷ 0x20 ∷ digit_of (report_number d) ∷ 0x0A ∷ []

stepped_line :
    (n c : ℕ) (i : VdpInt) (d : DisplayRefresh) → line_of (Some (Says.Stepped n c i d)) ≡ 0x73 ∷ 0x20 ∷ (decimal n ++ rest c i d)
unfolding line_of
stepped_line n c i d = rw (one (interrupt_number i) (interrupt_one i), one (report_number d) (report_one d))

pub stepped_short : (n c : ℕ) (i : VdpInt) (d : DisplayRefresh) → length (line_of (Some (Says.Stepped n c i d))) ≤ 15
stepped_short n c i d =
    let k = ap length (stepped_line n c i d) ∙ ap (λ (m : ℕ). suc (suc m)) (length-append (decimal n) (rest c i d)) in
    omega (arith, decimal_short n)

-- ---- no call makes another machine of a device
module _ (d : Device) (vram : List ℕ) where
  pub write_machine : (m : Machine) (p v : ℕ) → (write_on m d vram p v).device.machine ≡ d.machine
  write_machine Handheld p v = refl
  write_machine Home p v = refl

  pub read_machine : (m : Machine) (p : ℕ) → (read_on m d vram p).device.machine ≡ d.machine
  read_machine Handheld p = refl
  read_machine Home p = refl

  pub row_machine : (m : Machine) (a : RenderArea) (row : List ℕ) → (row_step_on m a d vram row).device.machine ≡ d.machine
  row_machine Handheld a row = refl
  row_machine Home a row = refl

  pub frame_machine : (m : Machine) (a : RenderArea) (frame : List ℕ) → (frame_step_on m a d vram frame).device.machine ≡ d.machine
  frame_machine Handheld a frame = refl
  frame_machine Home a frame = refl

-- ---- all ways to make a step move one record and three bytes on, keep the machine, and print a short line
pub record Moved (w : World) (t : Turn) : Type 0 where
  pub place : t.world.run.at ≡ w.run.at + 3
  pub counts : t.world.run.count ≡ w.run.count + 1
  pub machine : t.world.run.device.machine ≡ w.run.device.machine
  pub short : length (line_of t.answer) ≤ 15

abbrev pub Moves : (RenderArea → World → Turn) → Type 0
Moves step = (a : RenderArea) (w : World) → Moved w (step a w)

answer_short : (s : AfterStep) → length (line_of (Some (step_answer s))) ≤ 15
answer_short s = stepped_short (refusal_number s.outcome) s.counter s.interrupt s.report

pub row_moves : Moves row_turn
unfolding row_turn
row_moves a w =
    let d = w.run.device in
    record {
      place = refl;
      counts = refl;
      machine = row_machine d w.vram d.machine a w.row;
      short = answer_short (device_row_step a d w.vram w.row);
    }

into_moves : Moves into_frame
unfolding into_frame
into_moves a w =
    let d = w.run.device in
    record {
      place = refl;
      counts = refl;
      machine = frame_machine d w.vram d.machine a w.frame;
      short = answer_short (device_frame_step a d w.vram w.frame);
    }

layered_moves : Moves layers_into
unfolding layers_into
layered_moves a w =
    let d = w.run.device in
    record {
      place = refl;
      counts = refl;
      machine = row_machine d w.vram d.machine a w.row;
      short = answer_short (device_row_step a d w.vram w.row);
    }

pub frame_moves : Moves frame_turn
unfolding frame_turn
frame_moves VisibleOnly w = into_moves VisibleOnly w
frame_moves EffectiveArea w = row_moves EffectiveArea w
frame_moves TrueEdges w = into_moves TrueEdges w

pub layer_moves : Moves layer_turn
unfolding layer_turn
layer_moves VisibleOnly w = layered_moves VisibleOnly w
layer_moves EffectiveArea w = row_moves EffectiveArea w
layer_moves TrueEdges w = layered_moves TrueEdges w

-- whatever the frame shows
pub moves_for : (shown : Shown) → Moves (turn_for shown)
moves_for Nothing = row_moves
moves_for Colours = frame_moves
moves_for Layers = layer_moves

-- a frame of the visible size is enough for whatever it shows
pub frame_enough : (shown : Shown) (n : ℕ) → frame_size VisibleOnly ≤ n → frame_for shown ≤ n
frame_enough Nothing n h = omega arith
frame_enough Colours n h = h
frame_enough Layers n h = h

-- ---- a run stays in its recording, and prints at most five bytes for each byte that it has read
pub record Small (n : ℕ) (r : Run) (t : List ℕ) : Type 0 where
  pub inside : r.at ≤ n
  pub counted : r.count ≤ r.at
  pub short : length t ≤ 5 * r.at

still : (n : ℕ) (r : Run) (t : List ℕ) → Small n r t → Small n r (t ++ line_of None)
unfolding line_of
still n r t g = record { inside = g.inside; counted = g.counted; short = simp length-append (omega (arith, g.short)) }

pub small_start : (n : ℕ) (r : Run) → r.at ≡ 0 → r.count ≡ 0 → Small n r []
small_start n r e f = record { inside = omega arith; counted = omega arith; short = omega arith }

-- a record that a machine takes has no more bytes
taken_size : (m : Machine) (x : Record) → size (taken_by m x) ≤ size x
taken_size m (Write p v) = omega arith
taken_size m (Read p) = omega arith
taken_size m (Step a) = either (λ (r : Record). size r ≤ 3) (has_area m a) (λ _. omega arith) (λ _. omega arith)
taken_size m Bad = omega arith
taken_size m End = omega arith

fits_on : (m : Machine) (s : List ℕ) (k : ℕ) → size (record_on m s k) ≤ length s - k
fits_on m s k = omega (arith, taken_size m (record_at s k), fits s k)

module _ {step : RenderArea → World → Turn} (moves : Moves step) where
  small_by :
      (x : Record) (n : ℕ) (w : World) (t : List ℕ) → size x ≤ n - w.run.at → Small n w.run t
      → Small n (turn_by x step w).world.run (t ++ line_of (turn_by x step w).answer)
  unfolding turn_by
  small_by (Write p v) n w t h g =
      let i = g.inside in
      let k = g.counted in
      let s = g.short in
      record {
        inside = omega arith;
        counted = omega arith;
        short = simp length-append
            (omega (arith, wrote_short (refusal_number (device_write w.run.device w.vram p v).outcome)));
      }
  small_by (Read p) n w t h g =
      let i = g.inside in
      let k = g.counted in
      let s = g.short in
      let a = device_read w.run.device w.vram p in
      record { inside = omega arith; counted = omega arith; short = simp length-append (omega (arith, gave_short (refusal_number a.outcome) a.byte)) }
  small_by (Step a) n w t h g =
      let i = g.inside in
      let k = g.counted in
      let s = g.short in
      let p = moves a w in
      record { inside = omega arith; counted = omega arith; short = simp length-append (omega (arith, p.short)) }
  small_by Bad n w t h g = still n w.run t g
  small_by End n w t h g = still n w.run t g

  pub small : (i : ℕ) (s : List ℕ) (w : World) → Small (length s) w.run [] → Small (length s) (after step i s w).run (lines step i s w)
  unfolding after lines turn_of
  small zero s w g = g
  small (suc i) s w g =
      let x = after step i s w in
      let m = x.run.device.machine in
      small_by (record_on m s x.run.at) (length s) x (lines step i s w) (fits_on m s x.run.at) (small i s w g)

  pub ran_small :
      (i : ℕ) (s : List ℕ) (w : World) {x : World} → x ≡ after step i s w → w.run.at ≡ 0 → w.run.count ≡ 0
      → Small (length s) x.run (lines step i s w)
  ran_small i s w e p q = rw e (small i s w (small_start (length s) w.run p q))

-- so of a recording that is not too long its place and its count are small, and there is room for what it prints, a line more and the last line
module _ {n : ℕ} {r : Run} {t : List ℕ} (h : n ≤ 65535) (g : Small n r t) where
  pub place_fits : r.at < 4294967296
  place_fits = omega (arith, g.inside)

  pub count_fits : r.count < 4294967296
  count_fits = omega (arith, g.inside, g.counted)

  module _ {o : ℕ} (big : 327700 ≤ o) where
    pub text_fits : length t ≤ o
    text_fits = omega (arith, g.inside, g.short)

    pub line_fits : {k m : ℕ} → k ≡ length t → m ≡ o → k + 15 ≤ m
    line_fits e f = omega (arith, g.inside, g.short)

    pub last_fits : {k m : ℕ} → k ≡ length t → m ≡ o → k + 10 ≤ m
    last_fits e f = omega (arith, g.inside, g.short)

-- ---- one turn of the code's loop
module _ (step : RenderArea → World → Turn) (s : List ℕ) (w : World) (i : ℕ) {x : World} (e : x ≡ after step i s w) where
  pub world_more : {t : Turned} {vram row frame : List ℕ} → TurnLeaves (turn_of step s x) t vram row frame → held t.run vram row frame ≡ after step
      (i + 1) s w
  unfolding after
  world_more h = h.world ∙ ap (λ (y : World). (turn_of step s y).world) e ∙ rw add-one

  line_is : {t : Turned} {vram row frame : List ℕ} → TurnLeaves (turn_of step s x) t vram row frame → lines step i s w ++ line_of t.answer ≡ lines
      step (i + 1) s w
  unfolding lines
  line_is h =
      ap (λ (a : Option Answer). lines step i s w ++ line_of a) h.answer
      ∙ ap (λ (y : World). lines step i s w ++ line_of (turn_of step s y).answer) e
      ∙ rw add-one

  pub text_more :
      (o : List ℕ) {t : Turned} {vram row frame : List ℕ} {n n' : ℕ} {o' o'' : List ℕ} → TurnLeaves (turn_of step s x) t vram row frame
      → length (lines step i s w) ≤ length o → n ≡ length (lines step i s w) → o' ≡ written o 0 (lines step i s w)
      → (n' ≡ n + length (line_of t.answer)) × (o'' ≡ written o' n (line_of t.answer))
      → (n' ≡ length (lines step (i + 1) s w)) × (o'' ≡ written o 0 (lines step (i + 1) s w))
  text_more o {t} h room en eo p =
      let q = line_is h in
      let g = grow o (lines step i s w) (line_of t.answer) room en eo p in
      (g.0 ∙ ap length q, g.1 ∙ ap (written o 0) q)
