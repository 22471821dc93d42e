-- The snapshot follows a recording as the trace does: with buffers of the sizes that the programs hold, the device goes through the same states, video
-- memory has the same bytes, and every call answers the same. Only what is drawn where differs.
-- Assumes nothing.
use Rattle.std.specs.Prelude.{None, Option, Some, ℕ}
use mathlib.Core.Path.{◌≡◌, refl, sym, ap, subst, ◌∙◌}
use mathlib.Core.List.{List, [], ◌++◌}
use Prim.Native.Nat.{ℕ, zero, suc, ◌*◌, ◌≤◌}
use native.Mathlib.Omega.{arith}
use lib.ListN.{length}
use Rattle.laws.proofs.Paint.{length-painted}
use Rattle.picture.specs.declared.Screen.{Screen}
use Rattle.picture.specs.declared.Screen.TheVariants as On
use Rattle.picture.specs.declared.RenderArea.{RenderArea}
use Rattle.picture.specs.declared.RenderArea.TheVariants.{VisibleOnly, EffectiveArea, TrueEdges}
use Rattle.picture.specs.Screen.{row_size, frame_size}
use Rattle.picture.specs.Area.{screen_of, columns}
use Rattle.vdp.specs.Device.{front_of}
use Rattle.vdp.specs.Ports.{port_write}
use Rattle.refusal.specs.Refusals.{refusal_number}
use Rattle.refusal.proofs.Tables.{Passed}
use Rattle.front.proofs.Kept.{write_kept}
use Rattle.points.specs.declared.Stepped.{Stepped}
use Rattle.points.specs.Points.{row_lines, frame_lines}
use Rattle.step.specs.Step.{counter_up, stepped, row_step_of}
use Rattle.step.specs.Layers.{row_layers}
use Rattle.points.proofs.Laws.{row_passes, frame_passes}
use Rattle.step.proofs.Laws.{step_accepted, row_step_length, frame_step_length}
use Rattle.points.specs.declared.Stepped.{Stepped}
use Rattle.home.specs.Step as homeStep
use Rattle.home.proofs.Kept as homeKept
use Rattle.home.proofs.Laws as homeLaws
use Rattle.trace_record.specs.declared.Record.{Record}
use Rattle.trace_record.specs.declared.Record.TheVariants.{Write, Read, Step, Bad, End}
use Rattle.trace_record.specs.declared.Machine.{Machine}
use Rattle.trace_record.specs.declared.Machine.TheVariants.{Handheld, Home}
use Rattle.trace_run.specs.declared.Device.{Device}
use Rattle.trace_text.specs.declared.Answer.TheVariants as Says
use Rattle.trace_run.specs.declared.Run.{Run}
use Rattle.trace_run.specs.declared.Shown.{Shown}
use Rattle.trace_run.specs.declared.Shown.TheVariants.{Nothing, Colours, Layers}
use Rattle.trace_run.specs.Device.{with_vdp, with_home, AfterWrite, AfterRead, AfterStep, of_handheld, of_home, write_on, row_step_on, frame_step_on}
use Rattle.trace_run.specs.Device.{device_write, device_read, device_row_step, device_frame_step}
use Rattle.trace_text.specs.Text.{line_of}
use Rattle.trace_run.specs.Run.{World, Turn, held, start, on, step_answer, row_turn, into_frame, frame_turn, layers_painted, layers_on, layers_into}
use Rattle.trace_record.specs.Machine.{record_on}
use Rattle.trace_run.specs.Run.{layer_turn, turn_for, turn_by, turn_of, after, lines}
use Rattle.trace_run.specs.Output.{screen_for}
use Rattle.trace_run.proofs.Runs.{write_machine, read_machine, row_machine, frame_machine}
use Rattle.vdp.specs.declared.VdpState.{VdpState}
use Rattle.home.specs.declared.HomeState.{HomeState}

-- ---- what a call writes keeps its length
module _ (d : Device) (vram : List ℕ) where
  write_length : (m : Machine) (p v : ℕ) → length (write_on m d vram p v).vram ≡ length vram
  unfolding port_write
  write_length Handheld p v = (write_kept 64 (front_of d.vdp) vram p v).memory
  write_length Home p v = homeKept.write_memory d.home vram p v

  module _ (a : RenderArea) (b : List ℕ) where
    row_length : (m : Machine) → length (row_step_on m a d vram b).buffer ≡ length b
    row_length Handheld = row_step_length a vram d.vdp b
    row_length Home = homeLaws.row_step_length vram d.home b

    frame_length : (m : Machine) → length (frame_step_on m a d vram b).buffer ≡ length b
    frame_length Handheld = frame_step_length a vram d.vdp b
    frame_length Home = homeLaws.frame_step_length vram d.home b

painted_length : (r : Option ℕ) (layer : ℕ → ℕ → ℕ) (frame : List ℕ) → length (layers_painted r layer frame) ≡ length frame
painted_length None layer frame = refl
painted_length (Some y) layer frame = length-painted frame (160 * y) 160 _

layers_length : (m : Machine) (a : RenderArea) (d : Device) (vram : List ℕ) (n : ℕ) (frame : List ℕ) → length (layers_on m a d vram n frame) ≡ length
    frame
layers_length Handheld a d vram n frame = painted_length (row_step_of a vram n d.vdp).row (row_layers a vram (counter_up d.vdp)) frame
layers_length Home a d vram n frame = refl

-- two worlds with the same device and video memory, and buffers of a size to draw in
pub record Alike (t w : World) : Type 0 where
  pub runs : t.run ≡ w.run
  pub memory : t.vram ≡ w.vram
  pub vram : length t.vram ≡ 16384
  pub rows : 1024 ≤ length t.row
  pub rows' : 1024 ≤ length w.row
  pub frame : length w.frame ≡ frame_size (screen_for w.run.device.machine)

-- one turn of each
pub record SameTurn (a b : Turn) : Type 0 where
  pub answer : a.answer ≡ b.answer
  pub world : Alike a.world b.world

-- two steps that answer the same, and leave the same device
record SameStep (x y : AfterStep) : Type 0 where
  answer : Some (step_answer x) ≡ Some (step_answer y)
  device : x.device ≡ y.device

same_handheld : {d d' : Device} {k k' : Stepped VdpState} {b b' : List ℕ} → d ≡ d' → k ≡ k' → SameStep (of_handheld d k b) (of_handheld d' k' b')
same_handheld {d} e f = record { answer = λ i. Some (step_answer (of_handheld d (f i) [])); device = λ i. with_vdp (e i) (f i).device }

same_home : {d d' : Device} {k k' : Stepped HomeState} {b b' : List ℕ} → d ≡ d' → k ≡ k' → SameStep (of_home d k b) (of_home d' k' b')
same_home {d} e f = record { answer = λ i. Some (step_answer (of_home d (f i) [])); device = λ i. with_home (e i) (f i).device }

-- no area has longer rows than 1,024 bytes
short_row : (a : RenderArea) → row_size (screen_of a) ≤ 1024
short_row VisibleOnly = omega arith
short_row EffectiveArea = omega arith
short_row TrueEdges = omega arith

-- an area of the visible size has its frame
same_frame : (a : RenderArea) → columns a ≡ 160 → frame_size (screen_of a) ≡ 92160
same_frame VisibleOnly c = refl
same_frame EffectiveArea c = absurd (omega arith)
same_frame TrueEdges c = refl

module _ {t w : World} (h : Alike t w) where
  abbrev d : Device
  d = t.run.device

  abbrev d' : Device
  d' = w.run.device

  machines : d.machine ≡ d'.machine
  machines = ap (λ (r : Run). r.device.machine) h.runs

  memory' : length w.vram ≡ 16384
  memory' = sym (ap length h.memory) ∙ h.vram

  row_taken : (s : Screen) → row_size s ≤ 1024 → Passed (row_lines s t.vram (length t.row))
  row_taken s k = let r = h.rows in row_passes s t.vram (length t.row) h.vram (omega arith)

  row_taken' : (s : Screen) → row_size s ≤ 1024 → Passed (row_lines s w.vram (length w.row))
  row_taken' s k = let r = h.rows' in row_passes s w.vram (length w.row) memory' (omega arith)

  -- a step that is accepted in both answers the same: that depends on the device and on video memory alone
  rows_by_lem : (m : Machine) (a : RenderArea) → SameStep (row_step_on m a d t.vram t.row) (row_step_on m a d' w.vram w.row)
  rows_by_lem Handheld a =
      let s = screen_of a in
      same_handheld (λ i. (h.runs i).device)
      (step_accepted (row_lines s t.vram (length t.row)) a t.vram d.vdp (row_taken s (short_row a))
      ∙ (λ i. stepped a (h.memory i) (h.runs i).device.vdp)
      ∙ sym (step_accepted (row_lines s w.vram (length w.row)) a w.vram d'.vdp (row_taken' s (short_row a))))
  rows_by_lem Home a =
      let s = On.Home in
      same_home (λ i. (h.runs i).device)
      (homeLaws.step_accepted (row_lines s t.vram (length t.row)) t.vram d.home (row_taken s (omega arith))
      ∙ (λ i. homeStep.stepped (h.memory i) (h.runs i).device.home)
      ∙ sym (homeLaws.step_accepted (row_lines s w.vram (length w.row)) w.vram d'.home (row_taken' s (omega arith))))

  frame_by :
      (m : Machine) (a : RenderArea) → columns a ≡ 160 → length w.frame ≡ frame_size (screen_for m)
      → SameStep (row_step_on m a d t.vram t.row) (frame_step_on m a d' w.vram w.frame)
  frame_by Handheld a c f =
      let s = screen_of a in
      same_handheld (λ i. (h.runs i).device)
      (step_accepted (row_lines s t.vram (length t.row)) a t.vram d.vdp (row_taken s (short_row a))
      ∙ (λ i. stepped a (h.memory i) (h.runs i).device.vdp)
      ∙ sym (step_accepted (frame_lines s w.vram (length w.frame)) a w.vram d'.vdp
      (frame_passes s w.vram (length w.frame) memory' (f ∙ sym (same_frame a c)))))
  frame_by Home a c f =
      let s = On.Home in
      same_home (λ i. (h.runs i).device)
      (homeLaws.step_accepted (row_lines s t.vram (length t.row)) t.vram d.home (row_taken s (omega arith))
      ∙ (λ i. homeStep.stepped (h.memory i) (h.runs i).device.home)
      ∙ sym (homeLaws.step_accepted (frame_lines s w.vram (length w.frame)) w.vram d'.home
      (frame_passes s w.vram (length w.frame) memory' f)))

  -- the worlds after such steps: r and r' are the row buffers, f' the frame
  after_step :
      {x y : AfterStep} {r r' f' : List ℕ} → SameStep x y → y.device.machine ≡ d'.machine → length r ≡ length t.row → length r' ≡ length
      w.row
      → length f' ≡ length w.frame → Alike (held (on t.run 3 x.device) t.vram r t.frame)
      (held (on w.run 3 y.device) w.vram r' f')
  after_step e m er er' ef =
      record {
        runs = λ i. on (h.runs i) 3 (e.device i);
        memory = h.memory;
        vram = h.vram;
        rows = omega (arith, er, h.rows);
        rows' = omega (arith, er', h.rows');
        frame = ef ∙ h.frame ∙ ap (λ (k : Machine). frame_size (screen_for k)) (sym m);
      }

  module _ (a : RenderArea) where
    -- a step into the row buffer in both
    rows_both : SameStep (device_row_step a d t.vram t.row) (device_row_step a d' w.vram w.row)
    rows_both = subst (λ (m : Machine). SameStep (row_step_on m a d t.vram t.row) (device_row_step a d' w.vram w.row)) (sym machines)
        (rows_by_lem d'.machine a)

    row_both : SameTurn (row_turn a t) (row_turn a w)
    unfolding row_turn
    row_both =
        record {
          answer = rows_both.answer;
          world = after_step rows_both (row_machine d' w.vram d'.machine a w.row) (row_length d t.vram a t.row d.machine)
              (row_length d' w.vram a w.row d'.machine) refl;
        }

    layers_both : SameTurn (row_turn a t) (layers_into a w)
    unfolding row_turn layers_into
    layers_both =
        record {
          answer = rows_both.answer;
          world =
              after_step rows_both (row_machine d' w.vram d'.machine a w.row) (row_length d t.vram a t.row d.machine)
              (row_length d' w.vram a w.row d'.machine)
              (layers_length d'.machine a d' w.vram (length w.row) w.frame);
        }

    -- into the frame in one of them
    into_both : columns a ≡ 160 → SameTurn (row_turn a t) (into_frame a w)
    unfolding row_turn into_frame
    into_both c =
        let e =
        subst (λ (m : Machine). SameStep (row_step_on m a d t.vram t.row) (device_frame_step a d' w.vram w.frame)) (sym machines)
        (frame_by d'.machine a c h.frame) in
        record {
          answer = e.answer;
          world = after_step e (frame_machine d' w.vram d'.machine a w.frame) (row_length d t.vram a t.row d.machine) refl
              (frame_length d' w.vram a w.frame d'.machine);
        }

  step_both : (shown : Shown) (a : RenderArea) → SameTurn (row_turn a t) (turn_for shown a w)
  unfolding frame_turn layer_turn
  step_both Nothing a = row_both a
  step_both Colours VisibleOnly = into_both VisibleOnly refl
  step_both Layers VisibleOnly = layers_both VisibleOnly
  step_both Colours EffectiveArea = row_both EffectiveArea
  step_both Layers EffectiveArea = row_both EffectiveArea
  step_both Colours TrueEdges = into_both TrueEdges refl
  step_both Layers TrueEdges = layers_both TrueEdges

  turn_by_lem : (shown : Shown) (x : Record) → SameTurn (turn_by x row_turn t) (turn_by x (turn_for shown) w)
  unfolding turn_by
  turn_by_lem shown (Write p v) =
      let e : device_write d t.vram p v ≡ device_write d' w.vram p v = λ i. device_write (h.runs i).device (h.memory i) p v in
      record {
        answer = ap (λ (a : AfterWrite). Some (Says.Wrote (refusal_number a.outcome))) e;
        world = record {
          runs = λ i. on (h.runs i) 4 (e i).device;
          memory = ap (λ (a : AfterWrite). a.vram) e;
          vram = write_length d t.vram d.machine p v ∙ h.vram;
          rows = h.rows;
          rows' = h.rows';
          frame = h.frame ∙ ap (λ (k : Machine). frame_size (screen_for k)) (sym (write_machine d' w.vram d'.machine p v));
        };
      }
  turn_by_lem shown (Read p) =
      let e : device_read d t.vram p ≡ device_read d' w.vram p = λ i. device_read (h.runs i).device (h.memory i) p in
      record {
        answer = ap (λ (a : AfterRead). Some (Says.Gave (refusal_number a.outcome) a.byte)) e;
        world = record {
          runs = λ i. on (h.runs i) 3 (e i).device;
          memory = h.memory;
          vram = h.vram;
          rows = h.rows;
          rows' = h.rows';
          frame = h.frame ∙ ap (λ (k : Machine). frame_size (screen_for k)) (sym (read_machine d' w.vram d'.machine p));
        };
      }
  turn_by_lem shown (Step a) = step_both shown a
  turn_by_lem shown Bad = record { answer = refl; world = h }
  turn_by_lem shown End = record { answer = refl; world = h }

  -- one turn, and so all of them
  same_turn : (shown : Shown) (s : List ℕ) → SameTurn (turn_of row_turn s t) (turn_of (turn_for shown) s w)
  unfolding turn_of
  same_turn shown s =
      rw (ap (λ (r : Run). record_on r.device.machine s r.at) h.runs) (turn_by_lem shown (record_on d'.machine s w.run.at))

pub alike : (shown : Shown) (n : ℕ) (s : List ℕ) {t w : World} → Alike t w → Alike (after row_turn n s t) (after (turn_for shown) n s w)
unfolding after
alike shown zero s h = h
alike shown (suc n) s h = (same_turn (alike shown n s h) shown s).world

pub same_lines : (shown : Shown) (n : ℕ) (s : List ℕ) {t w : World} → Alike t w → lines row_turn n s t ≡ lines (turn_for shown) n s w
unfolding lines
same_lines shown zero s h = refl
same_lines shown (suc n) s h = λ i. same_lines shown n s h i ++ line_of ((same_turn (alike shown n s h) shown s).answer i)

-- the programs, as they start on any device of either machine, whatever the frame shows: 16,384 bytes of video memory, a row buffer of 1,024 and a frame
-- of the machine's size
pub programs :
    (shown : Shown) (d : Device) (n : ℕ) (s vram row frame : List ℕ) → length vram ≡ 16384 → length row ≡ 1024
    → length frame ≡ frame_size (screen_for d.machine) → Alike (after row_turn n s (start d vram row []))
    (after (turn_for shown) n s (start d vram row frame))
programs shown d n s vram row frame v r f =
    alike shown n s (record { runs = refl; memory = refl; vram = v; rows = omega arith; rows' = omega arith; frame = f })
