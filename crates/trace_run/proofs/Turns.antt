-- One record of a recording: what its call leaves.
-- Assumes nothing.
use Rattle.std.specs.Prelude.{None, Option, Some, ℕ}
use mathlib.Core.Path.{◌≡◌, refl, sym, ap, ◌∙◌}
use mathlib.Core.Logic.{◌⊎◌, inl, inr}
use mathlib.Core.List.{List, [], ◌∷◌}
use Prim.Native.Nat.{◌*◌, ◌≤◌}
use native.Mathlib.Omega.{arith}
use lib.ListN.{length}
use Rattle.laws.specs.Lists.{at}
use Rattle.laws.specs.Paint.{painted}
use Rattle.laws.proofs.Paint.{painted_cong}
use Rattle.laws.proofs.Tests.{split}
use Rattle.picture.proofs.Layers.{layers_in-at}
use Rattle.picture.specs.declared.RenderArea.{RenderArea}
use Rattle.picture.specs.declared.RenderArea.TheVariants.{VisibleOnly, EffectiveArea, TrueEdges}
use Rattle.picture.specs.Area.{screen_of, columns, rows, frame_size}
use Rattle.vdp.specs.declared.VdpState.{VdpState}
use Rattle.refusal.specs.Refusals.{Line}
use Rattle.points.specs.declared.Stepped.{Stepped}
use Rattle.step.specs.Step.{line_of, counter_up, row_on, stepped, row_lines, step_with, row_step_of}
use Rattle.points.specs.Points.{RowIn, points_of}
use Rattle.step.specs.Frame.{RowStepLeaves, FrameStepLeaves}
use Rattle.home.specs.Step as homeStep
use Rattle.points.specs.Bytes.{layers_by, also_layers}
use Rattle.step.specs.Layers.{row_layers, layers_after, RowLayersLeave}
use Rattle.points.proofs.Rows.{row_in}
use Rattle.step.proofs.Steps.{aside}
use Rattle.trace_record.specs.declared.Record.{Record}
use Rattle.trace_record.specs.declared.Record.TheVariants.{Write, Read, Step, Bad, End}
use Rattle.trace_record.specs.declared.Machine.{Machine}
use Rattle.trace_record.specs.declared.Machine.TheVariants.{Handheld, Home}
use Rattle.trace_run.specs.declared.Device.{Device}
use Rattle.trace_run.specs.declared.Shown.{Shown}
use Rattle.trace_run.specs.declared.Shown.TheVariants.{Nothing, Colours, Layers}
use Rattle.trace_run.specs.declared.Turned.{Turned}
use Rattle.trace_record.specs.Machine.{record_on}
use Rattle.trace_run.specs.Device.{AfterStep, of_handheld, of_home, row_step_on, frame_step_on}
use Rattle.trace_run.specs.Device.{device_write, device_read, device_row_step, device_frame_step}
use Rattle.trace_run.specs.Run.{World, Turn, held, on, step_answer, row_turn, into_frame, frame_turn, layer_colour, layers_painted, layers_on}
use Rattle.trace_run.specs.Run.{layers_into, layer_turn, shown_of, frame_for, turn_for, turn_by, turn_of, TurnLeaves, write_turned, read_turned, step_turned}
use Rattle.home.specs.declared.HomeState.{HomeState}

-- the same turn, said in another way
same_turn : {u v : Turn} {t : Turned} {vram row frame : List ℕ} → u ≡ v → TurnLeaves u t vram row frame → TurnLeaves v t vram row frame
same_turn e h = record { answer = h.answer ∙ ap (λ (x : Turn). x.answer) e; world = h.world ∙ ap (λ (x : Turn). x.world) e }

-- ---- a call of either machine, as its own contract has it, is one of the device
module _ (a : RenderArea) (d : Device) (vram : List ℕ) where
  pub handheld_row :
      {row row' : List ℕ} {k : Stepped VdpState} → d.machine ≡ Handheld → RowStepLeaves a vram d.vdp row k row' → of_handheld d k row' ≡ device_row_step a d
      vram row
  handheld_row {row} e h = (λ i. of_handheld d (h.answer i) (h.bytes i)) ∙ ap (λ (m : Machine). row_step_on m a d vram row) (sym e)

  pub home_row_lem :
      {row row' : List ℕ} {k : Stepped HomeState} → d.machine ≡ Home → homeStep.RowStepLeaves vram d.home row k row' → of_home d k row' ≡ device_row_step
      a d vram row
  home_row_lem {row} e h = (λ i. of_home d (h.answer i) (h.bytes i)) ∙ ap (λ (m : Machine). row_step_on m a d vram row) (sym e)

  pub handheld_frame :
      {frame frame' : List ℕ} {k : Stepped VdpState} → d.machine ≡ Handheld → FrameStepLeaves a vram d.vdp frame k frame'
      → of_handheld d k frame' ≡ device_frame_step a d vram frame
  handheld_frame {frame} e h = (λ i. of_handheld d (h.answer i) (h.bytes i)) ∙ ap (λ (m : Machine). frame_step_on m a d vram frame) (sym e)

  pub home_frame :
      {frame frame' : List ℕ} {k : Stepped HomeState} → d.machine ≡ Home → homeStep.FrameStepLeaves vram d.home frame k frame'
      → of_home d k frame' ≡ device_frame_step a d vram frame
  home_frame {frame} e h = (λ i. of_home d (h.answer i) (h.bytes i)) ∙ ap (λ (m : Machine). frame_step_on m a d vram frame) (sym e)

-- a step into the row buffer, and one into the frame
module _ (a : RenderArea) (w : World) {k : AfterStep} {t : Turned} (et : t ≡ step_turned w.run k) where
  pub row_stepped : k ≡ device_row_step a w.run.device w.vram w.row → TurnLeaves (row_turn a w) t w.vram k.buffer w.frame
  unfolding row_turn
  row_stepped h =
      let e = et ∙ ap (step_turned w.run) h in
      record { answer = ap (λ (x : Turned). x.answer) e; world = λ i. held (e i).run w.vram (h i).buffer w.frame }

  pub frame_stepped : k ≡ device_frame_step a w.run.device w.vram w.frame → TurnLeaves (into_frame a w) t w.vram w.row k.buffer
  unfolding into_frame
  frame_stepped h =
      let e = et ∙ ap (step_turned w.run) h in
      record { answer = ap (λ (x : Turned). x.answer) e; world = λ i. held (e i).run w.vram w.row (h i).buffer }

-- ---- a step whose layers the frame shows
-- a step draws no row, or it is the accepted one, and the layers are told
told_or_not :
    (ls : List Line) (a : RenderArea) (vram : List ℕ) (d : VdpState) (layers : List ℕ)
    → ((step_with ls a vram d).row ≡ None)
    ⊎ (((step_with ls a vram d).row ≡ row_on a (line_of (counter_up d))) ×
    (layers_after ls a vram d layers ≡ layers_by (row_on a (line_of (counter_up d))) (screen_of a) (row_layers a vram (counter_up d)) layers))
unfolding step_with layers_after stepped points_of
told_or_not [] a vram d layers = inr (refl, refl)
told_or_not (l ∷ ls) a vram d layers = split l.holds (λ t. inl (rw t)) (λ t. rw t (told_or_not ls a vram d layers))

-- an area as wide as the visible one has its rows
same_rows : (a : RenderArea) → columns a ≡ 160 → rows a ≡ 144
same_rows VisibleOnly c = refl
same_rows EffectiveArea c = absurd (omega arith)
same_rows TrueEdges c = refl

module _ (a : RenderArea) (c : columns a ≡ 160) (vram : List ℕ) (d : VdpState) (frame layers : List ℕ) (n : length layers ≡ 160) where
  shown_layers : (y : ℕ) → painted frame (160 * y) 160
      (λ x. layer_colour (at (layers_by (Some y) (screen_of a) (row_layers a vram (counter_up d)) layers) x))
      ≡ painted frame (160 * y) 160 (λ x. layer_colour (row_layers a vram (counter_up d) y x))
  unfolding layers_by
  shown_layers y =
      let h : 160 ≤ length layers = omega arith in
      painted_cong frame (160 * y) 160 _ _ (λ x i. ap layer_colour (rw c (layers_in-at layers 160 (row_layers a vram (counter_up d) y) h x i)))

  painted_by : (r : Option ℕ) → layers_painted r (λ y. at (layers_by r (screen_of a) (row_layers a vram (counter_up d)) layers)) frame ≡ layers_painted r
      (row_layers a vram (counter_up d)) frame
  painted_by None = refl
  painted_by (Some y) = shown_layers y

  painted_is :
      (ls : List Line) {r : Option ℕ} {layers' : List ℕ} → r ≡ (step_with ls a vram d).row → layers' ≡ layers_after ls a vram d layers
      → layers_painted r (λ y. at layers') frame ≡ layers_painted r (row_layers a vram (counter_up d)) frame
  painted_is ls {r} er el =
      elim (told_or_not ls a vram d layers) [
        | inl z ↦ rw (er ∙ z)
        | inr z ↦ rw (er ∙ z.0, el ∙ z.1) (painted_by (row_on a (line_of (counter_up d))))
      ]

  -- the row that is drawn is one of the area's
  pub row_told : (ls : List Line) {r : Option ℕ} → r ≡ (step_with ls a vram d).row → RowIn (screen_of VisibleOnly) r
  row_told ls er =
      elim (told_or_not ls a vram d layers) [
        | inl z ↦ λ y q. absurd (let k : None ≡ Some y = sym (er ∙ z) ∙ q in let o : ◌≡◌ {A = ℕ} 0 1 = cc in omega arith)
        | inr z ↦ λ y q. omega (arith, row_in (screen_of a) (line_of (counter_up d)) (er ∙ z.0) y q, same_rows a c)
      ]

pub layer_stepped :
    (a : RenderArea) → columns a ≡ 160 → (w : World) (layers : List ℕ) {k : Stepped VdpState} {row layers' frame : List ℕ} {t : Turned} → length layers ≡ 160
    → w.run.device.machine ≡ Handheld
    → RowLayersLeave (columns a) a w.vram w.run.device.vdp w.row layers k row layers' → frame ≡ layers_painted k.row (λ y. at layers')
    w.frame
    → t ≡ step_turned w.run (of_handheld w.run.device k row) → TurnLeaves (layers_into a w) t w.vram row frame
unfolding layers_into
layer_stepped a c w layers {k} {row} {layers'} {frame} {t} n e g ef et =
    let d = w.run.device in
    let room : columns a ≤ length layers = omega arith in
    let ls = row_lines a w.vram (length w.row) in
    let al = also_layers (columns a) (length layers) ls in
    let s = aside a w.vram d.vdp w.row layers room in
    let q : k ≡ row_step_of a w.vram (length w.row) d.vdp = g.answer ∙ s.0 in
    let h = handheld_row a d w.vram {row = w.row} {row' = row} {k = k} e (record { answer = q; bytes = g.bytes ∙ s.1 }) in
    let f : frame ≡ layers_on d.machine a d w.vram (length w.row) w.frame =
    ef
    ∙ painted_is a c w.vram d.vdp w.frame layers n al (ap (λ (x : Stepped VdpState). x.row) g.answer) g.owners
    ∙ ap (λ (x : Stepped VdpState). layers_painted x.row (row_layers a w.vram (counter_up d.vdp)) w.frame) q
    ∙ ap (λ (m : Machine). layers_on m a d w.vram (length w.row) w.frame) (sym e) in
    let q = et ∙ ap (step_turned w.run) h in
    record { answer = ap (λ (x : Turned). x.answer) q; world = λ i. held (q i).run w.vram (h i).buffer (f i) }

-- the home machine tells no layers
pub no_layers :
    (a : RenderArea) (w : World) {t : Turned} {vram row : List ℕ} → w.run.device.machine ≡ Home → TurnLeaves (row_turn a w) t vram row w.frame
    → TurnLeaves (layers_into a w) t vram row w.frame
unfolding row_turn layers_into
no_layers a w e h =
    let d = w.run.device in
    let s = device_row_step a d w.vram w.row in
    let into : Machine → Turn = λ m. record {
      answer = Some (step_answer s);
      world = held (on w.run 3 s.device) w.vram s.buffer
          (layers_on m a d w.vram (length w.row) w.frame);
    } in
    same_turn (ap into (sym e)) h

-- where the frame shows layers the area is as wide as the visible one, and the frame has room
pub as_wide : (shown : Shown) (a : RenderArea) → Layers ≡ shown_of shown a → columns a ≡ columns VisibleOnly
as_wide shown VisibleOnly e = refl
as_wide shown EffectiveArea e = absurd (let o : ◌≡◌ {A = ℕ} 0 1 = cc in omega arith)
as_wide shown TrueEdges e = refl

pub as_long : (shown : Shown) (a : RenderArea) (n : ℕ) → Layers ≡ shown_of shown a → frame_for shown ≤ n → frame_size VisibleOnly ≤ n
as_long shown VisibleOnly n e h = rw (sym e) at h
as_long shown EffectiveArea n e h = absurd (let o : ◌≡◌ {A = ℕ} 0 1 = cc in omega arith)
as_long shown TrueEdges n e h = rw (sym e) at h

-- steps go where the frame shows them, and those of which it shows nothing into the row buffer
abbrev pub shown_by : Shown → RenderArea → World → Turn
shown_by Nothing = row_turn
shown_by Colours = into_frame
shown_by Layers = layers_into

shown_for : (shown : Shown) (a : RenderArea) (w : World) → shown_by (shown_of shown a) a w ≡ turn_for shown a w
unfolding frame_turn layer_turn
shown_for Nothing VisibleOnly w = refl
shown_for Nothing EffectiveArea w = refl
shown_for Nothing TrueEdges w = refl
shown_for Colours VisibleOnly w = refl
shown_for Colours EffectiveArea w = refl
shown_for Colours TrueEdges w = refl
shown_for Layers VisibleOnly w = refl
shown_for Layers EffectiveArea w = refl
shown_for Layers TrueEdges w = refl

pub shown_stepped :
    (shown : Shown) (a : RenderArea) (w : World) {by : Shown} {t : Turned} {vram row frame : List ℕ} → by ≡ shown_of shown a
    → TurnLeaves (shown_by by a w) t vram row frame → TurnLeaves (turn_for shown a w) t vram row frame
shown_stepped shown a w e h = same_turn (ap (λ (s : Shown). shown_by s a w) e ∙ shown_for shown a w) h

-- the record at the run's place, by its kind
module _ (step : RenderArea → World → Turn) (s : List ℕ) (w : World) {x : Record} (e : x ≡ record_on w.run.device.machine s w.run.at) where
  is_turn : {y : Record} → x ≡ y → turn_by y step w ≡ turn_of step s w
  unfolding turn_of
  is_turn f = ap (λ (z : Record). turn_by z step w) (sym f ∙ e)

  pub at_write :
      {p v : ℕ} {t : Turned} {vram : List ℕ} → x ≡ Write p v → t ≡ write_turned w.run (device_write w.run.device w.vram p v)
      → vram ≡ (device_write w.run.device w.vram p v).vram → TurnLeaves (turn_of step s w) t vram w.row w.frame
  unfolding turn_by
  at_write f et em =
      same_turn (is_turn f) (record { answer = ap (λ (y : Turned). y.answer) et; world = λ i. held (et i).run (em i) w.row w.frame })

  pub at_read :
      {p : ℕ} {t : Turned} → x ≡ Read p → t ≡ read_turned w.run (device_read w.run.device w.vram p)
      → TurnLeaves (turn_of step s w) t w.vram w.row w.frame
  unfolding turn_by
  at_read f et = same_turn (is_turn f) (record { answer = ap (λ (y : Turned). y.answer) et; world = λ i. held (et i).run w.vram w.row w.frame })

  pub at_step :
      {a : RenderArea} {t : Turned} {vram row frame : List ℕ} → x ≡ Step a → TurnLeaves (step a w) t vram row frame
      → TurnLeaves (turn_of step s w) t vram row frame
  unfolding turn_by
  at_step f h = same_turn (is_turn f) h

  pub at_bad : x ≡ Bad → TurnLeaves (turn_of step s w) (record { answer = None; run = w.run }) w.vram w.row w.frame
  unfolding turn_by
  at_bad f = same_turn (is_turn f) (record { answer = refl; world = refl })

  pub at_end_lem : x ≡ End → TurnLeaves (turn_of step s w) (record { answer = None; run = w.run }) w.vram w.row w.frame
  unfolding turn_by
  at_end_lem f = same_turn (is_turn f) (record { answer = refl; world = refl })
