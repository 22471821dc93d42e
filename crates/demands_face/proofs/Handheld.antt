-- The handheld's C face is lawful, and what the demands say of it.
-- Assumes nothing.
use Rattle.std.specs.Prelude.{Ok}
use mathlib.Core.Path.{◌≡◌, refl, sym, ap, ◌∙◌}
use mathlib.Core.Bool.{true}
use mathlib.Core.List.{List}
use Prim.Native.Nat.{ℕ, ◌≤◌}
use native.Mathlib.Omega.{arith}
use lib.ListN.{length}
use Rattle.picture.specs.declared.RenderArea.{RenderArea}
use Rattle.picture.specs.declared.RenderArea.TheVariants.{VisibleOnly, EffectiveArea, TrueEdges}
use Rattle.picture.specs.Screen.{rows}
use Rattle.picture.specs.Area.{screen_of, columns}
use Rattle.vdp.specs.declared.VdpState.{VdpState}
use Rattle.refusal.specs.Refusals.{refusal_number, Line}
use Rattle.block.specs.Block.{fits, block_of}
use Rattle.points.specs.declared.Stepped.{Stepped}
use Rattle.step.specs.Step.{frame_lines, step_with, frame_step_of}
use Rattle.step.specs.Frame.{frame_after}
use Rattle.points.specs.Bytes.{also_layers}
use Rattle.points.proofs.Laws.{frame_refusing}
use Rattle.step.proofs.Laws.{step_exact, step_table}
use Rattle.trace_record.specs.Writer.{area_number}
use Rattle.face.specs.Face.{Called, on_area, stepped_to, step_on}
use Rattle.face.specs.Layers.{layer_on, frame_table, frame_fills}
use Rattle.face.specs.Refused.{refusal_in}
use Rattle.face.proofs.Shapes.{with_shape}
use Rattle.face.proofs.Exact.{step_byte}
use Rattle.passes.specs.Pass.{Demand3}
use Rattle.demands.proofs.Steps.{frame_taken, accepts}
use Rattle.demands.proofs.Layers.{aside}
use Rattle.demands.specs.Numbers.{EffectiveRows}
use Rattle.passes.specs.Chart.{InOrder}
use Rattle.passes.specs.Split.{Split, ColourSplit}
use Rattle.passes.proofs.Chart.{in_order}
use Rattle.demands.proofs.Handheld.{handheld_lawful, demand3_visible, demand3_edges, effective_rows, colour_split-visible}
use Rattle.demands_face.specs.Face.{Way, plain, with_layers, FaceRun, Goes, watched_by, Through}
use Rattle.demands_face.specs.Calls.{called, on_frame_lem, face}
use Rattle.demands_face.proofs.Lawful.{Steps, LawfulFace}
use Rattle.demands_face.proofs.Watched.{through_face}
use Rattle.demands_face.proofs.Words.{accepted_0, by_step, layers_fit}
use Rattle.demands_face.proofs.Stands.{Stands, made_stands, in_block, step_is, layer_is, calls, quietly, begun}
use Rattle.demands_face.proofs.Answers.{answers}

-- an area by its number
on_number : (a : RenderArea) (b x : List ℕ) (call : RenderArea → Called) → on_area (area_number a) b x call ≡ call a
on_number VisibleOnly b x call = refl
on_number EffectiveArea b x call = refl
on_number TrueEdges b x call = refl

rows_low : (a : RenderArea) → rows (screen_of a) ≤ 256
rows_low VisibleOnly = omega arith
rows_low EffectiveArea = omega arith
rows_low TrueEdges = omega arith

module _ (a : RenderArea) (m x b : List ℕ) (d : VdpState) (s : Stands b d) where
  abbrev step : Stepped VdpState
  step = frame_step_of a m (length x) d

  on_step : (w : Way) → called (on_frame_lem a w m x) b ≡ stepped_to s.room step (frame_after a m d x) → step.outcome ≡ (Ok tt) → Steps face Stands a
      w m x b d
  on_step w e ok =
      let shape = with_shape (frame_lines a m (length x)) a m d s.shape in
      let fit : fits step.device.raster.table s.room ≡ true = rw (step_table (frame_lines a m (length x)) a m d) s.fitting in
      let left : Stands (block_of s.room step.device) step.device = record { room = s.room; fitting = fit; shape = shape; is = refl } in
      by_step handheld_lawful face Stands a (rows_low a) w m x b (block_of s.room step.device) d e left (in_block left)
      (λ d'. accepts (frame_lines a m (length x)) a m d' (frame_taken a m (length x) d ok))

  plain_is : called (on_frame_lem a plain m x) b ≡ step_on m x s.room d a
  unfolding called
  plain_is = step_is s m x (area_number a) ∙ on_number a b x (step_on m x s.room d)

  plain_steps : refusal_in (called (on_frame_lem a plain m x) b).word ≡ 0 → Steps face Stands a plain m x b d
  plain_steps z = on_step plain plain_is (accepted_0 step.outcome (sym (step_byte step) ∙ sym (ap (λ (c : Called). refusal_in c.word) plain_is) ∙ z))

  pub takes : step.outcome ≡ (Ok tt) → refusal_in (called (on_frame_lem a plain m x) b).word ≡ 0
  takes ok = ap (λ (c : Called). refusal_in c.word) plain_is ∙ step_byte step ∙ ap refusal_number ok

  -- with room for the layers it is the step without
  module _ (layers : List ℕ) where
    abbrev lines : List Line
    lines = also_layers (columns a) (length layers) (frame_lines a m (length x))

    abbrev also : Stepped VdpState
    also = step_with lines a m d

    layer_steps : refusal_in (called (on_frame_lem a (with_layers layers) m x) b).word ≡ 0 → Steps face Stands a (with_layers layers) m x b d
    unfolding called
    layer_steps z =
        let e = layer_is s (frame_table m x) (frame_fills m x) m x layers (area_number a) ∙ on_number a b x
        (layer_on (frame_table m x) (frame_fills m x) m x layers s.room d) in
        let ok = accepted_0 also.outcome (sym (step_byte also) ∙ sym (ap (λ (c : Called). refusal_in c.word) e) ∙ z) in
        let one = aside a m d x layers in
        let fit = layers_fit (columns a) (length layers) (frame_lines a m (length x)) (frame_refusing (screen_of a) m (length x))
        (sym (step_exact lines a m d) ∙ ok) in
        on_step (with_layers layers)
        (e ∙ (λ j. stepped_to s.room (one.frame_answer fit j) (one.frame_pixels fit j)))
        (sym (ap (λ (t : Stepped VdpState). t.outcome) (one.frame_answer fit)) ∙ ok)

pub steps :
    (a : RenderArea) (w : Way) (m x b : List ℕ) (d : VdpState) → Stands b d → refusal_in (called (on_frame_lem a w m x) b).word ≡ 0 → Steps face Stands a
    w m x b d
steps a plain m x b d s z = plain_steps a m x b d s z
steps a (with_layers layers) m x b d s z = layer_steps a m x b d s layers z

abbrev pub face_lawful : LawfulFace face
face_lawful =
    record {
      Stands = Stands;
      made_stands = made_stands;
      in_block = in_block;
      calls = calls;
      quietly = quietly;
      steps = steps;
      takes = takes;
      begun = begun;
      no_seven = λ c b d k s. answers s k c;
    }

-- ---- what the demands say of it: all that they say of every run on records
pub through : (a : RenderArea) → Through face a
through a = through_face handheld_lawful face_lawful a

pub demand3_face : (f : FaceRun face VisibleOnly) → Goes f → Demand3 (watched_by f)
demand3_face = through VisibleOnly Demand3 demand3_visible

pub demand3_edges_face : (f : FaceRun face TrueEdges) → Goes f → Demand3 (watched_by f)
demand3_edges_face = through TrueEdges Demand3 demand3_edges

-- the author's question, and which rows a write reaches, in any pass
pub colour_split-face : (f : FaceRun face VisibleOnly) → Goes f → (L : ℕ) (old new : List ℕ) (s : Split (watched_by f) L old new) → ColourSplit s
colour_split-face =
    through VisibleOnly (λ w. (L : ℕ) (old new : List ℕ) (s : Split w L old new) → ColourSplit s) (λ r L old new s. colour_split-visible r s)

pub in_order_face : (a : RenderArea) (f : FaceRun face a) → Goes f → InOrder (watched_by f)
in_order_face a = through a InOrder (in_order handheld_lawful)

-- the effective area: rows 213 to 217 or to 218 twice, every other once
pub effective_rows_face : (f : FaceRun face EffectiveArea) → Goes f → EffectiveRows (watched_by f)
effective_rows_face = through EffectiveArea EffectiveRows effective_rows
