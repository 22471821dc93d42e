-- The device's step from its five points, on a row buffer and on a frame.
-- Assumes nothing.
use mathlib.Core.Path.{◌≡◌, ap, ◌∙◌}
use mathlib.Core.List.{List}
use Prim.Native.Nat.{ℕ, ◌≤◌}
use lib.ListN.{length}
use Rattle.picture.specs.declared.RenderArea.{RenderArea}
use Rattle.picture.specs.Screen.{columns}
use Rattle.picture.specs.Area.{screen_of}
use Rattle.vdp.specs.declared.VdpState.{VdpState}
use Rattle.refusal.specs.Refusals.{Line, under}
use Rattle.refusal.proofs.Tables.{under_map}
use Rattle.points.specs.declared.Points.{Points}
use Rattle.points.specs.declared.Stepped.{Stepped}
use Rattle.points.specs.Points.{row_lines, refused_points, points_of, points_with}
use Rattle.points.specs.Bytes.{row_filled, RowPointsLeave, FramePointsLeave, also_layers, RowLayerPointsLeave}
use Rattle.step.specs.Step.{reading_of, joined, stepped, refused_step, step_with, row_step_of}
use Rattle.step.specs.Layers.{layers_after, RowLayersLeave}
use Rattle.step.specs.Frame.{row_after, frame_after, RowStepLeaves, FrameStepLeaves}
use Rattle.points.proofs.Order.{under_also}

-- ---- the device's step is `joined` of its points, refused or not
pub joined_with : (ls : List Line) (a : RenderArea) (vram : List ℕ) (d : VdpState) → joined d (points_with ls (screen_of a) vram (reading_of d)) ≡
    step_with ls a vram d
unfolding points_with step_with stepped
joined_with ls a vram d =
    under_map (joined d) ls (λ r. refused_points r d.status d.raster) (points_of (screen_of a) vram (reading_of d))

module _ (a : RenderArea) (vram : List ℕ) (d : VdpState) {s : Stepped VdpState} {p : Points} (es : s ≡ joined d p) where
  pub answered : (ls : List Line) → p ≡ points_with ls (screen_of a) vram (reading_of d) → s ≡ step_with ls a vram d
  answered ls e = es ∙ ap (λ (x : Points). joined d x) e ∙ joined_with ls a vram d

  module _ (b : List ℕ) {b' : List ℕ} where
    pub row_joined : RowPointsLeave (screen_of a) vram (reading_of d) b p b' → RowStepLeaves a vram d b s b'
    unfolding row_after
    row_joined e = record { answer = answered _ e.answer; bytes = e.bytes }

    pub frame-joined : FramePointsLeave (screen_of a) vram (reading_of d) b p b' → FrameStepLeaves a vram d b s b'
    unfolding frame_after
    frame-joined e = record { answer = answered _ e.answer; bytes = e.bytes }

    module _ (layers : List ℕ) {layers' : List ℕ} where
      pub row_layers_joined :
          RowLayerPointsLeave (screen_of a) vram (reading_of d) b layers p b' layers' → RowLayersLeave (columns (screen_of a)) a vram d b layers
          s b' layers'
      unfolding layers_after
      row_layers_joined e = record { answer = answered _ e.points.answer; bytes = e.points.bytes; owners = e.owners }

-- with room for its layers, a row step answers and leaves in its pixels what it does without
pub aside :
    (a : RenderArea) (vram : List ℕ) (d : VdpState) (b layers : List ℕ) → columns (screen_of a) ≤ length layers
    → (step_with (also_layers (columns (screen_of a)) (length layers) (row_lines (screen_of a) vram (length b))) a vram d ≡ row_step_of a vram (length b) d)
    × (under (also_layers (columns (screen_of a)) (length layers) (row_lines (screen_of a) vram (length b))) (λ q. b)
    (row_filled (screen_of a) vram (reading_of d) b) ≡ row_after a vram d b)
unfolding step_with row_after
aside a vram d b layers h =
    let ls = row_lines (screen_of a) vram (length b) in (
      under_also (columns (screen_of a)) (length layers) ls (λ r. refused_step r d) (stepped a vram d) h,
      under_also (columns (screen_of a))
          (length layers) ls (λ r. b) _ h,
    )
