-- The home machine's step from its points.
-- Assumes nothing.
use mathlib.Core.Path.{◌≡◌, ap, ◌∙◌}
use mathlib.Core.List.{List}
use Prim.Native.Nat.{ℕ}
use Rattle.picture.specs.declared.Screen.TheVariants.{Home}
use Rattle.refusal.specs.Refusals.{Line}
use Rattle.refusal.proofs.Tables.{under_map}
use Rattle.points.specs.declared.Points.{Points}
use Rattle.points.specs.Points.{refused_points, points_of, points_with}
use Rattle.points.specs.Bytes.{RowPointsLeave, FramePointsLeave}
use Rattle.home.specs.declared.HomeState.{HomeState}
use Rattle.points.specs.declared.Stepped.{Stepped}
use Rattle.home.specs.Step.{reading_of, joined, stepped, step_with, row_after, frame_after, RowStepLeaves, FrameStepLeaves}

-- ---- the step is `joined` of its points, refused or not
pub joined_with : (ls : List Line) (vram : List ℕ) (h : HomeState) → joined h (points_with ls Home vram (reading_of h)) ≡ step_with ls vram h
unfolding points_with step_with stepped
joined_with ls vram h = under_map (joined h) ls (λ r. refused_points r h.front.status h.raster) (points_of Home vram (reading_of h))

module _ (vram : List ℕ) (h : HomeState) {s : Stepped HomeState} {p : Points} (es : s ≡ joined h p) where
  answered : (ls : List Line) → p ≡ points_with ls Home vram (reading_of h) → s ≡ step_with ls vram h
  answered ls e = es ∙ ap (λ (x : Points). joined h x) e ∙ joined_with ls vram h

  module _ (b : List ℕ) {b' : List ℕ} where
    pub row_joined : RowPointsLeave Home vram (reading_of h) b p b' → RowStepLeaves vram h b s b'
    unfolding row_after
    row_joined e = record { answer = answered _ e.answer; bytes = e.bytes }

    pub frame-joined : FramePointsLeave Home vram (reading_of h) b p b' → FrameStepLeaves vram h b s b'
    unfolding frame_after
    frame-joined e = record { answer = answered _ e.answer; bytes = e.bytes }
