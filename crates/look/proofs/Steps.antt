-- The handheld's step with layers from its five points, on a frame.
-- Assumes nothing.
use mathlib.Core.Path.{◌≡◌}
use mathlib.Core.List.{List}
use Prim.Native.Nat.{ℕ}
use Rattle.picture.specs.declared.RenderArea.{RenderArea}
use Rattle.picture.specs.Screen.{columns}
use Rattle.picture.specs.Area.{screen_of}
use Rattle.vdp.specs.declared.VdpState.{VdpState}
use Rattle.points.specs.declared.Points.{Points}
use Rattle.points.specs.declared.Stepped.{Stepped}
use Rattle.step.specs.Step.{reading_of, joined}
use Rattle.step.specs.Layers.{layers_after}
use Rattle.step.proofs.Steps.{answered}
use Rattle.look.specs.Layers.{FrameLayerPointsLeave, FrameLayersLeave}

pub frame-layers_joined :
    (a : RenderArea) (vram : List ℕ) (d : VdpState) {s : Stepped VdpState} {p : Points} → s ≡ joined d p →
    (b : List ℕ) {b' : List ℕ} (layers : List ℕ) {layers' : List ℕ} → FrameLayerPointsLeave (screen_of a) vram (reading_of d) b layers p b' layers'
    → FrameLayersLeave (columns (screen_of a)) a vram d b layers s b' layers'
unfolding layers_after
frame-layers_joined a vram d es b layers e =
    record { answer = answered a vram d es _ e.points.answer; bytes = e.points.bytes; owners = e.owners }
