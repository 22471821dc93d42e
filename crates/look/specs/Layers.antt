-- R15.3, R15.4: a step on a frame that tells the layers of its row too: what its points promise, and the step of the handheld.
-- Assumes nothing.
use Rattle.std.specs.Prelude.{List, ℕ, length}
use Rattle.picture.specs.declared.Screen.{Screen}
use Rattle.picture.specs.declared.RenderArea.{RenderArea}
use Rattle.picture.specs.Area.{screen_of}
use Rattle.vdp.specs.declared.VdpState.{VdpState}
use Rattle.points.specs.declared.Points.{Points}
use Rattle.points.specs.Points.{Reading, frame_lines}
use Rattle.points.specs.Bytes.{frame_filled, LayerPointsLeave}
use Rattle.points.specs.declared.Stepped.{Stepped}
use Rattle.step.specs.Step.{reading_of}
use Rattle.step.specs.Layers.{LayersLeave}

abbrev pub FrameLayerPointsLeave : Screen → List ℕ → Reading → List ℕ → List ℕ → Points → List ℕ → List ℕ → Type 0
FrameLayerPointsLeave s vram k frame layers r frame' layers' =
    LayerPointsLeave (frame_lines s vram (length frame)) s vram k frame (frame_filled s vram k frame) layers r frame' layers'

abbrev pub FrameLayersLeave : ℕ → RenderArea → List ℕ → VdpState → List ℕ → List ℕ → Stepped VdpState → List ℕ → List ℕ → Type 0
FrameLayersLeave least a vram d frame layers r frame' layers' =
    LayersLeave least (frame_lines (screen_of a) vram (length frame)) a vram d frame
    (frame_filled (screen_of a) vram (reading_of d) frame) layers r frame' layers'
