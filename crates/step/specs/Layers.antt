-- R15.3, R15.4: a step that tells the layers of its row too: it has one buffer more.
-- Assumes nothing.
use Rattle.std.specs.Prelude.{◌≡◌, List, ℕ, length}
use Rattle.picture.specs.declared.RenderArea.{RenderArea}
use Rattle.picture.specs.Area.{screen_of, layers_of}
use Rattle.vdp.specs.declared.VdpState.{VdpState}
use Rattle.refusal.specs.Refusals.{Line, under}
use Rattle.points.specs.declared.Stepped.{Stepped}
use Rattle.points.specs.Bytes.{also_layers, row_filled, layers_under}
use Rattle.step.specs.Step.{reading_of, row_lines, step_with}

-- the layers of row y, for the device's registers and latched scroll and the video memory
abbrev pub row_layers : RenderArea → List ℕ → VdpState → ℕ → ℕ → ℕ
row_layers a vram d y = layers_of a d.reg d.raster.vertical_scroll vram y

-- the layer buffer that a step under these lines leaves, refused or not
unfoldable pub layers_after : List Line → RenderArea → List ℕ → VdpState → List ℕ → List ℕ
layers_after lines a vram d layers = layers_under lines (screen_of a) vram (reading_of d) layers

-- What a step that asks for `least` layers promises of its answer r, of its pixels and of the layer buffer: `lines` are those of the step without layers,
-- and `filled` is what an accepted one leaves in the pixels.
pub record LayersLeave (least : ℕ) (lines : List Line) (a : RenderArea) (vram : List ℕ) (d : VdpState) (pixels filled layers : List ℕ) (r : Stepped VdpState)
    (pixels' layers' : List ℕ) : Type 0 where
  pub answer : r ≡ step_with (also_layers least (length layers) lines) a vram d
  pub bytes : pixels' ≡ under (also_layers least (length layers) lines) (λ q. pixels) filled
  pub owners : layers' ≡ layers_after (also_layers least (length layers) lines) a vram d layers

-- the same of a row buffer
abbrev pub RowLayersLeave : ℕ → RenderArea → List ℕ → VdpState → List ℕ → List ℕ → Stepped VdpState → List ℕ → List ℕ → Type 0
RowLayersLeave least a vram d row layers r row' layers' =
    LayersLeave least (row_lines a vram (length row)) a vram d row (row_filled (screen_of a) vram (reading_of d) row) layers r row' layers'
