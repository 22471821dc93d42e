-- R15.3, R15.4 in the C face: the two steps with layers, over a state block.
-- Assumes nothing.
use Rattle.std.specs.Prelude.{◌≡◌, cond, List, ℕ, leb, length}
use Rattle.picture.specs.declared.RenderArea.{RenderArea}
use Rattle.picture.specs.Area.{screen_of, area_from, columns}
use Rattle.vdp.specs.declared.VdpState.{VdpState}
use Rattle.refusal.specs.Refusals.{Line, under}
use Rattle.block.specs.Block.{well_formed, state_of}
use Rattle.step.specs.Step.{row_lines, frame_lines, reading_of, step_with}
use Rattle.points.specs.Bytes.{row_filled, frame_filled, also_layers}
use Rattle.step.specs.Layers.{layers_after}
use Rattle.face.specs.Face.{Called, on_block, on_area, stepped_to, Leaves}

-- the lines that such a step can meet in an area, where `lines` are those of the step without layers: 16 comes last
abbrev pub layer_lines : (RenderArea → List Line) → List ℕ → RenderArea → List Line
layer_lines lines layers a = also_layers (columns a) (length layers) (lines a)

-- what it answers, and what it leaves of block and pixels; `filled` is what an accepted one leaves in the pixels
abbrev pub layer_on : (RenderArea → List Line) → (VdpState → RenderArea → List ℕ) → List ℕ → List ℕ → List ℕ → ℕ → VdpState → RenderArea → Called
layer_on lines filled m pixels layers k s a =
    stepped_to k (step_with (layer_lines lines layers a) a m s) (under (layer_lines lines layers a) (λ r. pixels) (filled s a))

unfoldable pub layer_call : (RenderArea → List Line) → (VdpState → RenderArea → List ℕ) → List ℕ → List ℕ → List ℕ → List ℕ → ℕ → Called
layer_call lines filled b m pixels layers n = on_block b pixels (λ s. on_area n b pixels (layer_on lines filled m pixels layers (length b) s))

-- and of the layer buffer
unfoldable pub layers_left : (RenderArea → List Line) → List ℕ → List ℕ → List ℕ → ℕ → List ℕ
layers_left lines b m layers n =
    cond (well_formed b) (cond (leb n 2) (layers_after (layer_lines lines layers (area_from n)) (area_from n) m (state_of b) layers) layers) layers

-- What such a call promises: its answer r, and what the block, the pixels and the layer buffer hold after it.
pub record LayerLeaves (lines : RenderArea → List Line) (filled : VdpState → RenderArea → List ℕ) (b m pixels layers : List ℕ) (n r : ℕ)
    (b' pixels' layers' : List ℕ) : Type 0 where
  pub call : Leaves (layer_call lines filled b m pixels layers n) r b' pixels'
  pub owners : layers' ≡ layers_left lines b m layers n

-- ---- the same of a row buffer and of a frame: their lines, and what an accepted step leaves in them
abbrev pub row_table : List ℕ → List ℕ → RenderArea → List Line
row_table m row a = row_lines a m (length row)

abbrev pub row_fills : List ℕ → List ℕ → VdpState → RenderArea → List ℕ
row_fills m row s a = row_filled (screen_of a) m (reading_of s) row

abbrev pub frame_table : List ℕ → List ℕ → RenderArea → List Line
frame_table m frame a = frame_lines a m (length frame)

abbrev pub frame_fills : List ℕ → List ℕ → VdpState → RenderArea → List ℕ
frame_fills m frame s a = frame_filled (screen_of a) m (reading_of s) frame

abbrev pub LayerRowLeaves : List ℕ → List ℕ → List ℕ → List ℕ → ℕ → ℕ → List ℕ → List ℕ → List ℕ → Type 0
LayerRowLeaves b m row layers n r b' row' layers' = LayerLeaves (row_table m row) (row_fills m row) b m row layers n r b' row' layers'

abbrev pub LayerFrameLeaves : List ℕ → List ℕ → List ℕ → List ℕ → ℕ → ℕ → List ℕ → List ℕ → List ℕ → Type 0
LayerFrameLeaves b m frame layers n r b' frame' layers' = LayerLeaves (frame_table m frame) (frame_fills m frame) b m frame layers n r b' frame' layers'
