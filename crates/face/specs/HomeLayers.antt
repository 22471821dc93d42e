-- R15.3, R15.4, R21.1: the two steps with layers, on the home machine's block.
-- Assumes nothing.
use Rattle.std.specs.Prelude.{◌≡◌, cond, List, ℕ, length}
use Rattle.picture.specs.declared.Screen.TheVariants.{Home}
use Rattle.picture.specs.Screen.{columns}
use Rattle.refusal.specs.Refusals.{Line, under}
use Rattle.points.specs.Points.{row_lines, frame_lines}
use Rattle.points.specs.Bytes.{also_layers, row_filled, frame_filled, layers_under}
use Rattle.word.specs.Called.{Called, Leaves}
use Rattle.home.specs.declared.HomeState.{HomeState}
use Rattle.home.specs.Step.{reading_of, step_with}
use Rattle.home_block.specs.HomeBlock.{state_of, well_formed}
use Rattle.face.specs.Home.{on_block, stepped_to}

-- the lines that such a step can meet, where `lines` are those of the step without layers: 16 comes last
abbrev pub layer_lines : List Line → List ℕ → List Line
layer_lines lines layers = also_layers (columns Home) (length layers) lines

-- what it answers, and what it leaves of block and pixels; `filled` is what an accepted one leaves in the pixels
abbrev pub layer_on : List Line → (HomeState → List ℕ) → List ℕ → List ℕ → List ℕ → HomeState → Called
layer_on lines filled m pixels layers h =
    stepped_to (step_with (layer_lines lines layers) m h) (under (layer_lines lines layers) (λ r. pixels) (filled h))

unfoldable pub layer_call : List Line → (HomeState → List ℕ) → List ℕ → List ℕ → List ℕ → List ℕ → Called
layer_call lines filled b m pixels layers = on_block b pixels (layer_on lines filled m pixels layers)

-- and of the layer buffer
unfoldable pub layers_left : List Line → List ℕ → List ℕ → List ℕ → List ℕ
layers_left lines b m layers = cond (well_formed b) (layers_under (layer_lines lines layers) Home m (reading_of (state_of b)) layers) layers

-- What such a call promises: its answer r, and what the block, the pixels and the layer buffer hold after it.
pub record LayerLeaves (lines : List Line) (filled : HomeState → List ℕ) (b m pixels layers : List ℕ) (r : ℕ) (b' pixels' layers' : List ℕ)
    : Type 0 where
  pub call : Leaves (layer_call lines filled b m pixels layers) r b' pixels'
  pub owners : layers' ≡ layers_left lines b m layers

-- ---- the same of a row buffer and of a frame
abbrev pub LayerRowLeaves : List ℕ → List ℕ → List ℕ → List ℕ → ℕ → List ℕ → List ℕ → List ℕ → Type 0
LayerRowLeaves b m row layers r b' row' layers' =
    LayerLeaves (row_lines Home m (length row)) (λ h. row_filled Home m (reading_of h) row) b m row layers r b' row' layers'

abbrev pub LayerFrameLeaves : List ℕ → List ℕ → List ℕ → List ℕ → ℕ → List ℕ → List ℕ → List ℕ → Type 0
LayerFrameLeaves b m frame layers r b' frame' layers' =
    LayerLeaves (frame_lines Home m (length frame)) (λ h. frame_filled Home m (reading_of h) frame) b m frame layers r b' frame' layers'
