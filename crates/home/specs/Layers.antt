-- R15.3, R15.4, R20.8: the layers of a home row, and what a step leaves in a layer buffer.
-- Assumes nothing.
use Rattle.std.specs.Prelude.{List, ℕ}
use Rattle.picture.specs.declared.Screen.TheVariants.{Home}
use Rattle.picture.specs.Layers.{layers_of}
use Rattle.refusal.specs.Refusals.{Line}
use Rattle.points.specs.Bytes.{layers_under}
use Rattle.home.specs.declared.HomeState.{HomeState}
use Rattle.home.specs.Step.{reading_of}

-- the layers of row y, for the device's registers and latched scroll and the video memory
abbrev pub row_layers : List ℕ → HomeState → ℕ → ℕ → ℕ
row_layers vram h y = layers_of Home h.front.reg h.raster.vertical_scroll vram y

-- the layer buffer that a step under these lines leaves, refused or not
unfoldable pub layers_after : List Line → List ℕ → HomeState → List ℕ → List ℕ
layers_after lines vram h layers = layers_under lines Home vram (reading_of h) layers
