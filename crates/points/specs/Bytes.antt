-- R7.1, R7.2, R15.3: what a step leaves in a row buffer, in a frame and in a layer buffer, over what its points read.
-- Assumes nothing.
use Rattle.std.specs.Prelude.{◌≡◌, List, [], ◌∷◌, ◌++◌, ℕ, ltb, length, drop, None, Option, Some, Err}
use Rattle.laws.specs.Lists.{with_row}
use Rattle.picture.specs.declared.Screen.{Screen}
use Rattle.picture.specs.Picture.{Row}
use Rattle.picture.specs.Screen.{columns, row_size, row_bytes}
use Rattle.picture.specs.Layers.{layers_of, layers_in}
use Rattle.refusal.specs.declared.Refusal.TheVariants.{LayerLength}
use Rattle.refusal.specs.Refusals.{Line, line, under}
use Rattle.points.specs.declared.Points.{Points}
use Rattle.points.specs.Points.{Reading, risen, coming_row, coming_picture, row_lines, frame_lines, points_with}

-- ---- of a row that is drawn, if one is, where `picture` gives the picture and `layer` the layers of each row
-- R7.1, R2.7: the row at the start of the buffer, and behind it what was there
unfoldable pub row_with : Option ℕ → Screen → List ℕ → (ℕ → Row) → List ℕ → List ℕ
row_with None s colours picture buffer = buffer
row_with (Some y) s colours picture buffer = row_bytes colours (columns s) (picture y) ++ drop (row_size s) buffer

-- R7.2: the same of a frame: row y is put in
unfoldable pub frame_with : Option ℕ → Screen → List ℕ → (ℕ → Row) → List ℕ → List ℕ
frame_with None s colours picture frame = frame
frame_with (Some y) s colours picture frame = with_row (row_size s) y (row_bytes colours (columns s) (picture y)) frame

-- R15.3: the layer buffer with the layers of the row
unfoldable pub layers_by : Option ℕ → Screen → (ℕ → ℕ → ℕ) → List ℕ → List ℕ
layers_by None s layer layers = layers
layers_by (Some y) s layer layers = layers_in layers (columns s) (layer y)

-- ---- of the row that an accepted step draws
abbrev pub row_filled : Screen → List ℕ → Reading → List ℕ → List ℕ
row_filled s vram k buffer = row_with (coming_row s k) s k.colours (coming_picture s vram k) buffer

abbrev pub frame_filled : Screen → List ℕ → Reading → List ℕ → List ℕ
frame_filled s vram k frame = frame_with (coming_row s k) s k.colours (coming_picture s vram k) frame

abbrev pub coming_layers : Screen → List ℕ → Reading → ℕ → ℕ → ℕ
coming_layers s vram k y = layers_of s k.reg (risen k).vertical_scroll vram y

abbrev pub layers_filled : Screen → List ℕ → Reading → List ℕ → List ℕ
layers_filled s vram k layers = layers_by (coming_row s k) s (coming_layers s vram k) layers

-- the layer buffer that a step under these lines leaves, refused or not
abbrev pub layers_under : List Line → Screen → List ℕ → Reading → List ℕ → List ℕ
layers_under lines s vram k layers = under lines (λ r. layers) (layers_filled s vram k layers)

-- What the points under these lines promise of their answer r and of their pixels; `filled` is what an accepted step leaves there.
pub record PointsLeave (lines : List Line) (s : Screen) (vram : List ℕ) (k : Reading) (pixels filled : List ℕ) (r : Points) (pixels' : List ℕ) : Type 0 where
  pub answer : r ≡ points_with lines s vram k
  pub bytes : pixels' ≡ under lines (λ q. pixels) filled

-- the same of a row buffer and of a frame
abbrev pub RowPointsLeave : Screen → List ℕ → Reading → List ℕ → Points → List ℕ → Type 0
RowPointsLeave s vram k row r row' = PointsLeave (row_lines s vram (length row)) s vram k row (row_filled s vram k row) r row'

abbrev pub FramePointsLeave : Screen → List ℕ → Reading → List ℕ → Points → List ℕ → Type 0
FramePointsLeave s vram k frame r frame' = PointsLeave (frame_lines s vram (length frame)) s vram k frame (frame_filled s vram k frame) r frame'

-- R15.4: the lines that a step with a layer buffer of `size` bytes can meet: those of the step without, and then 16, where there are fewer than `least`
abbrev pub also_layers : ℕ → ℕ → List Line → List Line
also_layers least size lines = lines ++ (line (ltb size least) (Err LayerLength) ∷ [])

-- what the points with layers promise; `lines` are those of the points without
pub record LayerPointsLeave (lines : List Line) (s : Screen) (vram : List ℕ) (k : Reading) (pixels filled layers : List ℕ) (r : Points)
    (pixels' layers' : List ℕ) : Type 0 where
  pub points : PointsLeave (also_layers (columns s) (length layers) lines) s vram k pixels filled r pixels'
  pub owners : layers' ≡ layers_under (also_layers (columns s) (length layers) lines) s vram k layers

abbrev pub RowLayerPointsLeave : Screen → List ℕ → Reading → List ℕ → List ℕ → Points → List ℕ → List ℕ → Type 0
RowLayerPointsLeave s vram k row layers r row' layers' =
    LayerPointsLeave (row_lines s vram (length row)) s vram k row (row_filled s vram k row) layers r row' layers'
