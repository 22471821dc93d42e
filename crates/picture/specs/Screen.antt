-- The screens that rows are drawn for: their sizes, and the row of each that a line draws.
-- Assumes nothing.
use Rattle.std.specs.Prelude.{Bool, false, cond, List, ℕ, ◌+◌, ◌*◌, ◌/◌, ◌%◌}
use Rattle.laws.specs.Lists.{at}
use Rattle.laws.specs.Paint.{byte_of_colour}
use Rattle.laws.specs.Table.{table}
use Rattle.picture.specs.View.{View, visible, effective, true_edges, home}
use Rattle.picture.specs.Picture.{Row, picture, fills, filled}
use Rattle.picture.specs.declared.Screen.{Screen}
use Rattle.picture.specs.declared.Screen.TheVariants.{VisibleOnly, EffectiveArea, TrueEdges, Home}

-- R2.6, R20.1: how wide and how high; R4.2: the line of row 0
abbrev pub columns : Screen → ℕ
columns VisibleOnly = 160
columns EffectiveArea = 256
columns TrueEdges = 160
columns Home = 256

abbrev pub rows : Screen → ℕ
rows VisibleOnly = 144
rows EffectiveArea = 224
rows TrueEdges = 144
rows Home = 192

abbrev pub first_line : Screen → ℕ
first_line VisibleOnly = 24
first_line EffectiveArea = 0
first_line TrueEdges = 24
first_line Home = 0

-- R2.6, R20.1: the bytes of a row and of a frame
abbrev pub row_size : Screen → ℕ
row_size VisibleOnly = 640
row_size EffectiveArea = 1024
row_size TrueEdges = 640
row_size Home = 1024

abbrev pub frame_size : Screen → ℕ
frame_size VisibleOnly = 92160
frame_size EffectiveArea = 229376
frame_size TrueEdges = 92160
frame_size Home = 196608

-- the view that row y of a screen has, by the registers g and the latched scroll
abbrev pub view_of : Screen → (ℕ → ℕ) → ℕ → ℕ → View
view_of VisibleOnly g scroll y = visible g scroll y
view_of EffectiveArea g scroll y = effective g y
view_of TrueEdges g scroll y = true_edges g scroll y
view_of Home g scroll y = home g scroll y

-- what is shown of a finished row: at home the fill lies over it (R20.6)
abbrev pub shown_on : Screen → (ℕ → ℕ) → Row → Row
shown_on VisibleOnly g p = p
shown_on EffectiveArea g p = p
shown_on TrueEdges g p = p
shown_on Home g p = filled g p

-- whether a fill covers column x of it
abbrev pub covered : Screen → (ℕ → ℕ) → ℕ → Bool
covered VisibleOnly g x = false
covered EffectiveArea g x = false
covered TrueEdges g x = false
covered Home g x = fills g x

-- the picture of row y, by the registers, the latched scroll and video memory
unfoldable pub picture_of : Screen → List ℕ → ℕ → List ℕ → ℕ → Row
picture_of s reg scroll vram y = shown_on s (at reg) (picture (at vram) (at reg) (view_of s (at reg) scroll y))

-- R4.6, R6.2: the bytes of a picture: the four bytes of its colour at each column, and no column past the last
unfoldable pub row_bytes : List ℕ → ℕ → Row → List ℕ
row_bytes colours width p = table (width * 4) (λ k. byte_of_colour (at colours (p.colour (k / 4))) (k % 4))

-- status bits 5 and 6, as the row sets them
abbrev pub status_bits : Row → ℕ
status_bits p = cond p.hit 32 0 + cond p.ninth 64 0
