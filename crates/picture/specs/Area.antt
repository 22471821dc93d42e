-- The handheld's three areas: the number of each, and what its screen has.
-- Assumes nothing.
use Rattle.std.specs.Prelude.{◌≡◌, cond, List, ℕ, ◌<◌, ◌≤◌, eqb, Result, MatchResult}
use Rattle.picture.specs.View.{View}
use Rattle.picture.specs.Picture.{Row}
use Rattle.picture.specs.Screen as screen
use Rattle.picture.specs.Layers as layer
use Rattle.picture.specs.declared.Screen.{Screen}
use Rattle.picture.specs.declared.Screen.TheVariants as Shown
use Rattle.picture.specs.declared.RenderArea.{RenderArea}
use Rattle.picture.specs.declared.RenderArea.TheVariants.{VisibleOnly, EffectiveArea, TrueEdges}
use Rattle.picture.specs.declared.UnknownArea.{UnknownArea}
-- the bytes and the status bits of a picture are any screen's
unfoldable pub use Rattle.picture.specs.Screen.{row_bytes, status_bits}

-- R2.1: the area of a number
abbrev pub area_from : ℕ → RenderArea
area_from n = cond (eqb n 0) VisibleOnly (cond (eqb n 1) EffectiveArea TrueEdges)

-- the result is the area of this number, or an error where the number is above 2
abbrev pub Names : ℕ → Result RenderArea UnknownArea → Type 0
Names n r = MatchResult r (λ area. (n ≤ 2) × (area ≡ area_from n)) (λ _. 2 < n)

-- the number of an area
abbrev pub area_number : RenderArea → ℕ
area_number VisibleOnly = 0
area_number EffectiveArea = 1
area_number TrueEdges = 2

-- the screen of an area
abbrev pub screen_of : RenderArea → Screen
screen_of VisibleOnly = Shown.VisibleOnly
screen_of EffectiveArea = Shown.EffectiveArea
screen_of TrueEdges = Shown.TrueEdges

-- what its screen has
abbrev pub columns : RenderArea → ℕ
columns a = screen.columns (screen_of a)

abbrev pub rows : RenderArea → ℕ
rows a = screen.rows (screen_of a)

abbrev pub first_line : RenderArea → ℕ
first_line a = screen.first_line (screen_of a)

abbrev pub row_size : RenderArea → ℕ
row_size a = screen.row_size (screen_of a)

abbrev pub frame_size : RenderArea → ℕ
frame_size a = screen.frame_size (screen_of a)

abbrev pub view_of : RenderArea → (ℕ → ℕ) → ℕ → ℕ → View
view_of a = screen.view_of (screen_of a)

abbrev pub picture_of : RenderArea → List ℕ → ℕ → List ℕ → ℕ → Row
picture_of a = screen.picture_of (screen_of a)

abbrev pub layers_of : RenderArea → List ℕ → ℕ → List ℕ → ℕ → ℕ → ℕ
layers_of a = layer.layers_of (screen_of a)
