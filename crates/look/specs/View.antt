-- R7.3: the view of a frame's row.
-- Assumes nothing.
use Rattle.std.specs.Prelude.{cond, List, [], ℕ, ltb, length}
use Rattle.laws.specs.Lists.{row_of}
use Rattle.picture.specs.declared.Screen.{Screen}
use Rattle.picture.specs.declared.RenderArea.{RenderArea}
use Rattle.picture.specs.Screen.{rows, row_size, frame_size}
use Rattle.picture.specs.Area.{screen_of}
use Rattle.refusal.specs.Refusals.{under}
use Rattle.points.specs.Points.{exactly}

-- R7.3: a row that the screen has, of a frame of its size; else nothing
unfoldable pub screen_row : List ℕ → Screen → ℕ → List ℕ
screen_row frame s y = cond (ltb y (rows s)) (under (exactly (frame_size s) (length frame)) (λ r. []) (row_of (row_size s) y frame)) []

-- the row of an area
abbrev pub row_view : List ℕ → RenderArea → ℕ → List ℕ
row_view frame a y = screen_row frame (screen_of a) y
