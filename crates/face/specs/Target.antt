-- R7.1, R7.2, R15.3: where a step's row goes, on either machine, in a frame or in a row buffer: the lines that it can meet there, and what it leaves.
-- Assumes nothing.
use Rattle.std.specs.Prelude.{Bool, cond, List, ℕ, Option}
use Rattle.picture.specs.declared.Screen.{Screen}
use Rattle.picture.specs.Picture.{Row}
use Rattle.picture.specs.Screen.{columns, row_size, frame_size}
use Rattle.refusal.specs.Refusals.{Line}
use Rattle.points.specs.Points.{Reading, coming_row, coming_picture, row_lines, frame_lines}
use Rattle.points.specs.Bytes.{row_with, frame_with, also_layers}
use Rattle.face.specs.declared.target.Target.{Target}
use Rattle.face.specs.declared.target.Target.TheVariants as to

-- the lines of a step on pixels of so many bytes
abbrev pub plain_lines : Target → List ℕ → ℕ → Screen → List Line
plain_lines to.Frame m size s = frame_lines s m size
plain_lines to.Row m size s = row_lines s m size

-- and with a layer buffer of n bytes, where layers are told
abbrev pub target_lines : Target → Bool → List ℕ → ℕ → ℕ → Screen → List Line
target_lines t told m size n s = cond told (also_layers (columns s) n (plain_lines t m size s)) (plain_lines t m size s)

-- the bytes that it needs
abbrev pub need : Target → Screen → ℕ
need to.Frame s = frame_size s
need to.Row s = row_size s

-- the pixels with a row, if one is drawn, and with the one that an accepted step draws
abbrev pub drawn : Target → Option ℕ → Screen → List ℕ → (ℕ → Row) → List ℕ → List ℕ
drawn to.Frame r s colours picture x = frame_with r s colours picture x
drawn to.Row r s colours picture x = row_with r s colours picture x

abbrev pub target_filled : Target → Screen → List ℕ → Reading → List ℕ → List ℕ
target_filled t s m k x = drawn t (coming_row s k) s k.colours (coming_picture s m k) x
