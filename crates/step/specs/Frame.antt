-- R7.1, R7.2: what a step of the device leaves in a row buffer and in a frame.
-- Assumes nothing.
use Rattle.std.specs.Prelude.{◌≡◌, List, ℕ, length}
use Rattle.picture.specs.declared.RenderArea.{RenderArea}
use Rattle.picture.specs.Area.{screen_of, columns, row_bytes}
use Rattle.vdp.specs.declared.VdpState.{VdpState}
use Rattle.refusal.specs.Refusals.{under}
use Rattle.points.specs.declared.Stepped.{Stepped}
use Rattle.points.specs.Bytes.{row_filled, frame_filled}
use Rattle.step.specs.Step.{colours_now, row_picture, reading_of, row_lines, frame_lines, row_step_of, frame_step_of}

-- the bytes of row y, as a step draws it on the device d with its counter up
abbrev pub drawn_bytes : RenderArea → List ℕ → VdpState → ℕ → List ℕ
drawn_bytes a vram d y = row_bytes (colours_now d) (columns a) (row_picture a vram d y)

-- the buffer and the frame that a step leaves, refused or not
unfoldable pub row_after : RenderArea → List ℕ → VdpState → List ℕ → List ℕ
row_after a vram d buffer = under (row_lines a vram (length buffer)) (λ r. buffer) (row_filled (screen_of a) vram (reading_of d) buffer)

unfoldable pub frame_after : RenderArea → List ℕ → VdpState → List ℕ → List ℕ
frame_after a vram d frame = under (frame_lines a vram (length frame)) (λ r. frame) (frame_filled (screen_of a) vram (reading_of d) frame)

-- What the row step promises of its answer r and of the buffer after it, and the frame step of the frame.
pub record RowStepLeaves (a : RenderArea) (vram : List ℕ) (d : VdpState) (buffer : List ℕ) (r : Stepped VdpState) (buffer' : List ℕ) : Type 0 where
  pub answer : r ≡ row_step_of a vram (length buffer) d
  pub bytes : buffer' ≡ row_after a vram d buffer

pub record FrameStepLeaves (a : RenderArea) (vram : List ℕ) (d : VdpState) (frame : List ℕ) (r : Stepped VdpState) (frame' : List ℕ) : Type 0 where
  pub answer : r ≡ frame_step_of a vram (length frame) d
  pub bytes : frame' ≡ frame_after a vram d frame
