-- R20.1, R20.8: a step of the home machine: what it answers, the device that it leaves, and what it leaves in a row buffer and in a frame.
-- It is the five points of R4.1 to R4.5, for the home screen.
-- Assumes nothing.
use Rattle.std.specs.Prelude.{◌≡◌, cond, List, ℕ, length, None, Option, Some}
use Rattle.laws.specs.Lists.{at}
use Rattle.colour.specs.Home.{home_colours_of}
use Rattle.picture.specs.declared.Screen.TheVariants.{Home}
use Rattle.picture.specs.Picture.{Row}
use Rattle.picture.specs.Screen.{columns, picture_of, row_bytes}
use Rattle.refusal.specs.Refusals.{Line, under, Outcome}
use Rattle.points.specs.declared.VdpInt.TheVariants.{NoInterrupt}
use Rattle.points.specs.declared.DisplayRefresh.TheVariants.{NoDisplay}
use Rattle.points.specs.declared.Points.{Points}
use Rattle.points.specs.Points.{Reading, reading, risen, row_lines, frame_lines, points_of}
use Rattle.points.specs.Bytes.{row_filled, frame_filled}
use Rattle.home.specs.declared.HomeState.{HomeState}
use Rattle.points.specs.declared.Stepped.{Stepped}
use Rattle.home.specs.Home.{with_status, with_raster, with_cache}

abbrev pub register : HomeState → ℕ → ℕ
register h = at h.front.reg

-- the line that the counter reads
abbrev pub line_of : HomeState → ℕ
line_of h = h.raster.v_counter

-- R4.2: the colours that a row is drawn with
abbrev pub colours_now : HomeState → List ℕ
colours_now h = cond h.cram_dirty (home_colours_of h.cram) h.color_cache

-- the picture of row y, for the device's registers and latched scroll and the video memory
abbrev pub row_picture : List ℕ → HomeState → ℕ → Row
row_picture vram h y = picture_of Home h.front.reg h.raster.vertical_scroll vram y

-- what the points read of it
abbrev pub reading_of : HomeState → Reading
reading_of h = reading h.front.reg h.raster h.front.status (colours_now h)

-- R4.1: the device with its counter up
abbrev pub counter_up : HomeState → HomeState
counter_up h = with_raster h (risen (reading_of h))

-- R4.2: with clean colours, if a row was drawn with them
abbrev pub cleaned : Option ℕ → HomeState → List ℕ → HomeState
cleaned None h colours = h
cleaned (Some y) h colours = with_cache h colours

-- its answer, and itself, by what the points answer and leave
abbrev pub joined : HomeState → Points → Stepped HomeState
joined h points =
    record {
      outcome = points.outcome;
      interrupt = points.interrupt;
      report = points.report;
      row = points.row;
      device = with_raster (with_status (cleaned points.row h (colours_now h)) points.status) points.raster;
    }

-- an accepted step
unfoldable pub stepped : List ℕ → HomeState → Stepped HomeState
stepped vram h = joined h (points_of Home vram (reading_of h))

-- R2.3: a refused step tells and changes nothing
abbrev pub refused_step : Outcome → HomeState → Stepped HomeState
refused_step r h = record { outcome = r; interrupt = NoInterrupt; report = NoDisplay; row = None; device = h }

-- R6.3, R6.7: a step that these lines refuse, whatever its line
unfoldable pub step_with : List Line → List ℕ → HomeState → Stepped HomeState
step_with lines vram h = under lines (λ r. refused_step r h) (stepped vram h)

-- R7.1, R7.2: the two steps
abbrev pub row_step_of : List ℕ → ℕ → HomeState → Stepped HomeState
row_step_of vram size h = step_with (row_lines Home vram size) vram h

abbrev pub frame_step_of : List ℕ → ℕ → HomeState → Stepped HomeState
frame_step_of vram size h = step_with (frame_lines Home vram size) vram h

-- the bytes of row y, as a step draws it on the device h with its counter up
abbrev pub drawn_bytes : List ℕ → HomeState → ℕ → List ℕ
drawn_bytes vram h y = row_bytes (colours_now h) (columns Home) (row_picture vram h y)

-- the buffer and the frame that a step leaves, refused or not
unfoldable pub row_after : List ℕ → HomeState → List ℕ → List ℕ
row_after vram h buffer = under (row_lines Home vram (length buffer)) (λ r. buffer) (row_filled Home vram (reading_of h) buffer)

unfoldable pub frame_after : List ℕ → HomeState → List ℕ → List ℕ
frame_after vram h frame = under (frame_lines Home vram (length frame)) (λ r. frame) (frame_filled Home vram (reading_of h) frame)

-- What the row step promises of its answer r and of the buffer after it, and the frame step of the frame.
pub record RowStepLeaves (vram : List ℕ) (h : HomeState) (buffer : List ℕ) (r : Stepped HomeState) (buffer' : List ℕ) : Type 0 where
  pub answer : r ≡ row_step_of vram (length buffer) h
  pub bytes : buffer' ≡ row_after vram h buffer

pub record FrameStepLeaves (vram : List ℕ) (h : HomeState) (frame : List ℕ) (r : Stepped HomeState) (frame' : List ℕ) : Type 0 where
  pub answer : r ≡ frame_step_of vram (length frame) h
  pub bytes : frame' ≡ frame_after vram h frame
