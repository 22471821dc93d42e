-- R4.1 to R4.5, a step of the device: what it answers, and the device that it leaves, by its points.
-- Assumes nothing.
use Rattle.std.specs.Prelude.{cond, List, ℕ, None, Option, Some}
use Rattle.laws.specs.Lists.{at}
use Rattle.colour.specs.Colour.{colours_of}
use Rattle.picture.specs.declared.RenderArea.{RenderArea}
use Rattle.picture.specs.Picture.{Row}
use Rattle.picture.specs.Area.{screen_of, picture_of}
use Rattle.vdp.specs.declared.VdpState.{VdpState}
use Rattle.vdp.specs.Device.{with_raster, with_status, with_cache}
use Rattle.refusal.specs.Refusals.{Line, under, Outcome}
use Rattle.points.specs.declared.VdpInt.TheVariants.{NoInterrupt}
use Rattle.points.specs.declared.DisplayRefresh.TheVariants.{NoDisplay}
use Rattle.points.specs.declared.Points.{Points}
use Rattle.points.specs.declared.Stepped.{Stepped}
use Rattle.points.specs.Points.{Reading, reading, risen, points_of}
use Rattle.points.specs.Points as points

-- an area's, which are its screen's: the row of a line, and the lines of the table that a step can meet
abbrev pub row_on : RenderArea → ℕ → Option ℕ
row_on a = points.row_on (screen_of a)

abbrev pub row_lines : RenderArea → List ℕ → ℕ → List Line
row_lines a = points.row_lines (screen_of a)

abbrev pub frame_lines : RenderArea → List ℕ → ℕ → List Line
frame_lines a = points.frame_lines (screen_of a)

abbrev pub register : VdpState → ℕ → ℕ
register d = at d.reg

-- the line that the counter reads
abbrev pub line_of : VdpState → ℕ
line_of d = d.raster.v_counter

-- R4.2: the colours that a row is drawn with
abbrev pub colours_now : VdpState → List ℕ
colours_now d = cond d.cram_dirty (colours_of d.cram) d.color_cache

-- the picture of row y, for the device's registers and latched scroll and the video memory
abbrev pub row_picture : RenderArea → List ℕ → VdpState → ℕ → Row
row_picture a vram d y = picture_of a d.reg d.raster.vertical_scroll vram y

-- what the points read of it
abbrev pub reading_of : VdpState → Reading
reading_of d = reading d.reg d.raster d.status (colours_now d)

-- R4.1: the device with its counter up
abbrev pub counter_up : VdpState → VdpState
counter_up d = with_raster d (risen (reading_of d))

-- R4.2: with clean colours, if a row was drawn with them
abbrev pub cleaned : Option ℕ → VdpState → List ℕ → VdpState
cleaned None d colours = d
cleaned (Some y) d colours = with_cache d colours

-- its answer, and itself, by what the points answer and leave
abbrev pub joined : VdpState → Points → Stepped VdpState
joined d points =
    record {
      outcome = points.outcome;
      interrupt = points.interrupt;
      report = points.report;
      row = points.row;
      device = with_raster (with_status (cleaned points.row d (colours_now d)) points.status) points.raster;
    }

-- an accepted step
unfoldable pub stepped : RenderArea → List ℕ → VdpState → Stepped VdpState
stepped a vram d = joined d (points_of (screen_of a) vram (reading_of d))

-- R2.3: a refused step tells and changes nothing
abbrev pub refused_step : Outcome → VdpState → Stepped VdpState
refused_step r d = record { outcome = r; interrupt = NoInterrupt; report = NoDisplay; row = None; device = d }

-- R6.3, R6.7: a step that these lines refuse, whatever its line
unfoldable pub step_with : List Line → RenderArea → List ℕ → VdpState → Stepped VdpState
step_with lines a vram d = under lines (λ r. refused_step r d) (stepped a vram d)

-- R7.1, R7.2: the two steps
abbrev pub row_step_of : RenderArea → List ℕ → ℕ → VdpState → Stepped VdpState
row_step_of a vram size d = step_with (row_lines a vram size) a vram d

abbrev pub frame_step_of : RenderArea → List ℕ → ℕ → VdpState → Stepped VdpState
frame_step_of a vram size d = step_with (frame_lines a vram size) a vram d
