-- R4.1 to R4.5, the five points of a step, over what they read and what they leave. No device is named: each machine makes its own step from them.
-- Assumes nothing.
use Rattle.std.specs.Prelude.{◌≡◌, Bool, cond, not, ◌&&◌, ◌||◌, List, [], ◌∷◌, ℕ, ◌+◌, ◌-◌, ◌<◌, eqb, ltb, leb, None, Option, Some, Err, Ok}
use Rattle.std.specs.Int.Bits.{bit_or}
use Rattle.laws.specs.Bits.{bit}
use Rattle.laws.specs.Lists.{at}
use Rattle.picture.specs.declared.Screen.{Screen}
use Rattle.picture.specs.Picture.{Row}
use Rattle.picture.specs.Screen.{first_line, rows, row_size, frame_size, picture_of, status_bits}
use Rattle.raster.specs.declared.Raster.{Raster}
use Rattle.raster.specs.Raster.{advanced, line_interrupt, counted}
use Rattle.refusal.specs.declared.Refusal.TheVariants.{VramLength, PixelLength, FrameTooLong}
use Rattle.refusal.specs.Refusals.{whole, Line, line, under, Outcome}
use Rattle.points.specs.declared.VdpInt.{VdpInt}
use Rattle.points.specs.declared.VdpInt.TheVariants.{NoInterrupt, InterruptGenerated}
use Rattle.points.specs.declared.DisplayRefresh.{DisplayRefresh}
use Rattle.points.specs.declared.DisplayRefresh.TheVariants.{NoDisplay, ScreenDone, ScreenDoneNoRefresh}
use Rattle.points.specs.declared.Points.{Points}

-- R11.11: the numbers of the answers, as R7.7 has them
abbrev pub interrupt_number : VdpInt → ℕ
interrupt_number NoInterrupt = 0
interrupt_number InterruptGenerated = 1

abbrev pub report_number : DisplayRefresh → ℕ
report_number NoDisplay = 0
report_number ScreenDone = 1
report_number ScreenDoneNoRefresh = 2

-- what the points read of a device: registers, raster, status, and the colours that a row is drawn with
pub record Reading : Type 0 where
  pub reg : List ℕ
  pub raster : Raster
  pub status : ℕ
  pub colours : List ℕ

abbrev pub reading : List ℕ → Raster → ℕ → List ℕ → Reading
reading reg raster status colours = record { reg = reg; raster = raster; status = status; colours = colours }

-- R4.1: the raster with its counter up, and what line 0 and the jump do
abbrev pub risen : Reading → Raster
risen k = advanced (at k.reg) k.raster

-- R4.2: the row of a line, if it has one
unfoldable pub row_on : Screen → ℕ → Option ℕ
row_on s l = cond (leb (first_line s) l && ltb l (first_line s + rows s)) (Some (l - first_line s)) None

-- the row, if there is one, is one of the screen's
abbrev pub RowIn : Screen → Option ℕ → Type 0
RowIn s r = (y : ℕ) → r ≡ Some y → y < rows s

-- the row that this step draws, and what row y looks like now, for the registers, the latched scroll and the video memory
abbrev pub coming_row : Screen → Reading → Option ℕ
coming_row s k = row_on s (risen k).v_counter

abbrev pub coming_picture : Screen → List ℕ → Reading → ℕ → Row
coming_picture s vram k y = picture_of s k.reg (risen k).vertical_scroll vram y

-- R4.2: the status bits that the row sets, where `picture` gives the picture of each row
unfoldable pub bits_of : Option ℕ → (ℕ → Row) → ℕ
bits_of None picture = 0
bits_of (Some y) picture = status_bits (picture y)

-- R4.3: the end of the screen at line l, its status bit and its report
abbrev pub at_end : ℕ → Bool
at_end l = eqb l 0xC1

unfoldable pub ended_by : ℕ → ℕ → ℕ
ended_by l status = cond (at_end l) (bit_or status 0x80) status

unfoldable pub report_by : List ℕ → ℕ → DisplayRefresh
report_by reg l = cond (at_end l) (cond (bit (at reg 1) 6) ScreenDone ScreenDoneNoRefresh) NoDisplay

-- R4.4: an interrupt of the frame or of the line
unfoldable pub interrupt_by : List ℕ → ℕ → Raster → VdpInt
interrupt_by reg status raster =
    cond ((bit (at reg 1) 5 && bit status 7) || line_interrupt (at reg) raster) InterruptGenerated NoInterrupt

-- an accepted step: R4.1 to R4.5 in order
unfoldable pub points_of : Screen → List ℕ → Reading → Points
points_of s vram k =
    let up = risen k in
    let row = coming_row s k in
    let last = ended_by up.v_counter (bit_or k.status (bits_of row (coming_picture s vram k))) in
    record {
      outcome = (Ok tt);
      interrupt = interrupt_by k.reg last up;
      report = report_by k.reg up.v_counter;
      row = row;
      status = last;
      raster = counted (at k.reg) up;
    }

-- R2.3: a refused step tells and changes nothing
abbrev pub refused_points : Outcome → ℕ → Raster → Points
refused_points r status raster =
    record { outcome = r; interrupt = NoInterrupt; report = NoDisplay; row = None; status = status; raster = raster }

-- R2.6: a row buffer of `size` bytes has at least `need`, a frame exactly so many
abbrev pub at_least : ℕ → ℕ → List Line
at_least need size = line (ltb size need) (Err PixelLength) ∷ []

abbrev pub exactly : ℕ → ℕ → List Line
exactly need size = line (ltb size need) (Err PixelLength) ∷ line (ltb need size) (Err FrameTooLong) ∷ []

-- R2.4: the lines of the table that a step can meet: 8, and those of its buffer's size
abbrev pub step_lines : List ℕ → List Line → List Line
step_lines vram sizes = line (not (whole vram)) (Err VramLength) ∷ sizes

abbrev pub row_lines : Screen → List ℕ → ℕ → List Line
row_lines s vram size = step_lines vram (at_least (row_size s) size)

abbrev pub frame_lines : Screen → List ℕ → ℕ → List Line
frame_lines s vram size = step_lines vram (exactly (frame_size s) size)

-- R6.3, R6.7: the points of a step that these lines refuse, whatever its line
unfoldable pub points_with : List Line → Screen → List ℕ → Reading → Points
points_with lines s vram k = under lines (λ r. refused_points r k.status k.raster) (points_of s vram k)
