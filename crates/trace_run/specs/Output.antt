-- R7.8, R7.11, R7.13, R15.5, R20.9: the bytes that `trace` prints, and the pictures that `snapshot` and `layers` write.
-- Assumes nothing.
use Rattle.std.specs.Prelude.{◌≡◌, Bool, cond, ◌&&◌, List, [], ◌++◌, ℕ, ltb, leb, eqb, length}
use Rattle.laws.specs.Lists.{written}
use Rattle.picture.specs.declared.RenderArea.{RenderArea}
use Rattle.picture.specs.declared.Screen.{Screen}
use Rattle.picture.specs.declared.Screen.TheVariants as On
use Rattle.picture.specs.Screen.{frame_size}
use Rattle.trace_record.specs.declared.Machine.{Machine}
use Rattle.trace_record.specs.declared.Machine.TheVariants.{Handheld, Home}
use Rattle.trace_run.specs.declared.Device.{Device}
use Rattle.trace_text.specs.Text.{long_line}
use Rattle.trace_text.specs.End.{last_line, drawn, picture_room}
use Rattle.trace_run.specs.Run.{World, Turn, row_turn, lines, ran, start}

-- R7.8: the longest recording that is run
abbrev pub longest : ℕ
longest = 65535

abbrev pub too_long : List ℕ → Bool
too_long s = ltb longest (length s)

unfoldable pub text : List ℕ → World → List ℕ
text s w =
    let run = (ran row_turn s w).run in
    lines row_turn (length s) s w ++ last_line s run.at run.count

-- WHAT `trace` PRINTS of the recording s, from the world w on
unfoldable pub printed : List ℕ → World → List ℕ
printed s w = cond (too_long s) long_line (text s w)

-- R7.13, R20.9: the screen whose frame a machine's picture is made of
abbrev pub screen_for : Machine → Screen
screen_for Handheld = On.VisibleOnly
screen_for Home = On.Home

-- WHAT `snapshot` AND `layers` WRITE of the recording s, from the world w on, with steps made as `step` makes them: the picture, or the one line of a bad or
-- long recording
unfoldable pub pictured : (RenderArea → World → Turn) → List ℕ → World → List ℕ
pictured step s w = cond (too_long s) long_line (drawn (screen_for w.run.device.machine) s (ran step s w).run.at (ran step s w).frame)

-- What a whole recording promises of its place at and of the buffers after it, where w is the world that it leaves.
pub record RunLeaves (w : World) (at : ℕ) (vram row frame : List ℕ) : Type 0 where
  pub place : at ≡ w.run.at
  pub memory : vram ≡ w.vram
  pub pixels : row ≡ w.row
  pub picture : frame ≡ w.frame

-- What a call leaves: a number of bytes at the start of its buffer, and the buffers of the run.
pub record Left : Type 0 where
  pub len : ℕ
  pub out : List ℕ
  pub vram : List ℕ
  pub row : List ℕ
  pub frame : List ℕ

abbrev pub left : World → ℕ → List ℕ → Left
left w n out = record { len = n; out = out; vram = w.vram; row = w.row; frame = w.frame }

-- with room: these bytes, and what the recording does, which is nothing where it is too long; without: nothing at all
unfoldable pub leaves : Bool → (RenderArea → World → Turn) → List ℕ → List ℕ → World → List ℕ → Left
leaves room step bytes s w out =
    cond room (left (cond (too_long s) w (ran step s w)) (length bytes) (written out 0 bytes)) (left w 0 out)

-- room for five bytes of text for each byte of the longest recording, and the last line
abbrev pub text_room : ℕ
text_room = 327700

unfoldable pub traced : List ℕ → World → List ℕ → Left
traced s w out = leaves (leb text_room (length out)) row_turn (printed s w) s w out

unfoldable pub snapped : (RenderArea → World → Turn) → List ℕ → World → List ℕ → Left
snapped step s w out =
    let screen = screen_for w.run.device.machine in
    leaves (leb (picture_room screen) (length out) && eqb (length w.frame) (frame_size screen)) step (pictured step s w) s w out

-- What `trace`, from device d on, promises of its answer n and of the buffers after it, and what `snapshot` does, by what its frame shows.
pub record TraceLeaves (d : Device) (s vram row out : List ℕ) (n : ℕ) (vram' row' out' : List ℕ) : Type 0 where
  pub count : n ≡ (traced s (start d vram row []) out).len
  pub bytes : out' ≡ (traced s (start d vram row []) out).out
  pub memory : vram' ≡ (traced s (start d vram row []) out).vram
  pub pixels : row' ≡ (traced s (start d vram row []) out).row

pub record PictureLeaves (step : RenderArea → World → Turn) (d : Device) (s vram row frame out : List ℕ)
    (n : ℕ) (vram' row' frame' out' : List ℕ) : Type 0 where
  pub count : n ≡ (snapped step s (start d vram row frame) out).len
  pub bytes : out' ≡ (snapped step s (start d vram row frame) out).out
  pub memory : vram' ≡ (snapped step s (start d vram row frame) out).vram
  pub pixels : row' ≡ (snapped step s (start d vram row frame) out).row
  pub picture : frame' ≡ (snapped step s (start d vram row frame) out).frame
