-- R20.3, R20.8: the home machine's ports: those of its front, and a palette of its own.
-- Assumes nothing.
use Rattle.std.specs.Prelude.{ℕ, ◌+◌, ◌%◌, ◌≡◌, List, [], cond, ◌||◌, set, Ok}
use Rattle.laws.specs.Lists.{at}
use Rattle.front.specs.declared.FrontWritten.{FrontWritten}
use Rattle.refusal.specs.Refusals.{Line, Outcome}
use Rattle.front.specs.Lines.{left_behind, front_write_lines, front_read_lines}
use Rattle.front.specs.Ports.{front_write, front_read}
use Rattle.front.specs.Front.{changed}
use Rattle.home.specs.declared.HomeState.{HomeState}
use Rattle.front.specs.declared.Written.{Written}
use Rattle.front.specs.declared.ReadBack.{ReadBack}
use Rattle.home.specs.Home.{palette_size, with_front, with_addr, with_palette}

-- ---- R20.3: a byte for the palette. The address lies in it, and the command latch is empty
abbrev pub answered : Outcome → HomeState → Written HomeState
answered r h = record { outcome = r; device = h }

-- it is stored whole, dirty where it is another than before
abbrev pub stored : HomeState → ℕ → ℕ → HomeState
stored h a v = with_palette h (set h.cram a v) (h.cram_dirty || changed (at h.cram a) v)

abbrev pub palette_write : HomeState → ℕ → Written HomeState
palette_write h v = answered (Ok tt) (with_addr (stored h h.front.addr v) ((h.front.addr + 1) % palette_size))

-- ---- the port calls
-- What a write leaves: its answer, with the device in it, and video memory.
pub record After : Type 0 where
  pub answer : Written HomeState
  pub vram : List ℕ

-- the front's answer, on the device that has it
abbrev pub written_by : HomeState → ℕ → FrontWritten → Written HomeState
written_by h v a =
    cond a.palette (palette_write (with_front h a.front) v) (answered a.outcome (with_front h a.front))

unfoldable pub port_write : HomeState → List ℕ → ℕ → ℕ → After
port_write h m p v =
    let a = front_write palette_size h.front m p v in
    record { answer = written_by h v a.answer; vram = a.vram }

unfoldable pub port_read : HomeState → List ℕ → ℕ → ReadBack HomeState
port_read h m p =
    let a = front_read h.front m p h.raster.v_counter in
    record { byte = a.byte; device = with_front h a.device }

-- What a port write promises: its answer r, and what video memory holds after it, m'.
pub record WriteLeaves (h : HomeState) (m : List ℕ) (p v : ℕ) (r : Written HomeState) (m' : List ℕ) : Type 0 where
  pub answer : r ≡ (port_write h m p v).answer
  pub memory : m' ≡ (port_write h m p v).vram

-- ---- R2.2, R2.4: what a refusal leaves of the device, and the order of the tests; this palette has none of its own
abbrev pub device_left : Outcome → HomeState → HomeState
device_left r h = with_front h (left_behind r h.front)

abbrev pub write_lines : HomeState → List ℕ → ℕ → ℕ → List Line
write_lines h vram p v = front_write_lines palette_size h.front vram p v []

abbrev pub read_lines : HomeState → List ℕ → ℕ → List Line
read_lines h vram p = front_read_lines palette_size h.front vram p
