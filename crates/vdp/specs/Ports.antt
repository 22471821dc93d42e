-- R3.3 to R3.10, the ports of the handheld: what a port call answers and leaves, the front's but for the palette.
-- Assumes nothing.
use Rattle.refusal.specs.Refusals.{Outcome}
use Rattle.std.specs.Prelude.{ℕ, ◌+◌, ◌-◌, ◌%◌, ◌≡◌, List, cond, ◌||◌, set, eqb, None, Option, Some, Err, Ok}
use Rattle.laws.specs.Lists.{at}
use Rattle.laws.specs.Sizes.{cram_size}
use Rattle.front.specs.declared.FrontWritten.{FrontWritten}
use Rattle.vdp.specs.declared.VdpState.{VdpState}
use Rattle.front.specs.declared.Written.{Written}
use Rattle.front.specs.declared.ReadBack.{ReadBack}
use Rattle.refusal.specs.declared.Refusal.TheVariants.{NoPaletteByte}
use Rattle.vdp.specs.Device.{front_of, with_front, with_palette_byte, with_addr, with_palette}
use Rattle.front.specs.Ports.{front_write, front_read}
use Rattle.front.specs.Front.{changed}

-- ---- the device: R3.7, a byte for its palette. The address lies in it, and the command latch is empty
abbrev pub answered : Outcome → VdpState → Written VdpState
answered r d = record { outcome = r; device = d }

-- even: the byte waits, and no colour changes
abbrev pub even_palette : VdpState → ℕ → Written VdpState
even_palette s v = answered (Ok tt) (with_addr (with_palette_byte s (Some v)) ((s.addr + 1) % cram_size))

-- odd: both bytes are stored, dirty where one is another than before; the byte waits on
abbrev pub stored : VdpState → ℕ → ℕ → ℕ → VdpState
stored s a low high =
    with_palette s (set (set s.cram (a - 1) low) a high)
    (s.cram_dirty || changed (at s.cram (a - 1)) low || changed (at s.cram a) high)

abbrev pub odd_palette : Option ℕ → VdpState → ℕ → Written VdpState
odd_palette None s v = answered (Err NoPaletteByte) s
odd_palette (Some low) s v = answered (Ok tt) (with_addr (stored s s.addr low (v % 16)) ((s.addr + 1) % cram_size))

abbrev pub palette_write : VdpState → ℕ → Written VdpState
palette_write s v = cond (eqb (s.addr % 2) 0) (even_palette s v) (odd_palette s.cram_byte1 s v)

-- ---- the port calls
-- What a write leaves: its answer, with the device in it, and video memory.
pub record After : Type 0 where
  pub answer : Written VdpState
  pub vram : List ℕ

-- the front's answer, on the device that has it
abbrev pub written_by : VdpState → ℕ → FrontWritten → Written VdpState
written_by s v a =
    cond a.palette (palette_write (with_front s a.front) v) (answered a.outcome (with_front s a.front))

unfoldable pub port_write : VdpState → List ℕ → ℕ → ℕ → After
port_write s m p v =
    let a = front_write cram_size (front_of s) m p v in
    record { answer = written_by s v a.answer; vram = a.vram }

unfoldable pub port_read : VdpState → List ℕ → ℕ → ReadBack VdpState
port_read s m p =
    let a = front_read (front_of s) m p s.raster.v_counter in
    record { byte = a.byte; device = with_front s a.device }

-- What a port write promises: its answer r, and what video memory holds after it, m'.
pub record WriteLeaves (s : VdpState) (m : List ℕ) (p v : ℕ) (r : Written VdpState) (m' : List ℕ) : Type 0 where
  pub answer : r ≡ (port_write s m p v).answer
  pub memory : m' ≡ (port_write s m p v).vram
