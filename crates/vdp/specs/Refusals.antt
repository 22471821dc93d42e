-- R2.2, R2.4, of the handheld: what a refusal leaves of it, and when each port call gives one.
-- Assumes nothing.
use Rattle.std.specs.Prelude.{ℕ, ◌%◌, List, [], ◌∷◌, not, ◌&&◌, eqb, Option, Err}
use Rattle.laws.specs.Sizes.{cram_size}
use Rattle.vdp.specs.declared.VdpState.{VdpState}
use Rattle.front.specs.declared.WriteDest.{WriteDest}
use Rattle.refusal.specs.declared.Refusal.TheVariants.{NoPaletteByte}
use Rattle.vdp.specs.Device.{front_of, with_front}
use Rattle.refusal.specs.Refusals.{Line, line, Outcome}
use Rattle.front.specs.Lines.{left_behind, is_empty, is_palette, size_of, is_port, front_write_lines, front_read_lines}

-- R2.2: what it leaves of the device s: its front as the column says, and nothing else changed
abbrev pub device_left : Outcome → VdpState → VdpState
device_left r s = with_front s (left_behind r (front_of s))

abbrev pub size : Option WriteDest → ℕ
size d = size_of cram_size d

-- ---- the same of the device: its palette wants an even byte before an odd one
abbrev pub write_lines : VdpState → List ℕ → ℕ → ℕ → List Line
write_lines s vram p v =
    front_write_lines cram_size (front_of s) vram p v
    (line (is_port 0xBE p && is_palette s.dest && not (eqb (s.addr % 2) 0) && is_empty s.cram_byte1) (Err NoPaletteByte) ∷ [])

abbrev pub read_lines : VdpState → List ℕ → ℕ → List Line
read_lines s vram p = front_read_lines cram_size (front_of s) vram p
