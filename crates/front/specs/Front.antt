-- R3.4 to R3.6, R3.8, R3.9: what a command byte, a data byte and a read do to the front of a device, the part that the ports work on whatever its palette is.
-- Assumes nothing.
use Rattle.refusal.specs.declared.Refusal.{Refusal}
use Rattle.refusal.specs.Refusals.{Outcome}
use Rattle.std.specs.Prelude.{ℕ, ◌+◌, ◌*◌, ◌/◌, ◌%◌, List, [], ◌∷◌, Bool, true, false, cond, not, set, ltb, eqb, None, Option, Some, Result, Err, Ok}
use Rattle.laws.specs.Lists.{at}
use Rattle.laws.specs.Sizes.{vram_size}
use Rattle.front.specs.declared.Front.{Front}
use Rattle.front.specs.declared.FrontWritten.{FrontWritten}
use Rattle.front.specs.declared.ReadBack.{ReadBack}
use Rattle.front.specs.declared.WriteDest.{WriteDest}
use Rattle.front.specs.declared.WriteDest.TheVariants.{Vram, Cram}
use Rattle.refusal.specs.declared.Refusal.TheVariants.{HighRegister, NothingChosen, PaletteRead, OutsideMemory}

-- the front of these fields, in the order of the device's
abbrev pub front : ℕ → List ℕ → ℕ → ℕ → Option WriteDest → Option ℕ → Front
front status reg addr buffer dest command =
    record { status = status; reg = reg; addr = addr; vram_buffer = buffer; dest = dest; cmd_byte1 = command }

-- R3.2: that of a fresh device
abbrev pub fresh_front : Front
fresh_front = front 0 (0 ∷ 0 ∷ 0xFF ∷ 0xFF ∷ 0xFF ∷ 0xFF ∷ 0xFF ∷ 0 ∷ 0 ∷ 0 ∷ 1 ∷ []) 0 0 None None

-- whether a byte that is stored is another than the one before
abbrev pub changed : ℕ → ℕ → Bool
changed a b = not (eqb a b)

-- ---- the same front with another command latch, and so on
abbrev pub with_command : Front → Option ℕ → Front
with_command f l = front f.status f.reg f.addr f.vram_buffer f.dest l

-- R2.2: what a refused command or data call leaves
abbrev pub emptied : Front → Front
emptied f = with_command f None

-- a memory chosen, and the address in it
abbrev pub choosing : Front → Option WriteDest → ℕ → Front
choosing f d a = front f.status f.reg a f.vram_buffer d f.cmd_byte1

abbrev pub with_reg : Front → List ℕ → Front
with_reg f g = front f.status g f.addr f.vram_buffer f.dest f.cmd_byte1

-- byte b in the read buffer, and the address one on from a
abbrev pub with_buffer : Front → ℕ → ℕ → Front
with_buffer f b a = front f.status f.reg ((a + 1) % vram_size) b f.dest f.cmd_byte1

-- the read buffer filled from address a
abbrev pub loaded : Front → List ℕ → ℕ → Front
loaded f m a = with_buffer f (at m a) a

-- ---- what a call answers
abbrev pub sent : Outcome → Front → FrontWritten
sent r f = record { outcome = r; palette = false; front = f }

-- all is well with the byte so far, and the machine's own palette takes it
abbrev pub for_palette : Front → FrontWritten
for_palette f = record { outcome = (Ok tt); palette = true; front = f }

-- a read gives a byte, or is refused
abbrev pub read : Result ℕ Refusal → Front → ReadBack Front
read b f = record { byte = b; device = f }

abbrev pub refused_read : Refusal → Front → ReadBack Front
refused_read r f = read (Err r) f

abbrev pub given : ℕ → Front → ReadBack Front
given b f = read (Ok b) f

-- What a write leaves: its answer, with the front in it, and video memory.
pub record FrontAfter : Type 0 where
  pub answer : FrontWritten
  pub vram : List ℕ

-- ---- R3.4, R3.5: the command byte, on a machine with n bytes of palette
-- the address of the two bytes, low and high
abbrev pub video_address : ℕ → ℕ → ℕ
video_address d v = (d + 256 * v) % vram_size

-- R3.5, with first byte d and second v: 00, 01, 10, 11
abbrev pub second_byte : ℕ → Front → List ℕ → ℕ → ℕ → FrontWritten
second_byte n f m d v =
    cond (eqb (v / 64) 0) (sent (Ok tt) (loaded (choosing f (Some Vram) (video_address d v)) m (video_address d v)))
    (cond (eqb (v / 64) 1) (sent (Ok tt) (choosing f (Some Vram) (video_address d v)))
    (cond (eqb (v / 64) 2) (cond (ltb 10 (v % 128)) (sent (Err HighRegister) f) (sent (Ok tt) (with_reg f (set f.reg (v % 128) d))))
    (sent (Ok tt) (choosing f (Some Cram) (d % n)))))

-- R3.4: a first byte waits; at a second the latch is emptied
abbrev pub command_by : Option ℕ → ℕ → Front → List ℕ → ℕ → FrontWritten
command_by None n f m v = sent (Ok tt) (with_command f (Some v))
command_by (Some d) n f m v = second_byte n (emptied f) m d v

abbrev pub command_write : ℕ → Front → List ℕ → ℕ → FrontWritten
command_write n f m v = command_by f.cmd_byte1 n f m v

-- ---- R3.6: the data write. The front f has its command latch empty already
-- video memory and the read buffer take the byte
abbrev pub vram_write : Front → List ℕ → ℕ → FrontAfter
vram_write f m v =
    cond (ltb f.addr vram_size) (record { answer = sent (Ok tt) (with_buffer f v f.addr); vram = set m f.addr v })
    (record { answer = sent (Err OutsideMemory) f; vram = m })

abbrev pub data_by : Option WriteDest → ℕ → Front → List ℕ → ℕ → FrontAfter
data_by None n f m v = record { answer = sent (Err NothingChosen) f; vram = m }
data_by (Some Vram) n f m v = vram_write f m v
data_by (Some Cram) n f m v = record { answer = cond (ltb f.addr n) (for_palette f) (sent (Err OutsideMemory) f); vram = m }

abbrev pub data_write : ℕ → Front → List ℕ → ℕ → FrontAfter
data_write n f m v = data_by f.dest n (emptied f) m v

-- ---- R3.8: the data read gives the read buffer, and fills it anew
abbrev pub read_by : Option WriteDest → Front → List ℕ → ReadBack Front
read_by None f m = refused_read NothingChosen f
read_by (Some Cram) f m = refused_read PaletteRead f
read_by (Some Vram) f m =
    cond (ltb f.addr vram_size) (given f.vram_buffer (loaded f m f.addr)) (refused_read OutsideMemory f)

abbrev pub data_read : Front → List ℕ → ReadBack Front
data_read f m = read_by f.dest (emptied f) m

-- R3.9: the status read
abbrev pub status_read : Front → ReadBack Front
status_read f = given f.status (front 0 f.reg f.addr f.vram_buffer f.dest None)
