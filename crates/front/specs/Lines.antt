-- R2.2, R2.4, of a front: what a refusal leaves of it, and when each port call gives one.
-- Assumes nothing.
use Rattle.std.specs.Prelude.{ℕ, ◌%◌, List, [], ◌∷◌, Bool, true, false, not, ◌||◌, ◌&&◌, leb, ltb, eqb, None, Option, Some, Err, Ok}
use Rattle.laws.specs.Sizes.{vram_size}
use Rattle.refusal.specs.declared.Refusal.TheVariants.{UnknownPort, HorizontalCounter, HighRegister, NothingChosen, PaletteRead}
use Rattle.refusal.specs.declared.Refusal.TheVariants.{NoPaletteByte, OutsideMemory, VramLength, PixelLength, BlockMalformed, UnknownArea}
use Rattle.refusal.specs.declared.Refusal.TheVariants.{FrameTooLong, UnknownTile, CodesLength, HighCode, LayerLength, ListLength, RecordRoom}
use Rattle.refusal.specs.Refusals.{Line, line, whole, Outcome}
use Rattle.front.specs.declared.Front.{Front}
use Rattle.front.specs.declared.WriteDest.{WriteDest}
use Rattle.front.specs.declared.WriteDest.TheVariants.{Vram, Cram}
use Rattle.front.specs.Front.{emptied}

-- R2.2: what it leaves of the front s: all as it was, or the command latch empty and nothing else changed
abbrev pub left_behind : Outcome → Front → Front
left_behind (Err HighRegister) s = emptied s
left_behind (Err NothingChosen) s = emptied s
left_behind (Err PaletteRead) s = emptied s
left_behind (Err NoPaletteByte) s = emptied s
left_behind (Err OutsideMemory) s = emptied s
left_behind (Ok tt) s = s
left_behind (Err UnknownPort) s = s
left_behind (Err HorizontalCounter) s = s
left_behind (Err VramLength) s = s
left_behind (Err PixelLength) s = s
left_behind (Err BlockMalformed) s = s
left_behind (Err UnknownArea) s = s
left_behind (Err FrameTooLong) s = s
left_behind (Err UnknownTile) s = s
left_behind (Err CodesLength) s = s
left_behind (Err HighCode) s = s
left_behind (Err LayerLength) s = s
left_behind (Err ListLength) s = s
left_behind (Err RecordRoom) s = s

-- ---- the words of the conditions
abbrev pub is_empty : Option ℕ → Bool
is_empty None = true
is_empty (Some b) = false

abbrev pub is_none : Option WriteDest → Bool
is_none None = true
is_none (Some Vram) = false
is_none (Some Cram) = false

abbrev pub is_palette : Option WriteDest → Bool
is_palette None = false
is_palette (Some Vram) = false
is_palette (Some Cram) = true

-- R6.4: the size of the memory that is chosen, with n bytes of palette; with none chosen refusal 4 comes before
abbrev pub size_of : ℕ → Option WriteDest → ℕ
size_of n None = vram_size
size_of n (Some Vram) = vram_size
size_of n (Some Cram) = n

-- R3.3: a port is known by its low byte
abbrev pub is_port : ℕ → ℕ → Bool
is_port n port = eqb (port % 256) n

-- ---- R2.4: the order of the tests of a write and of a read, with n bytes of palette. `more` are the tests of that palette's own, which come last
abbrev pub front_write_lines : ℕ → Front → List ℕ → ℕ → ℕ → List Line → List Line
front_write_lines n f vram p v more =
    line (not (whole vram)) (Err VramLength)
    ∷ line (not (is_port 0xBF p || is_port 0xBE p)) (Err UnknownPort)
    ∷ line (is_port 0xBF p && not (is_empty f.cmd_byte1) && leb 0x8B v && leb v 0xBF) (Err HighRegister)
    ∷ line (is_port 0xBE p && is_none f.dest) (Err NothingChosen)
    ∷ line (is_port 0xBE p && not (ltb f.addr (size_of n f.dest))) (Err OutsideMemory)
    ∷ more

abbrev pub front_read_lines : ℕ → Front → List ℕ → ℕ → List Line
front_read_lines n f vram p =
    line (not (whole vram)) (Err VramLength)
    ∷ line (not (is_port 0x7E p || is_port 0x7F p || is_port 0xBF p || is_port 0xBE p)) (Err UnknownPort)
    ∷ line (is_port 0x7F p) (Err HorizontalCounter)
    ∷ line (is_port 0xBE p && is_none f.dest) (Err NothingChosen)
    ∷ line (is_port 0xBE p && is_palette f.dest) (Err PaletteRead)
    ∷ line (is_port 0xBE p && not (ltb f.addr (size_of n f.dest))) (Err OutsideMemory)
    ∷ []
