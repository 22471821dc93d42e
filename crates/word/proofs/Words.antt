-- The refusal is the low byte of a word that has it there.
-- Assumes nothing.
use Rattle.std.specs.Prelude.{None, Option, Some, ℕ, Err, Ok}
use mathlib.Core.Path.{◌≡◌, refl, ◌∙◌, ap}
use mathlib.Core.Logic.{◌≢◌}
use mathlib.Core.Bool.{Bool, true, false}
use Prim.Native.Nat.{ℕ, ◌+◌, ◌*◌, ◌%◌, ◌<◌}
use native.Mathlib.Omega.{arith}
use Rattle.refusal.specs.declared.Refusal.TheVariants.{UnknownPort, HorizontalCounter, HighRegister, NothingChosen, PaletteRead}
use Rattle.refusal.specs.declared.Refusal.TheVariants.{NoPaletteByte, OutsideMemory, VramLength, PixelLength, BlockMalformed, UnknownArea}
use Rattle.refusal.specs.declared.Refusal.TheVariants.{FrameTooLong, UnknownTile, CodesLength, HighCode, LayerLength, ListLength, RecordRoom}
use Rattle.refusal.specs.Refusals.{refusal_number, Outcome}
use Rattle.points.specs.declared.VdpInt.{VdpInt}
use Rattle.points.specs.declared.DisplayRefresh.{DisplayRefresh}
use Rattle.word.specs.Word.{row_bits, answer_word, pixel_bits, refusal_in}

pub number_low : (r : Outcome) → refusal_number r < 256
number_low (Ok tt) = omega arith
number_low (Err UnknownPort) = omega arith
number_low (Err HorizontalCounter) = omega arith
number_low (Err HighRegister) = omega arith
number_low (Err NothingChosen) = omega arith
number_low (Err PaletteRead) = omega arith
number_low (Err NoPaletteByte) = omega arith
number_low (Err OutsideMemory) = omega arith
number_low (Err VramLength) = omega arith
number_low (Err PixelLength) = omega arith
number_low (Err BlockMalformed) = omega arith
number_low (Err UnknownArea) = omega arith
number_low (Err FrameTooLong) = omega arith
number_low (Err UnknownTile) = omega arith
number_low (Err CodesLength) = omega arith
number_low (Err HighCode) = omega arith
number_low (Err LayerLength) = omega arith
number_low (Err ListLength) = omega arith
number_low (Err RecordRoom) = omega arith

pub low_byte : (r : Outcome) (k : ℕ) → refusal_in (refusal_number r + 256 * k) ≡ refusal_number r
low_byte r k = omega (arith, number_low r)

pub alone : (r : Outcome) → refusal_in (refusal_number r) ≡ refusal_number r
alone r = omega (arith, number_low r)

-- a step's word
row_byte : (r : Option ℕ) → row_bits r % 256 ≡ 0
row_byte None = refl
row_byte (Some y) = omega arith

pub answer_byte : (r : Outcome) (i : VdpInt) (p : DisplayRefresh) (row : Option ℕ) → refusal_in (answer_word r i p row) ≡ refusal_number r
unfolding answer_word
answer_byte r i p row = omega (arith, number_low r, row_byte row)

-- a pixel's word
pub pixel_byte_lem : (r : Outcome) (there : Bool) (colour : ℕ) → refusal_in (refusal_number r + pixel_bits there colour) ≡ refusal_number r
pixel_byte_lem r true colour = omega (arith, number_low r)
pixel_byte_lem r false colour = omega (arith, number_low r)

-- where the number is not 0, the refusal is one
pub not_accepted : (r : Outcome) {n : ℕ} → n ≡ refusal_number r → n ≢ 0 → r ≢ (Ok tt)
not_accepted r e h q = h (e ∙ ap refusal_number q)
