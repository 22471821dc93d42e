-- R2.1, R2.4, R2.5: the number of each refusal, and a table of them: the first line that holds.
-- Assumes nothing.
use Rattle.std.specs.Prelude.{ℕ, List, [], ◌∷◌, Bool, cond, length, eqb, Result, Ok, Err}
use Rattle.laws.specs.Sizes.{vram_size}
use Rattle.refusal.specs.declared.Refusal.{Refusal}
use Rattle.refusal.specs.declared.Refusal.TheVariants.{UnknownPort, HorizontalCounter, HighRegister, NothingChosen, PaletteRead}
use Rattle.refusal.specs.declared.Refusal.TheVariants.{NoPaletteByte, OutsideMemory, VramLength, PixelLength, BlockMalformed, UnknownArea}
use Rattle.refusal.specs.declared.Refusal.TheVariants.{FrameTooLong, UnknownTile, CodesLength, HighCode, LayerLength, ListLength, RecordRoom}

-- R2.1: how a call comes out: it is accepted, or it is refused, and why
abbrev pub Outcome : Type 0
Outcome = Result Unit Refusal

-- R2.1: the answer of a call that comes out so: accepted, it is a; refused, it is why
abbrev pub answered : {A : Type 0} → A → Outcome → Result A Refusal
answered a (Ok u) = Ok a
answered a (Err r) = Err r

-- R2.1: how a call with this answer comes out
abbrev pub outcome_of : {A : Type 0} → Result A Refusal → Outcome
outcome_of (Ok a) = Ok tt
outcome_of (Err r) = Err r

-- R2.1, R11.11: its number: that of the refusal, and 0 where the call is accepted
abbrev pub refusal_number : Outcome → ℕ
refusal_number (Ok u) = 0
refusal_number (Err UnknownPort) = 1
refusal_number (Err HorizontalCounter) = 2
refusal_number (Err HighRegister) = 3
refusal_number (Err NothingChosen) = 4
refusal_number (Err PaletteRead) = 5
refusal_number (Err NoPaletteByte) = 6
refusal_number (Err OutsideMemory) = 7
refusal_number (Err VramLength) = 8
refusal_number (Err PixelLength) = 9
refusal_number (Err BlockMalformed) = 10
refusal_number (Err UnknownArea) = 11
refusal_number (Err FrameTooLong) = 12
refusal_number (Err UnknownTile) = 13
refusal_number (Err CodesLength) = 14
refusal_number (Err HighCode) = 15
refusal_number (Err LayerLength) = 16
refusal_number (Err ListLength) = 17
refusal_number (Err RecordRoom) = 18

-- R2.3: a refused read gives byte 0
abbrev pub byte_given : Result ℕ Refusal → ℕ
byte_given (Ok b) = b
byte_given (Err r) = 0

-- R2.1, a line of the table: a condition and what it gives, a refusal
pub record Line : Type 0 where
  pub holds : Bool
  pub outcome : Outcome

abbrev pub line : Bool → Outcome → Line
line b r = record { holds = b; outcome = r }

-- R2.4, R13.1: the first whose condition holds
abbrev pub first : List Line → Outcome
first [] = Ok tt
first (l ∷ ls) = cond l.holds l.outcome (first ls)

-- the same of what a call does: `refuse` of that refusal; `call` where no condition holds
abbrev pub under : {A : Type 0} → List Line → (Outcome → A) → A → A
under [] refuse call = call
under (l ∷ ls) refuse call = cond l.holds (refuse l.outcome) (under ls refuse call)

-- R2.5: no call goes on without the whole of video memory
abbrev pub whole : List ℕ → Bool
whole vram = eqb (length vram) vram_size
