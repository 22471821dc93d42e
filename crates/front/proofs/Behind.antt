-- What a refused port call leaves of a front is what the table's column says, and video memory stays; a refused read gives byte 0.
-- Assumes nothing.
use Rattle.std.specs.Prelude.{None, Option, Some, ℕ, Err, Ok}
use Prim.Native.Nat.{ℕ, ◌%◌, ◌/◌}
use mathlib.Core.Path.{◌≡◌, refl}
use mathlib.Core.Logic.{◌≢◌}
use mathlib.Core.Bool.{cond, ◌&&◌}
use mathlib.Core.List.{List}
use lib.Dec.{leb, ltb, eqb}
use Rattle.laws.proofs.Tests.{either}
use Rattle.front.specs.declared.Front.{Front}
use Rattle.front.specs.declared.FrontWritten.{FrontWritten}
use Rattle.front.specs.declared.ReadBack.{ReadBack}
use Rattle.front.specs.declared.WriteDest.{WriteDest}
use Rattle.front.specs.declared.WriteDest.TheVariants.{Vram, Cram}
use Rattle.refusal.specs.declared.Refusal.TheVariants.{UnknownPort, HorizontalCounter, HighRegister, NothingChosen, PaletteRead}
use Rattle.refusal.specs.declared.Refusal.TheVariants.{NoPaletteByte, OutsideMemory, VramLength, PixelLength, BlockMalformed, UnknownArea}
use Rattle.refusal.specs.declared.Refusal.TheVariants.{FrameTooLong, UnknownTile, CodesLength, HighCode, LayerLength, ListLength, RecordRoom}
use Rattle.front.specs.Front.{FrontAfter, emptied, command_by, data_by, read_by}
use Rattle.refusal.specs.Refusals.{refusal_number, whole, Outcome, outcome_of, byte_given}
use Rattle.front.specs.Lines.{left_behind, is_port}
use Rattle.front.specs.Ports.{front_write, front_read}

pub accepted : {G : Type 0} → ◌≢◌ {A = Outcome} (Ok tt) (Ok tt) → G
accepted n = absurd (n refl)

-- ---- the column by numbers: 3 to 7 empty the command latch, the others leave it
pub left_is : (r : Outcome) (f : Front) → left_behind r f ≡ cond (leb 3 (refusal_number r) && leb (refusal_number r) 7) (emptied f) f
left_is (Ok tt) f = refl
left_is (Err UnknownPort) f = refl
left_is (Err HorizontalCounter) f = refl
left_is (Err HighRegister) f = refl
left_is (Err NothingChosen) f = refl
left_is (Err PaletteRead) f = refl
left_is (Err NoPaletteByte) f = refl
left_is (Err OutsideMemory) f = refl
left_is (Err VramLength) f = refl
left_is (Err PixelLength) f = refl
left_is (Err BlockMalformed) f = refl
left_is (Err UnknownArea) f = refl
left_is (Err FrameTooLong) f = refl
left_is (Err UnknownTile) f = refl
left_is (Err CodesLength) f = refl
left_is (Err HighCode) f = refl
left_is (Err LayerLength) f = refl
left_is (Err ListLength) f = refl
left_is (Err RecordRoom) f = refl

-- ---- of a front: where an answer is a refusal, it leaves what the column says
module _ (f : Front) where
  abbrev LeftF : FrontWritten → Type 0
  LeftF a = a.outcome ≢ (Ok tt) → a.front ≡ left_behind a.outcome f

  pub record FrontLeft (m : List ℕ) (a : FrontAfter) : Type 0 where
    pub front : LeftF a.answer
    pub memory : a.answer.outcome ≢ (Ok tt) → a.vram ≡ m

  pub record FrontReadLeft (a : ReadBack Front) : Type 0 where
    pub front : outcome_of a.byte ≢ (Ok tt) → a.device ≡ left_behind (outcome_of a.byte) f
    pub zero : outcome_of a.byte ≢ (Ok tt) → byte_given a.byte ≡ 0

  command : (l : Option ℕ) (n : ℕ) (m : List ℕ) (v : ℕ) → LeftF (command_by l n f m v)
  command None n m v = accepted
  command (Some d) n m v =
      either LeftF (eqb (v / 64) 0) (λ _. accepted)
      (λ _. either LeftF (eqb (v / 64) 1) (λ _. accepted)
      (λ _. either LeftF (eqb (v / 64) 2) (λ _. either LeftF (ltb 10 (v % 128)) (λ _ _. refl) (λ _. accepted)) (λ _. accepted)))

  to_chosen : (d : Option WriteDest) (n : ℕ) (m : List ℕ) (v : ℕ) → FrontLeft m (data_by d n (emptied f) m v)
  to_chosen None n m v = record { front = λ _. refl; memory = λ _. refl }
  to_chosen (Some Vram) n m v =
      either (FrontLeft m) (ltb f.addr 16384) (λ _. record { front = accepted; memory = accepted })
      (λ _. record { front = λ _. refl; memory = λ _. refl })
  to_chosen (Some Cram) n m v = record { front = either LeftF (ltb f.addr n) (λ _. accepted) (λ _ _. refl); memory = λ _. refl }

  pub front_write_behind : (n : ℕ) (m : List ℕ) (p v : ℕ) → FrontLeft m (front_write n f m p v)
  unfolding front_write
  front_write_behind n m p v =
      either (FrontLeft m) (whole m)
      (λ _. either (FrontLeft m) (is_port 0xBF p) (λ _. record { front = command f.cmd_byte1 n m v; memory = λ _. refl })
      (λ _. either (FrontLeft m) (is_port 0xBE p) (λ _. to_chosen f.dest n m v) (λ _. record { front = λ _. refl; memory = λ _. refl })))
      (λ _. record { front = λ _. refl; memory = λ _. refl })

  from_chosen : (d : Option WriteDest) (m : List ℕ) → FrontReadLeft (read_by d (emptied f) m)
  from_chosen None m = record { front = λ _. refl; zero = λ _. refl }
  from_chosen (Some Cram) m = record { front = λ _. refl; zero = λ _. refl }
  from_chosen (Some Vram) m =
      either FrontReadLeft (ltb f.addr 16384) (λ _. record { front = accepted; zero = accepted })
      (λ _. record { front = λ _. refl; zero = λ _. refl })

  pub front_read_behind : (m : List ℕ) (p counter : ℕ) → FrontReadLeft (front_read f m p counter)
  unfolding front_read
  front_read_behind m p counter =
      either FrontReadLeft (whole m)
      (λ _. either FrontReadLeft (is_port 0x7E p) (λ _. record { front = accepted; zero = accepted })
      (λ _. either FrontReadLeft (is_port 0x7F p) (λ _. record { front = λ _. refl; zero = λ _. refl })
      (λ _. either FrontReadLeft (is_port 0xBF p) (λ _. record { front = accepted; zero = accepted })
      (λ _. either FrontReadLeft (is_port 0xBE p) (λ _. from_chosen f.dest m) (λ _. record { front = λ _. refl; zero = λ _. refl })))))
      (λ _. record { front = λ _. refl; zero = λ _. refl })
