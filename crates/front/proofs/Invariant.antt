-- After any port call on a front the address lies in the memory that is chosen, where it did before; and 7 comes only where it lies outside.
-- Assumes nothing.
use Rattle.std.specs.Prelude.{None, Option, Some, ℕ}
use Prim.Native.Nat.{ℕ, ◌%◌, ◌/◌, ◌<◌}
use mathlib.Core.Path.{◌≡◌, refl}
use mathlib.Core.Logic.{◌≢◌}
use mathlib.Core.Bool.{Bool, true, not, ◌&&◌}
use mathlib.Core.List.{List}
use lib.Dec.{ltb, eqb}
use native.Mathlib.Nat.{mod-lt}
use native.Mathlib.Omega.{arith}
use borrow.Author.Tests.{ltb-false, not-true}
use Rattle.laws.proofs.Tests.{either, both}
use Rattle.front.specs.declared.Front.{Front}
use Rattle.front.specs.declared.FrontWritten.{FrontWritten}
use Rattle.front.specs.declared.ReadBack.{ReadBack}
use Rattle.front.specs.declared.WriteDest.{WriteDest}
use Rattle.front.specs.declared.WriteDest.TheVariants.{Vram, Cram}
use Rattle.front.specs.Front.{FrontAfter, emptied, second_byte, command_by, data_by, read_by}
use Rattle.refusal.specs.Refusals.{refusal_number, Line, first, whole}
use Rattle.front.specs.Lines.{size_of, is_port, front_write_lines, front_read_lines}
use Rattle.front.specs.Ports.{front_write, front_read}
use Rattle.refusal.proofs.Tables.{Silent, first_not}

-- ---- of a front, with n bytes of palette
abbrev pub AimedFront : ℕ → Front → Type 0
AimedFront n f = f.addr < size_of n f.dest

module _ (n : ℕ) (some : 0 < n) where
  abbrev Left : FrontWritten → Type 0
  Left a = AimedFront n a.front

  abbrev LeftRead : ReadBack Front → Type 0
  LeftRead a = AimedFront n a.device

  abbrev LeftAfter : FrontAfter → Type 0
  LeftAfter a = AimedFront n a.answer.front

  second_byte_lem : (f : Front) (m : List ℕ) (d v : ℕ) → AimedFront n f → Left (second_byte n f m d v)
  second_byte_lem f m d v h =
      either Left (eqb (v / 64) 0) (λ _. omega arith)
      (λ _. either Left (eqb (v / 64) 1) (λ _. omega arith)
      (λ _. either Left (eqb (v / 64) 2) (λ _. either Left (ltb 10 (v % 128)) (λ _. h) (λ _. h)) (λ _. mod-lt d some)))

  command_by_lem : (l : Option ℕ) (f : Front) (m : List ℕ) (v : ℕ) → AimedFront n f → Left (command_by l n f m v)
  command_by_lem None f m v h = h
  command_by_lem (Some d) f m v h = second_byte_lem (emptied f) m d v h

  data_by_lem : (d : Option WriteDest) (f : Front) (m : List ℕ) (v : ℕ) → f.dest ≡ d → AimedFront n f → LeftAfter (data_by d n f m v)
  data_by_lem None f m v e h = h
  data_by_lem (Some Vram) f m v e h = either LeftAfter (ltb f.addr 16384) (λ _. rw e (omega arith)) (λ _. h)
  data_by_lem (Some Cram) f m v e h = either Left (ltb f.addr n) (λ _. h) (λ _. h)

  read_by_lem : (d : Option WriteDest) (f : Front) (m : List ℕ) → f.dest ≡ d → AimedFront n f → LeftRead (read_by d f m)
  read_by_lem None f m e h = h
  read_by_lem (Some Cram) f m e h = h
  read_by_lem (Some Vram) f m e h = either LeftRead (ltb f.addr 16384) (λ _. rw e (omega arith)) (λ _. h)

  pub front_write_aimed : (f : Front) (m : List ℕ) (p v : ℕ) → AimedFront n f → AimedFront n (front_write n f m p v).answer.front
  unfolding front_write
  front_write_aimed f m p v h =
      either LeftAfter (whole m)
      (λ _. either LeftAfter (is_port 0xBF p) (λ _. command_by_lem f.cmd_byte1 f m v h)
      (λ _. either LeftAfter (is_port 0xBE p) (λ _. data_by_lem f.dest (emptied f) m v refl h) (λ _. h)))
      (λ _. h)

  pub front_read_aimed : (f : Front) (m : List ℕ) (p counter : ℕ) → AimedFront n f → AimedFront n (front_read f m p counter).device
  unfolding front_read
  front_read_aimed f m p counter h =
      either LeftRead (whole m)
      (λ _. either LeftRead (is_port 0x7E p) (λ _. h)
      (λ _. either LeftRead (is_port 0x7F p) (λ _. h)
      (λ _. either LeftRead (is_port 0xBF p) (λ _. h)
      (λ _. either LeftRead (is_port 0xBE p) (λ _. read_by_lem f.dest (emptied f) m refl h) (λ _. h)))))
      (λ _. h)

-- the line of 7 does not hold where the address is inside; `more` are the tests of that palette's own
module _ (n : ℕ) (f : Front) (m : List ℕ) (p : ℕ) (h : AimedFront n f) where
  not_outside : (b : Bool) → (b && not (ltb f.addr (size_of n f.dest))) ≡ true → ⊥
  not_outside b e =
      let t : Bool = ltb f.addr (size_of n f.dest) in
      omega (arith, ltb-false f.addr (size_of n f.dest) (not-true t (both b (not t) e).1))

  pub front_write_inside : (v : ℕ) (more : List Line) → Silent 7 more → refusal_number (first (front_write_lines n f m p v more)) ≢ 7
  front_write_inside v more s =
      first_not 7 (λ z. omega arith) (front_write_lines n f m p v more)
      (λ _. omega arith, (λ _. omega arith, (λ _. omega arith, (λ _. omega arith, (λ e. absurd (not_outside (is_port 0xBE p) e), s)))))

  pub front_read_inside : refusal_number (first (front_read_lines n f m p)) ≢ 7
  front_read_inside =
      first_not 7 (λ z. omega arith) (front_read_lines n f m p) (
        λ _. omega arith,
        (
          λ _. omega arith,
          (
            λ _. omega arith,
            (λ _. omega arith, (λ _. omega arith, (λ e. absurd (not_outside (is_port 0xBE p) e), tt))),
          ),
        ),
      )
