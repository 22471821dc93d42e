-- A port call on a front is refused by the first line of its table that holds.
-- Assumes nothing.
use Rattle.std.specs.Prelude.{None, Option, Some, ℕ, Err, Ok}
use Prim.Native.Nat.{ℕ, ◌%◌, ◌/◌}
use mathlib.Core.Path.{◌≡◌, refl}
use mathlib.Core.List.{List}
use mathlib.Core.Bool.{true, false, cond, not, ◌&&◌}
use lib.Dec.{leb, ltb, eqb}
use native.Mathlib.Omega.{arith}
use borrow.Author.Tests.{le-leb, lt-leb, eqb-true, eqb-false, ltb-true, ltb-false}
use Rattle.laws.proofs.Tests.{split}
use Rattle.front.specs.declared.Front.{Front}
use Rattle.front.specs.declared.FrontWritten.{FrontWritten}
use Rattle.front.specs.declared.WriteDest.{WriteDest}
use Rattle.front.specs.declared.WriteDest.TheVariants.{Vram, Cram}
use Rattle.refusal.specs.declared.Refusal.TheVariants.{HighRegister, NothingChosen, PaletteRead, OutsideMemory}
use Rattle.front.specs.Front.{emptied, second_byte, command_by, data_by, read_by}
use Rattle.refusal.specs.Refusals.{Line, first, whole, Outcome, outcome_of}
use Rattle.front.specs.Lines.{is_empty, is_none, is_palette, size_of, is_port, front_write_lines, front_read_lines}
use Rattle.front.specs.Ports.{front_write, front_read}

-- ---- a write on a front; q is the refusal of the machine's own palette, on a front, and `more` its lines
abbrev pub refusal_by : (Front → Outcome) → FrontWritten → Outcome
refusal_by q a = cond a.palette (q a.front) a.outcome

module _ (n : ℕ) (f : Front) (m : List ℕ) (v : ℕ) (q : Front → Outcome) where
  second_exact : (g : Front) (d : ℕ) → refusal_by q (second_byte n g m d v) ≡ cond (leb 0x8B v && leb v 0xBF) (Err HighRegister) (Ok tt)
  second_exact g d =
      split (eqb (v / 64) 0)
      (λ e. let k = eqb-true (v / 64) 0 e in simp (k, lt-leb 0x8B v (omega arith)))
      (λ e0. split (eqb (v / 64) 1)
      (λ e. let k = eqb-true (v / 64) 1 e in simp (k, lt-leb 0x8B v (omega arith)))
      (λ e1. split (eqb (v / 64) 2)
      (λ e. let k = eqb-true (v / 64) 2 e in
      split (ltb 10 (v % 128))
      (λ t. let h = ltb-true 10 (v % 128) t in simp (k, t, le-leb 0x8B v (omega arith), le-leb v 0xBF (omega arith)))
      (λ t. let h = ltb-false 10 (v % 128) t in simp (k, t, lt-leb 0x8B v (omega arith))))
      (λ e2.
      let n0 = eqb-false (v / 64) 0 e0 in
      let n1 = eqb-false (v / 64) 1 e1 in
      let n2 = eqb-false (v / 64) 2 e2 in
      simp (e0, e1, e2, le-leb 0x8B v (omega arith), lt-leb v 0xBF (omega arith)))))

  command_exact : (l : Option ℕ) → refusal_by q (command_by l n f m v) ≡ cond (not (is_empty l) && leb 0x8B v && leb v 0xBF) (Err HighRegister) (Ok tt)
  command_exact None = refl
  command_exact (Some d) = second_exact (emptied f) d

  data_exact : (d : Option WriteDest) (r : Outcome)
      → (is_palette d ≡ true → q (emptied f) ≡ r)
      → (is_palette d ≡ false → r ≡ (Ok tt))
      → refusal_by q (data_by d n (emptied f) m v).answer
      ≡ cond (is_none d) (Err NothingChosen) (cond (not (ltb f.addr (size_of n d))) (Err OutsideMemory) r)
  data_exact None r h k = refl
  data_exact (Some Vram) r h k = split (ltb f.addr 16384) (λ e. simp (e, k refl)) (λ e. simp e)
  data_exact (Some Cram) r h k = split (ltb f.addr n) (λ e. simp (e, h refl)) (λ e. simp e)

  pub front_write_exact : (p : ℕ) (more : List Line)
      → ((is_port 0xBE p && is_palette f.dest) ≡ true → q (emptied f) ≡ first more)
      → ((is_port 0xBE p && is_palette f.dest) ≡ false → first more ≡ (Ok tt))
      → refusal_by q (front_write n f m p v).answer ≡ first (front_write_lines n f m p v more)
  unfolding front_write
  front_write_exact p more own none =
      split (whole m)
      (λ e8. split (is_port 0xBF p)
      (λ c. let k = eqb-true (p % 256) 0xBF c in simp (e8, k) (rw (none (simp k)) (command_exact f.cmd_byte1)))
      (λ c. split (is_port 0xBE p)
      (λ d. let k = eqb-true (p % 256) 0xBE d in
      simp (e8, k) (data_exact f.dest (first more) (λ t. own (simp (k, t))) (λ t. none (simp (k, t)))))
      (λ d. simp (e8, c, d))))
      (λ e8. simp e8)

-- ---- a read
read_by_exact : (n : ℕ) (d : Option WriteDest) (f : Front) (m : List ℕ)
    → outcome_of (read_by d f m).byte
    ≡ cond (is_none d) (Err NothingChosen) (cond (is_palette d) (Err PaletteRead) (cond (not (ltb f.addr (size_of n d))) (Err OutsideMemory) (Ok tt)))
read_by_exact n None f m = refl
read_by_exact n (Some Cram) f m = refl
read_by_exact n (Some Vram) f m = split (ltb f.addr 16384) (λ e. simp e) (λ e. simp e)

pub front_read_exact : (n : ℕ) (f : Front) (m : List ℕ) (p counter : ℕ) → outcome_of (front_read f m p counter).byte ≡ first (front_read_lines n f m p)
unfolding front_read
front_read_exact n f m p counter =
    split (whole m)
    (λ e8. split (is_port 0x7E p)
    (λ c. let k = eqb-true (p % 256) 0x7E c in simp (e8, k))
    (λ a. split (is_port 0x7F p)
    (λ c. let k = eqb-true (p % 256) 0x7F c in simp (e8, k))
    (λ b. split (is_port 0xBF p)
    (λ c. let k = eqb-true (p % 256) 0xBF c in simp (e8, k))
    (λ d. split (is_port 0xBE p)
    (λ c. let k = eqb-true (p % 256) 0xBE c in simp (e8, k) (read_by_exact n f.dest (emptied f) m))
    (λ e. simp (e8, a, b, d, e))))))
    (λ e8. simp e8)
