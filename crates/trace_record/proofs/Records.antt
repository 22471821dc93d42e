-- Laws of one record: where it lies, what room it has, and what the writer leaves.
-- Assumes nothing.
use Rattle.std.specs.Prelude.{Err, Ok}
use mathlib.Core.Path.{◌≡◌, refl, sym, ap, ◌∙◌}
use mathlib.Core.Bool.{Bool, true, false}
use mathlib.Core.List.{List, []}
use Prim.Native.Nat.{ℕ, ◌+◌, ◌-◌, ◌*◌, ◌<◌, ◌≤◌}
use native.Mathlib.Omega.{arith}
use borrow.Author.Tests.{ltb-false, leb-true, leb-false, lt-ltb, le-ltb, le-leb, lt-leb}
use lib.Dec.{ltb, leb, eqb}
use lib.ListN.{length, take}
use Rattle.laws.specs.Lists.{at, written}
use Rattle.laws.proofs.Tests.{either, split, clash}
use Rattle.refusal.specs.declared.Refusal.TheVariants.{RecordRoom}
use Rattle.trace_record.specs.declared.Record.{Record}
use Rattle.trace_record.specs.declared.Record.TheVariants.{Write, Read, Step, Bad, End}
use Rattle.trace_record.specs.Record.{record_at, marked}
use Rattle.trace_record.specs.Writer.{record_bytes, size, recorded, RecordLeaves}
use Rattle.trace_record.specs.Reader.{is_call}

-- a record lies in the recording
pub fits : (s : List ℕ) (k : ℕ) → size (record_at s k) ≤ length s - k
unfolding record_at marked
fits s k =
    let n = length s - k in
    let m = 256 * at s k + at s (k + 1) in
    let P : Record → Type 0 = λ r. size r ≤ n in
    either P (leb (length s) k) (λ _. omega arith)
    (λ _.
    either P (ltb n 3) (λ _. omega arith)
    (λ e.
    let h : 3 ≤ n = ltb-false n 3 e in
    either P (eqb m 0x5057) (λ _. either P (ltb n 4) (λ _. omega arith) (λ f. ltb-false n 4 f))
    (λ _.
    either P (eqb m 0x5052) (λ _. h)
    (λ _. either P (eqb m 0x4C53) (λ _. either P (ltb 2 (at s (k + 2))) (λ _. omega arith) (λ _. h)) (λ _. omega arith)))))

-- a call has three bytes or more, and what is no call none
pub call_long : (x : Record) → is_call x ≡ true → 3 ≤ size x
call_long (Write p v) e = omega arith
call_long (Read p) e = omega arith
call_long (Step a) e = omega arith
call_long Bad e = clash (sym e)
call_long End e = clash (sym e)

pub no_call : (x : Record) → is_call x ≡ false → record_bytes x ≡ []
no_call (Write p v) e = clash e
no_call (Read p) e = clash e
no_call (Step a) e = clash e
no_call Bad e = refl
no_call End e = refl

-- the room from place k on, in two ways
pub no_room : (n k c : ℕ) → n < k → false ≡ leb (k + c) n
no_room n k c h = sym (lt-leb (k + c) n (omega arith))

pub room_is : (n k c : ℕ) → k ≤ n → leb c (n - k) ≡ leb (k + c) n
room_is n k c h =
    split (leb c (n - k))
    (λ t. t ∙ sym (le-leb (k + c) n (omega (arith, leb-true c (n - k) t))))
    (λ t. t ∙ sym (lt-leb (k + c) n (omega (arith, leb-false c (n - k) t))))

-- the bytes of a record, of the four that have them in front
module _ (x : Record) {c : ℕ} (count : c ≡ size x) (l : List ℕ) (e : take (size x) l ≡ record_bytes x) where
  bytes_are : take c l ≡ record_bytes x
  bytes_are = ap (λ (n : ℕ). take n l) count ∙ e

  pub bytes_count : c ≡ length (take c l)
  bytes_count = count ∙ sym (ap length bytes_are)

-- ---- what the writer leaves, without room and with it
module _ (s : List ℕ) (k : ℕ) (x : Record) {c : ℕ} {b : Bool} (count : c ≡ size x) (room : b ≡ leb (k + c) (length s)) where
  pub room_for : b ≡ true → (l : List ℕ) → take (size x) l ≡ record_bytes x → k + length (take c l) ≤ length s
  room_for t l e = let h = leb-true (k + c) (length s) (sym room ∙ t) in omega (arith, bytes_count x count l e)

  too_long_lem : b ≡ false → ltb (length s) (k + size x) ≡ true
  too_long_lem t = let h = leb-false (k + c) (length s) (sym room ∙ t) in lt-ltb (length s) (k + size x) (omega arith)

  pub left_full : b ≡ false → RecordLeaves s k x (Err RecordRoom) s
  unfolding recorded
  left_full t = let e = too_long_lem t in record { answer = simp e; recording = simp e }

  pub left_stored :
      b ≡ true → (l : List ℕ) → take (size x) l ≡ record_bytes x → {s' : List ℕ} → s' ≡ written s k (take c l)
      → RecordLeaves s k x (Ok c) s'
  unfolding recorded
  left_stored t l f q =
      let h = leb-true (k + c) (length s) (sym room ∙ t) in
      let e : ltb (length s) (k + size x) ≡ false = le-ltb (length s) (k + size x) (omega arith) in
      record { answer = simp e (ap Ok count); recording = simp e (q ∙ ap (written s k) (bytes_are x count l f)) }
