-- The calls on a recording: what they promise of what the crate `record` does, when each is refused, and what is then left.
-- Assumes nothing.
use Rattle.std.specs.Prelude.{Err, Result}
use mathlib.Core.Path.{◌≡◌, refl, sym, ap, subst, ◌∙◌}
use mathlib.Core.Bool.{not}
use mathlib.Core.List.{List, [], ◌∷◌}
use Prim.Native.Nat.{ℕ, ◌+◌, ◌*◌, ◌%◌, ◌≤◌}
use native.Mathlib.Omega.{arith}
use borrow.Author.Tests.{le-leb}
use lib.Dec.{ltb, leb}
use lib.ListN.{length}
use Rattle.laws.specs.Lists.{written}
use Rattle.laws.proofs.Tests.{split}
use Rattle.picture.specs.declared.RenderArea.{RenderArea}
use Rattle.picture.specs.Area.{area_from}
use Rattle.refusal.specs.declared.Refusal.{Refusal}
use Rattle.refusal.specs.declared.Refusal.TheVariants.{UnknownArea}
use Rattle.refusal.specs.Refusals.{refusal_number, line, first, answered}
use Rattle.trace_record.specs.declared.Record.{Record}
use Rattle.trace_record.specs.declared.Record.TheVariants.{Step}
use Rattle.trace_record.specs.Record.{record_at}
use Rattle.trace_record.specs.Writer.{record_bytes, size, record_lines, recorded, RecordLeaves}
use Rattle.face.specs.Face.{Called, Leaves, counted_word}
use Rattle.face.specs.Refused.{refusal_in, LeftBehind}
use Rattle.face.specs.Record.{record_call, record_step_call, record_word, next_call}
use Rattle.face.proofs.Repairs.{lent_under}

-- what a call promises: its word, and what the recording holds
pub record_kept :
    (s : List ℕ) (k : ℕ) (x : Record) {r : Result ℕ Refusal} {n : ℕ} {s' : List ℕ} → RecordLeaves s k x r s' → n ≡ counted_word r
    → Leaves (record_call s k x) n [] s'
unfolding record_call recorded
record_kept s k x {r} p e =
    let ls = record_lines s k x in
    let c : Called = record { word = 256 * size x; block = []; lent = written s k (record_bytes x) } in
    record {
      word = e ∙ ap counted_word p.answer ∙ word_is;
      block = no_block;
      lent = p.recording ∙ lent_under [] s c ls;
    }
  where
    word_is : counted_word (answered (size x) (first (record_lines s k x))) ≡ (record_call s k x).word
    word_is = split (ltb (length s) (k + size x)) (λ t. rw t) (λ t. rw t)

    no_block : [] ≡ (record_call s k x).block
    no_block = split (ltb (length s) (k + size x)) (λ t. rw t) (λ t. rw t)

-- of a step, in an area that there is
pub step_kept :
    (s : List ℕ) (k n : ℕ) {a : RenderArea} {w : ℕ} {s' : List ℕ} → n ≤ 2 → a ≡ area_from n → Leaves (record_call s k (Step a)) w [] s'
    → Leaves (record_step_call s k n) w [] s'
unfolding record_step_call
step_kept s k n {a} {w} {s'} h e l = rw (le-leb n 2 h) (subst (λ (x : RenderArea). Leaves (record_call s k (Step x)) w [] s') e l)

-- what stands at an offset
pub next_is : (s : List ℕ) (k : ℕ) {x y : Record} {n : ℕ} → x ≡ record_at s k → x ≡ y → n ≡ record_word y → n ≡ next_call s k
next_is s k e f g = g ∙ ap record_word (sym f ∙ e)

-- ---- refused by the first line that holds, and by 18 exactly where the record is longer than the room left
pub record_exact : (s : List ℕ) (k : ℕ) (x : Record) → refusal_in (record_call s k x).word ≡ refusal_number (first (record_lines s k x))
unfolding record_call
record_exact s k x = split (ltb (length s) (k + size x)) (λ t. rw t) (λ t. rw t (even (size x)))
  where
    even : (n : ℕ) → (256 * n) % 256 ≡ 0
    even n = omega arith

pub record_step_exact :
    (s : List ℕ) (k n : ℕ) → refusal_in (record_step_call s k n).word ≡ refusal_number
    (first (line (not (leb n 2)) (Err UnknownArea) ∷ record_lines s k (Step (area_from n))))
unfolding record_step_call
record_step_exact s k n = split (leb n 2) (λ t. rw t (record_exact s k (Step (area_from n)))) (λ t. rw t)

-- "recording unchanged"
pub record_behind : (s : List ℕ) (k : ℕ) (x : Record) → LeftBehind [] s (record_call s k x)
unfolding record_call
record_behind s k x =
    let c : Called = record { word = 256 * size x; block = []; lent = written s k (record_bytes x) } in
    split (ltb (length s) (k + size x))
    (λ t. rw t (record { word = λ _. omega arith; block = λ _. refl; lent = λ _. refl }))
    (λ t. rw t (record { word = λ h. absurd (h (even (size x))); block = λ h. absurd (h (even (size x))); lent = λ h. absurd (h (even (size x))) }))
  where
    even : (n : ℕ) → (256 * n) % 256 ≡ 0
    even n = omega arith

pub record_step_behind : (s : List ℕ) (k n : ℕ) → LeftBehind [] s (record_step_call s k n)
unfolding record_step_call
record_step_behind s k n =
    split (leb n 2) (λ t. rw t (record_behind s k (Step (area_from n))))
    (λ t. rw t (record { word = λ _. omega arith; block = λ _. refl; lent = λ _. refl }))
