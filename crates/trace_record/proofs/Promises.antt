-- What is written reads back, and what is read is written again.
-- Assumes nothing.
use mathlib.Core.Path.{◌≡◌, refl, sym, ap, ◌∙◌}
use mathlib.Core.Bool.{Bool, true, false}
use mathlib.Core.List.{List, [], ◌∷◌, ◌++◌, append_assoc, append-nil}
use Prim.Native.Nat.{ℕ, zero, suc, ◌+◌, ◌-◌, ◌*◌, ◌<◌, ◌≤◌}
use native.Mathlib.Nat.{add-zero}
use native.Mathlib.Decide.{dec_lt}
use native.Mathlib.Omega.{arith}
use borrow.Author.Tests.{ltb-false, leb-true, eqb-true, eqb-false, le-ltb, le-leb, lt-leb}
use lib.Dec.{ltb, leb, eqb, lit≤}
use lib.ListN.{length, take, drop, length-append, drop_of_length-le, get_or-eq_default}
use lib.Seq.{length-take-le, take_at, drop-cons, get_or-take}
use Rattle.laws.specs.Lists.{at, written}
use Rattle.laws.proofs.Lists.{length-written, written_nil, written_on}
use Rattle.laws.proofs.Parts.{at_past}
use Rattle.laws.proofs.Tests.{either, split, clash, both}
use Rattle.picture.specs.declared.RenderArea.{RenderArea}
use Rattle.picture.specs.declared.RenderArea.TheVariants.{VisibleOnly, EffectiveArea, TrueEdges}
use Rattle.picture.specs.Area.{area_from}
use Rattle.trace_record.specs.declared.Record.{Record}
use Rattle.trace_record.specs.declared.Record.TheVariants.{Write, Read, Step, Bad, End}
use Rattle.trace_record.specs.Record.{record_at, marked}
use Rattle.trace_record.specs.Writer.{area_number, record_bytes, size, recorded}
use Rattle.trace_record.specs.Reader.{is_call, past, handed, place, records, stop}
use Rattle.trace_record.specs.Promises.{calls, all_bytes, recorded_all, NoBad, WrittenReads, ReadWrites, Promises}
use Rattle.trace_record.proofs.Records.{call_long, no_call}

-- ---- a record that stands behind the bytes p
module _ (p l : List ℕ) where
  here : (i : ℕ) → at (p ++ l) (length p + i) ≡ at l i
  here i = at_past p l (length p) i refl

  start : at (p ++ l) (length p) ≡ at l 0
  start = ap (at (p ++ l)) (sym (add-zero (length p))) ∙ here 0

  left : length (p ++ l) - length p ≡ length l
  left = simp length-append (omega arith)

  -- by its mark
  marked_here : 3 ≤ length l → record_at (p ++ l) (length p) ≡ marked (p ++ l) (length p) (length l) (256 * at l 0 + at l 1)
  unfolding record_at
  marked_here h =
      let e : leb (length (p ++ l)) (length p) ≡ false = lt-leb (length (p ++ l)) (length p) (omega (arith, length-append p l)) in
      let f : ltb (length l) 3 ≡ false = le-ltb (length l) 3 h in
      rw (e, left, f, start, here 1)

-- the area of a step, there and back
area_there : (a : RenderArea) → ltb 2 (area_number a) ≡ false
area_there VisibleOnly = refl
area_there EffectiveArea = refl
area_there TrueEdges = refl

area_back : (a : RenderArea) → area_from (area_number a) ≡ a
area_back VisibleOnly = refl
area_back EffectiveArea = refl
area_back TrueEdges = refl

area_again : (n : ℕ) → ltb 2 n ≡ false → area_number (area_from n) ≡ n
area_again n e =
    split (eqb n 0) (λ t. rw t (sym (eqb-true n 0 t)))
    (λ t. split (eqb n 1) (λ u. rw (t, u) (sym (eqb-true n 1 u))) (λ u. rw (t, u) (omega (arith, ltb-false 2 n e, eqb-false n 0 t, eqb-false n 1 u))))

pub reads_here : (p q : List ℕ) (x : Record) → is_call x ≡ true → record_at (p ++ (record_bytes x ++ q)) (length p) ≡ x
unfolding marked
reads_here p q (Write port value) c =
    let l : List ℕ = 0x50 ∷ 0x57 ∷ port ∷ value ∷ q in
    let f : ltb (length l) 4 ≡ false = le-ltb (length l) 4 (omega arith) in
    marked_here p l (omega arith) ∙ rw (f, here p l 2, here p l 3)
reads_here p q (Read port) c =
    let l : List ℕ = 0x50 ∷ 0x52 ∷ port ∷ q in
    marked_here p l (omega arith) ∙ rw (here p l 2)
reads_here p q (Step area) c =
    let l : List ℕ = 0x4C ∷ 0x53 ∷ area_number area ∷ q in
    marked_here p l (omega arith) ∙ rw (here p l 2, area_there area, area_back area)
reads_here p q Bad c = clash (sym c)
reads_here p q End c = clash (sym c)

-- ---- where a reader stays
pub end_at : (s : List ℕ) (k : ℕ) → length s ≤ k → record_at s k ≡ End
unfolding record_at
end_at s k h = rw (le-leb (length s) k h)

past_stays : (s : List ℕ) (k : ℕ) → is_call (record_at s k) ≡ false → past s k ≡ k
unfolding past
past_stays s k e = rw (no_call (record_at s k) e) (add-zero k)

pub place_stays : (n : ℕ) (s : List ℕ) (k : ℕ) → is_call (record_at s k) ≡ false → place n s k ≡ k
unfolding place
place_stays zero s k e = refl
place_stays (suc n) s k e = ap (place n s) (past_stays s k e) ∙ place_stays n s k e

-- the end is at the end
abbrev is_end : Record → Bool
is_end End = true
is_end Bad = false
is_end (Write p v) = false
is_end (Read p) = false
is_end (Step a) = false

marked_on : (s : List ℕ) (k n m : ℕ) → is_end (marked s k n m) ≡ false
unfolding marked
marked_on s k n m =
    let P : Record → Type 0 = λ r. is_end r ≡ false in
    either P (eqb m 0x5057) (λ _. either P (ltb n 4) (λ _. refl) (λ _. refl))
    (λ _.
    either P (eqb m 0x5052) (λ _. refl)
    (λ _. either P (eqb m 0x4C53) (λ _. either P (ltb 2 (at s (k + 2))) (λ _. refl) (λ _. refl)) (λ _. refl)))

not_yet : (s : List ℕ) (k : ℕ) → leb (length s) k ≡ false → is_end (record_at s k) ≡ false
unfolding record_at
not_yet s k t =
    rw t (either (λ (r : Record). is_end r ≡ false) (ltb (length s - k) 3) (λ _. refl)
    (λ _. marked_on s k (length s - k) (256 * at s k + at s (k + 1))))

ended : (s : List ℕ) (k : ℕ) → record_at s k ≡ End → length s ≤ k
ended s k e = split (leb (length s) k) (λ t. leb-true (length s) k t) (λ t. clash (sym (ap is_end e) ∙ not_yet s k t))

-- ---- what is written reads back
pub reads_back :
    (xs : List Record) (p : List ℕ) (n : ℕ) → calls xs ≡ true → length xs ≤ n
    → (handed n (p ++ all_bytes xs) (length p) ≡ xs) × (place n (p ++ all_bytes xs) (length p) ≡ length (p ++ all_bytes xs))
unfolding handed place past
reads_back [] p zero c h = (refl, sym (ap length (append-nil p)))
reads_back [] p (suc n) c h =
    let s = p ++ [] in
    let l : length s ≡ length p = ap length (append-nil p) in
    let e = end_at s (length p) (omega arith) in
    (rw e, place_stays (suc n) s (length p) (ap is_call e) ∙ sym l)
reads_back (x ∷ xs) p zero c h = absurd (omega arith)
reads_back (x ∷ xs) p (suc n) c h =
    let t = both (is_call x) (calls xs) c in
    let r = reads_here p (all_bytes xs) x t.0 in
    let e : p ++ (record_bytes x ++ all_bytes xs) ≡ (p ++ record_bytes x) ++ all_bytes xs = sym (append_assoc p (record_bytes x) (all_bytes xs)) in
    let f : length p + size x ≡ length (p ++ record_bytes x) = sym (length-append p (record_bytes x)) in
    let i = reads_back xs (p ++ record_bytes x) n t.1 (omega arith) in (
      rw (r, t.0) ((λ j. x ∷ handed n (e j) (f j)) ∙ ap (λ (l : List Record). x ∷ l) i.0),
      rw r ((λ j. place n (e j) (f j)) ∙ i.1 ∙ ap length (sym e)),
    )

-- ---- what is read is written again
-- bytes of a list, one by one
cut : (s : List ℕ) (k : ℕ) → k < length s → drop k s ≡ at s k ∷ drop (k + 1) s
cut s k h =
    let e : suc k ≡ k + 1 = omega arith in
    drop-cons s k 0 h ∙ ap (λ (n : ℕ). at s k ∷ drop n s) e

pub cut_3 : (s : List ℕ) (k : ℕ) → 3 ≤ length s - k → drop k s ≡ at s k ∷ at s (k + 1) ∷ at s (k + 2) ∷ drop (k + 3) s
cut_3 s k h =
    let e : k + 1 + 1 ≡ k + 2 = omega arith in
    let f : k + 2 + 1 ≡ k + 3 = omega arith in
    cut s k (omega arith)
    ∙ ap (λ (l : List ℕ). at s k ∷ l) (cut s (k + 1) (omega arith) ∙ ap (λ (n : ℕ). at s (k + 1) ∷ drop n s) e)
    ∙ ap (λ (l : List ℕ). at s k ∷ at s (k + 1) ∷ l) (cut s (k + 2) (omega arith) ∙ ap (λ (n : ℕ). at s (k + 2) ∷ drop n s) f)

cut_4 : (s : List ℕ) (k : ℕ) → 4 ≤ length s - k → drop k s ≡ at s k ∷ at s (k + 1) ∷ at s (k + 2) ∷ at s (k + 3) ∷ drop (k + 4) s
cut_4 s k h =
    let g : k + 3 + 1 ≡ k + 4 = omega arith in
    cut_3 s k (omega arith)
    ∙ ap (λ (l : List ℕ). at s k ∷ at s (k + 1) ∷ at s (k + 2) ∷ l) (cut s (k + 3) (omega arith) ∙ ap (λ (n : ℕ). at s (k + 3) ∷ drop n s) g)

-- the two bytes of a mark
high : (a b h l : ℕ) → 256 * a + b ≡ 256 * h + l → b < 256 → l < 256 → h ≡ a
high a b h l e p q = omega arith

low : (a b h l : ℕ) → 256 * a + b ≡ 256 * h + l → b < 256 → l < 256 → l ≡ b
low a b h l e p q = omega arith

module _ (s : List ℕ) (bytes : (i : ℕ) → at s i < 256) where
  mark : (k h l : ℕ) → eqb (256 * at s k + at s (k + 1)) (256 * h + l) ≡ true → l < 256 → (h ≡ at s k) × (l ≡ at s (k + 1))
  mark k h l t d =
      let f = eqb-true (256 * at s k + at s (k + 1)) (256 * h + l) t in
      (high (at s k) (at s (k + 1)) h l f (bytes (k + 1)) d, low (at s k) (at s (k + 1)) h l f (bytes (k + 1)) d)

  -- the bytes of a call that was read, and those behind it
  piece : (k : ℕ) → is_call (record_at s k) ≡ true → record_bytes (record_at s k) ++ drop (k + size (record_at s k)) s ≡ drop k s
  unfolding record_at marked
  piece k =
      let n = length s - k in
      let m = 256 * at s k + at s (k + 1) in
      let P : Record → Type 0 = λ r. is_call r ≡ true → record_bytes r ++ drop (k + size r) s ≡ drop k s in
      either P (leb (length s) k) (λ _ c. clash (sym c))
      (λ _.
      either P (ltb n 3) (λ _ c. clash (sym c))
      (λ e.
      let h = ltb-false n 3 e in
      either P (eqb m 0x5057)
      (λ t.
      either P (ltb n 4) (λ _ c. clash (sym c))
      (λ f c.
      let q = mark k 0x50 0x57 t (omega arith) in
      (λ i. q.0 i ∷ q.1 i ∷ at s (k + 2) ∷ at s (k + 3) ∷ drop (k + 4) s) ∙ sym (cut_4 s k (ltb-false n 4 f))))
      (λ _.
      either P (eqb m 0x5052)
      (λ t c.
      let q = mark k 0x50 0x52 t (omega arith) in
      (λ i. q.0 i ∷ q.1 i ∷ at s (k + 2) ∷ drop (k + 3) s) ∙ sym (cut_3 s k h))
      (λ _.
      either P (eqb m 0x4C53)
      (λ t.
      either P (ltb 2 (at s (k + 2))) (λ _ c. clash (sym c))
      (λ f c.
      let q = mark k 0x4C 0x53 t (omega arith) in
      (λ i. q.0 i ∷ q.1 i ∷ area_again (at s (k + 2)) f i ∷ drop (k + 3) s) ∙ sym (cut_3 s k h)))
      (λ _ c. clash (sym c))))))

  again_from : (n k : ℕ) → length s - k ≤ n → record_at s (place n s k) ≡ End → all_bytes (handed n s k) ≡ drop k s
  unfolding handed place past
  again_from zero k h e = let z : length s ≤ k = omega arith in sym (drop_of_length-le s z)
  again_from (suc n) k h e =
      split (is_call (record_at s k))
      (λ t.
      let g = call_long (record_at s k) t in
      rw t
      (ap (λ (l : List ℕ). record_bytes (record_at s k) ++ l) (again_from n (k + size (record_at s k)) (omega arith) e) ∙ piece k t))
      (λ t.
      let q : record_at s k ≡ End = ap (record_at s) (sym (place_stays (suc n) s k t)) ∙ e in
      rw t (sym (drop_of_length-le s (ended s k q))))

  pub again : NoBad s → all_bytes (records s) ≡ s
  unfolding records stop
  again e = again_from (length s) 0 (omega arith) e

-- ---- by the writer: records that fit are their bytes, one after another
pub written_all : (xs : List Record) (b : List ℕ) (k : ℕ) → k + length (all_bytes xs) ≤ length b → recorded_all b k xs ≡ written b k (all_bytes xs)
unfolding recorded
written_all [] b k h = sym (written_nil b k)
written_all (x ∷ xs) b k h =
    let l = length-append (record_bytes x) (all_bytes xs) in
    let r : k + size x ≤ length b = omega arith in
    let e : ltb (length b) (k + size x) ≡ false = le-ltb (length b) (k + size x) r in
    let f : recorded b k x ≡ written b k (record_bytes x) = rw e in
    let g = length-written b k (record_bytes x) r in
    ap (λ (b' : List ℕ). recorded_all b' (k + size x) xs) f
    ∙ written_all xs (written b k (record_bytes x)) (k + size x) (omega arith)
    ∙ written_on b k (record_bytes x) (all_bytes xs) refl r

-- lists of records, one behind the other
all_append : (xs ys : List Record) → all_bytes xs ++ all_bytes ys ≡ all_bytes (xs ++ ys)
all_append [] ys = refl
all_append (x ∷ xs) ys = append_assoc (record_bytes x) (all_bytes xs) (all_bytes ys) ∙ ap (λ (l : List ℕ). record_bytes x ++ l) (all_append xs ys)

calls_append : (xs ys : List Record) → calls xs ≡ true → calls ys ≡ true → calls (xs ++ ys) ≡ true
calls_append [] ys c d = d
calls_append (x ∷ xs) ys c d = let t = both (is_call x) (calls xs) c in rw t.0 (calls_append xs ys t.1 d)

calls_handed : (n : ℕ) (s : List ℕ) (k : ℕ) → calls (handed n s k) ≡ true
unfolding handed
calls_handed zero s k = refl
calls_handed (suc n) s k =
    either (λ (xs : List Record). calls xs ≡ true) (is_call (record_at s k)) (λ t. rw t (calls_handed n s (past s k))) (λ _. refl)

all_long : (xs : List Record) → calls xs ≡ true → length xs ≤ length (all_bytes xs)
all_long [] c = omega arith
all_long (x ∷ xs) c =
    let t = both (is_call x) (calls xs) c in
    let l = length-append (record_bytes x) (all_bytes xs) in
    omega (arith, all_long xs t.1, call_long x t.0)

below : (b : List ℕ) (k : ℕ) → ((i : ℕ) → at b i < 256) → (i : ℕ) → at (take k b) i < 256
below b k h i =
    elim (dec_lt i k) [
      | yes l ↦ rw (get_or-take k b i 0 l) (h i)
      | no l ↦ let h : length (take k b) ≤ i = omega (arith, short k b) in rw (get_or-eq_default (take k b) 0 h) (lit≤ tt)
    ]
  where
    short : (k : ℕ) (b : List ℕ) → length (take k b) ≤ k
    short zero b = omega arith
    short (suc k) [] = omega arith
    short (suc k) (x ∷ b) = let l = short k b in omega arith

-- records, read from their own bytes
pub own_bytes : (xs : List Record) {s : List ℕ} → s ≡ all_bytes xs → calls xs ≡ true → (records s ≡ xs) × (stop s ≡ length s)
unfolding records stop
own_bytes xs {s} e c =
    let n = length (all_bytes xs) in
    let r = reads_back xs [] n c (all_long xs c) in
    (ap (λ (l : List ℕ). handed (length l) l 0) e ∙ r.0, ap (λ (l : List ℕ). place (length l) l 0) e ∙ r.1 ∙ ap length (sym e))

kept : (p : List ℕ) → calls (records p) ≡ true
unfolding records
kept p = calls_handed (length p) p 0

pub written_reads : WrittenReads
unfolding written
written_reads b k xs bytes h good c =
    let n = length (all_bytes xs) in
    let p = take k b in
    let l : length p ≡ k = length-take-le k b (omega arith) in
    let m : length (p ++ all_bytes xs) ≡ k + n = length-append p (all_bytes xs) ∙ ap (λ (j : ℕ). j + n) l in
    let e : take (k + n) (recorded_all b k xs) ≡ p ++ all_bytes xs =
    ap (take (k + n)) (written_all xs b k h) ∙ take_at (p ++ all_bytes xs) (drop (k + n) b) (k + n) m in
    let f : p ++ all_bytes xs ≡ all_bytes (records p ++ xs) =
    ap (λ (q : List ℕ). q ++ all_bytes xs) (sym (again p (below b k bytes) good)) ∙ all_append (records p) xs in
    let r = own_bytes (records p ++ xs) (e ∙ f) (calls_append (records p) xs (kept p) c) in
    let s = take (k + n) (recorded_all b k xs) in
    let t : length s ≤ stop s = omega (arith, r.1) in
    (r.0, r.1, end_at s (stop s) t)

pub read_writes : ReadWrites
unfolding written
read_writes s b bytes good l =
    let e = again s bytes good in
    let n : length (all_bytes (records s)) ≡ length s = ap length e in
    let h : 0 + length (all_bytes (records s)) ≤ length b = omega arith in
    let f : length b ≤ 0 + length s = omega arith in
    written_all (records s) b 0 h
    ∙ ap (written b 0) e
    ∙ ap (λ (x : List ℕ). s ++ x) (drop_of_length-le b f)
    ∙ append-nil s

pub promises : Promises
promises = record { written_reads = written_reads; read_writes = read_writes }
