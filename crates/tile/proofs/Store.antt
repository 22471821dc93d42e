-- A pixel that is stored again as it was, and eight that are stored by fours, all of them or those that are chosen.
-- Assumes nothing.
use mathlib.Core.Path.{◌≡◌, refl, sym, ap, ◌∙◌}
use mathlib.Core.Bool.{Bool, true, false, cond}
use mathlib.Core.List.{List}
use Prim.Native.Nat.{ℕ, zero, suc, ◌+◌, ◌*◌, ◌<◌, ◌≤◌}
use native.Mathlib.Nat.{add-zero, zero-add, add_assoc}
use native.Mathlib.Omega.{arith}
use lib.ListN.{length}
use lib.Seq.{set-get_or, paste-zero}
use lib.Dec.{lit<}
use borrow.Rule.Slice.PartMut.{put_mid}
use Rattle.std.specs.Int.{w32, to_le_bytes}
use Rattle.std.proofs.lemmas.Slice.{put_mid-paste}
use Rattle.laws.proofs.Lists.{fill_step}
use Rattle.laws.specs.Lists.{at}
use Rattle.laws.specs.Bits.{bit}
use Rattle.laws.specs.Paint.{put, put_if, painted, overlaid, of_bytes, four_at}
use Rattle.laws.proofs.Paint.{painted_step, painted_cong, painted_join, put_other}
use Rattle.laws.proofs.Bytes.{byte_0, byte_1, byte_2, byte_3}
use Rattle.tile.specs.Fours.{fours, one_of, chosen_of}
use Rattle.tile.specs.declared.Four.{Four}

-- the four bytes of a colour in the place of those of pixel x
pub stored_is :
    (row : List ℕ) (x c : ℕ) {ys : List ℕ} {n : ℕ} → n ≡ 4 → x * 4 + 4 ≤ length row → ys ≡ to_le_bytes w32 c → put_mid (x * 4) n row ys ≡ put row x c
unfolding put
stored_is row x c {ys} e h q =
    let k = x * 4 in
    let s : List ℕ = to_le_bytes w32 c in
    let p1 = fill_step row k s 0 (omega arith) (lit< tt) (sym (add-zero k)) refl (paste-zero row k s) in
    let p2 = fill_step row k s 1 (omega arith) (lit< tt) refl refl p1 in
    let p3 = fill_step row k s 2 (omega arith) (lit< tt) refl refl p2 in
    let p4 = fill_step row k s 3 (omega arith) (lit< tt) refl refl p3 in
    put_mid-paste k _ row ys s 4 q (sym e) refl ∙ sym p4

put_same : (row : List ℕ) (x : ℕ) → ((k : ℕ) → x * 4 ≤ k → at row k < 256) → put row x
    (of_bytes (at row (x * 4)) (at row (x * 4 + 1)) (at row (x * 4 + 2)) (at row (x * 4 + 3))) ≡ row
unfolding put
put_same row x h =
    let r = at row (x * 4) in
    let g = at row (x * 4 + 1) in
    let b = at row (x * 4 + 2) in
    let a = at row (x * 4 + 3) in
    let hr = h (x * 4) (omega arith) in
    let hg = h (x * 4 + 1) (omega arith) in
    let hb = h (x * 4 + 2) (omega arith) in
    let ha = h (x * 4 + 3) (omega arith) in
    rw (
      byte_0 r g b a hr hg hb ha,
      byte_1 r g b a hr hg hb ha,
      byte_2 r g b a hr hg hb ha,
      byte_3 r g b a hr hg hb ha,
      set-get_or,
      set-get_or,
      set-get_or,
      set-get_or,
    )

choose_is : (shown : Bool) (row : List ℕ) (x c : ℕ) {old v : ℕ} → ((k : ℕ) → x * 4 ≤ k → at row k < 256)
    → old ≡ of_bytes (at row (x * 4)) (at row (x * 4 + 1)) (at row (x * 4 + 2)) (at row (x * 4 + 3)) → v ≡ cond shown c old → put row x v ≡ put_if
    shown row x c
choose_is true row x c h e q = ap (put row x) q
choose_is false row x c h e q = ap (put row x) (q ∙ e) ∙ put_same row x h

-- ---- four pixels, one after the other, and four more
pub four_set :
    (row : List ℕ) (x : ℕ) (v : Four) {r0 r1 r2 r3 : List ℕ}
    → r0 ≡ put row x v.a → r1 ≡ put r0 (x + 1) v.b → r2 ≡ put r1 (x + 2) v.c → r3 ≡ put r2 (x + 3) v.d
    → r3 ≡ painted row x 4 (one_of v)
unfolding painted one_of
four_set row x v p0 p1 p2 p3 =
    let z : x ≡ x + 0 = omega arith in
    let e1 = painted_step row x 0 (one_of v) refl refl (p0 ∙ ap (λ (k : ℕ). put row k v.a) z) in
    let e2 = painted_step row x 1 (one_of v) e1 refl p1 in
    let e3 = painted_step row x 2 (one_of v) e2 refl p2 in
    painted_step row x 3 (one_of v) e3 refl p3

one_of_lem : (f : ℕ → ℕ) (k : ℕ) {v : Four} → v ≡ fours f k → (i : ℕ) → i < 4 → one_of v i ≡ f (k + i)
unfolding fours one_of
one_of_lem f k e zero h = ap (λ (v : Four). v.a) e ∙ ap f (sym (add-zero k))
one_of_lem f k e (suc zero) h = ap (λ (v : Four). v.b) e
one_of_lem f k e (suc (suc zero)) h = ap (λ (v : Four). v.c) e
one_of_lem f k e (suc (suc (suc zero))) h = ap (λ (v : Four). v.d) e
one_of_lem f k e (suc (suc (suc (suc i)))) h = absurd (omega arith)

pub eight_set :
    (row : List ℕ) (x : ℕ) (f : ℕ → ℕ) {v w : Four} {r r' : List ℕ}
    → v ≡ fours f 0 → w ≡ fours f 4 → r ≡ painted row x 4 (one_of v) → r' ≡ painted r (x + 4) 4 (one_of w) → r' ≡ painted row x 8 f
eight_set row x f {v} {w} {r} e g p q =
    let left : r ≡ painted row x 4 f = p ∙ painted_cong row x 4 (one_of v) f (λ i h. one_of_lem f 0 e i h ∙ ap f (zero-add i)) in
    q
    ∙ painted_cong r (x + 4) 4 (one_of w) (λ i. f (4 + i)) (one_of_lem f 4 g)
    ∙ ap (λ (l : List ℕ). painted l (x + 4) 4 (λ i. f (4 + i))) left
    ∙ painted_join row x 4 4 f

-- ---- pixels that are chosen: each is the colour, or as the row had it before the first was stored
put_if_past : (t : Bool) (row : List ℕ) (x c k : ℕ) → x * 4 + 4 ≤ k → at (put_if t row x c) k ≡ at row k
put_if_past true row x c k h = put_other row x c k (λ a b. omega arith)
put_if_past false row x c k h = refl

still : (row : List ℕ) (x n : ℕ) (s : ℕ → Bool) (f : ℕ → ℕ) (k : ℕ) → (x + n) * 4 ≤ k → at (overlaid row x n s f) k ≡ at row k
unfolding overlaid
still row x zero s f k h = refl
still row x (suc n) s f k h = put_if_past (s n) (overlaid row x n s f) (x + n) (f n) k (omega arith) ∙ still row x n s f k (omega arith)

chosen_set : (row : List ℕ) (x n : ℕ) (s : ℕ → Bool) (f : ℕ → ℕ) → ((k : ℕ) → at row k < 256)
    → painted row x n (λ i. cond (s i) (f i) (four_at row ((x + i) * 4))) ≡ overlaid row x n s f
unfolding painted overlaid
chosen_set row x zero s f h = refl
chosen_set row x (suc n) s f h =
    let r = overlaid row x n s f in
    let l : (j : ℕ) → (x + n) * 4 ≤ j → at row j ≡ at r j = λ j u. sym (still row x n s f j u) in
    let old : four_at row ((x + n) * 4) ≡ four_at r ((x + n) * 4) =
    rw (l ((x + n) * 4) (omega arith), l ((x + n) * 4 + 1) (omega arith), l ((x + n) * 4 + 2) (omega arith), l ((x + n) * 4 + 3) (omega arith)) in
    ap (λ (o : List ℕ). put o (x + n) (cond (s n) (f n) (four_at row ((x + n) * 4)))) (chosen_set row x n s f h)
    ∙ choose_is (s n) r (x + n) (f n) (λ j u. rw (← l j u) (h j)) old refl

chosen_four : (drawn x k : ℕ) (f g : ℕ → ℕ) {y : ℕ} {new old : Four} → y ≡ x + k → new ≡ fours f k → old ≡ fours g y
    → chosen_of drawn k new old ≡ fours (λ i. cond (bit drawn i) (f i) (g (x + i))) k
unfolding fours chosen_of
chosen_four drawn x k f g e p q = rw (p, q, e, add_assoc x k 1, add_assoc x k 2, add_assoc x k 3)

-- four pixels and four more, of the colours f and those that the row had
pub eight_chosen :
    (row : List ℕ) (x drawn : ℕ) (f : ℕ → ℕ) → ((k : ℕ) → at row k < 256) → {v w o u : Four} {r r' : List ℕ}
    → o ≡ fours (λ i. four_at row (i * 4)) x → u ≡ fours (λ i. four_at row (i * 4)) (x + 4) → v ≡ fours f 0 → w ≡ fours f 4
    → r ≡ painted row x 4 (one_of (chosen_of drawn 0 v o)) → r' ≡ painted r (x + 4) 4 (one_of (chosen_of drawn 4 w u)) → r' ≡ overlaid row x 8 (bit drawn) f
eight_chosen row x drawn f h eo eu ev ew p q =
    let g : ℕ → ℕ = λ i. four_at row (i * 4) in
    eight_set row x (λ i. cond (bit drawn i) (f i) (g (x + i))) (chosen_four drawn x 0 f g (sym (add-zero x)) ev eo) (chosen_four drawn x 4 f g refl ew eu) p
    q
    ∙ chosen_set row x 8 (bit drawn) f h
