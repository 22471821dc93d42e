-- One turn of each loop of a repair, and what the loops come to.
-- Assumes nothing.
use Rattle.std.specs.Prelude.{Err, Ok}
use mathlib.Core.Path.{◌≡◌, refl, sym, ap, ◌∙◌}
use mathlib.Core.Logic.{◌⊎◌, ⊎_elim}
use mathlib.Core.Bool.{Bool, true, false, not}
use mathlib.Core.List.{List, [], ◌∷◌, ◌++◌, append-nil}
use Prim.Native.Nat.{ℕ, zero, suc, ◌+◌, ◌≤◌, ◌<◌}
use native.Mathlib.Numerals.{add-one}
use native.Mathlib.Omega.{arith}
use borrow.Author.Tests.{eq-eqb, eqb-true, ne_eqb, leb-true, lt-ltb, le-ltb}
use lib.Dec.{eqb, leb}
use lib.ListN.{length, take, set, length-append}
use lib.Seq.{paste, paste-zero, get_or-take}
use Rattle.laws.specs.Bits.{any}
use Rattle.laws.specs.Lists.{at, written}
use Rattle.std.specs.Bool.{Decides}
use Rattle.std.specs.Cmp.Lexicographic.{pointwise}
use Rattle.std.proofs.lemmas.Bool.Decides.{same_from_decides, Decides-eqb}
use Rattle.std.proofs.lemmas.List.{ext_get_or}
use Rattle.std.proofs.lemmas.Slice.Eq.{slice_eq-Decides}
use Rattle.laws.proofs.Any.{any_false, any_none}
use Rattle.laws.proofs.Lists.{fill_step, filled_whole, written_on, written_whole, length-written}
use Rattle.laws.proofs.Tables.{length-table, get_d_table}
use Rattle.laws.proofs.Tests.{either}
use Rattle.colour.specs.Colour.{colours_of}
use Rattle.colour.proofs.Laws.{length_colours}
use Rattle.refusal.specs.declared.Refusal.TheVariants.{BlockMalformed, ListLength}
use Rattle.vdp.specs.Refusals.{size}
use Rattle.fields.specs.Fields.{chosen_from}
use Rattle.block_parts.proofs.Copies.{length-colours_from}
use Rattle.block.specs.Block.{sized, state_of}
use Rattle.block_repair.specs.Repair.{within, matching, mended_at, mended, differing, changes, RepairLeaves}

-- ---- the address
pub within_low : (h x : ℕ) → within h x ≤ h
within_low h x = either (λ (y : ℕ). y ≤ h) (leb x h) (λ t. leb-true x h t) (λ _. omega arith)

pub palette_size_lem : (x : ℕ) → x ≡ 2 → 64 ≡ size (chosen_from x)
palette_size_lem x e = sym (ap (λ (y : ℕ). size (chosen_from y)) e)

pub video_size : (x : ℕ) → x ≤ 2 → (x ≡ 2 → ⊥) → 16384 ≡ size (chosen_from x)
video_size zero h n = refl
video_size (suc zero) h n = refl
video_size (suc (suc zero)) h n = absurd (n refl)
video_size (suc (suc (suc x))) h n = absurd (omega arith)

-- ---- the colours
not_not : (a : Bool) → not a ≡ true → a ≡ false
not_not false e = refl
not_not true e = sym e

not_false : (a : Bool) → not a ≡ false → a ≡ true
not_false true e = refl
not_false false e = sym e

matching-Decides : (b : List ℕ) → Decides (matching b) ((state_of b).color_cache ≡ colours_of (state_of b).cram)
unfolding matching state_of
matching-Decides b =
    let cache : List ℕ = (state_of b).color_cache in
    let made : List ℕ = colours_of (state_of b).cram in
    let f : ℕ → Bool = λ i. not (eqb (at cache i) (at made i)) in
    let n : length cache ≡ 32 = length-colours_from 91 b in
    let m : length made ≡ 32 = length_colours (state_of b).cram in (
      (λ t. ext_get_or 0 cache made (n ∙ sym m)
          (λ i h. eqb-true (at cache i) (at made i) (not_false (eqb (at cache i) (at made i)) (any_false 32 f (not_not (any 32 f) t) i (omega arith))))),
      (λ e. ap not (any_none 32 f (λ i h. ap not (eq-eqb (at cache i) (at made i) (ap (λ (l : List ℕ). at l i) e))))),
    )

pub matches : (b : List ℕ) {r : Bool} {cache made : List ℕ} → cache ≡ (state_of b).color_cache → made ≡ colours_of (state_of b).cram
    → r ≡ pointwise eqb cache made → r ≡ matching b
matches b {r} {cache} {made} ec em e =
    same_from_decides r (matching b) (slice_eq-Decides Decides-eqb _ _ r (rw (ec, em) at e)) (matching-Decides b)

-- ---- the block and the list, one offset at a time
pub length-mended : (b : List ℕ) → length (mended b) ≡ length b
unfolding mended
length-mended b = length-table (length b) (mended_at b)

pub at_mended : (b : List ℕ) (k : ℕ) → k < length b → at (mended b) k ≡ mended_at b k
unfolding mended
at_mended b k h = get_d_table (length b) (mended_at b) k h

module _ (b l : List ℕ) where
  abbrev up_to : ℕ → List ℕ
  up_to k = differing k (at b) (mended_at b)

  pub count_low : (k : ℕ) → length (up_to k) ≤ k
  unfolding differing
  count_low zero = omega arith
  count_low (suc k) =
      either (λ (x : List ℕ). length (up_to k ++ x) ≤ suc k) (eqb (at b k) (mended_at b k))
      (λ _. rw (append-nil (up_to k)) (omega (arith, count_low k)))
      (λ _. simp length-append (omega (arith, count_low k)))

  pub block_more :
      (k : ℕ) {b' : List ℕ} {v : ℕ} → k < length b → v ≡ mended_at b k → b' ≡ paste b 0 (mended b) k → set b' k v ≡ paste b 0 (mended b) (k + 1)
  block_more k h e p = fill_step b 0 (mended b) k (omega arith) (rw (length-mended b) h) (omega arith) (e ∙ sym (at_mended b k h)) p

  pub block_whole : (k : ℕ) {b' : List ℕ} → k ≡ length b → b' ≡ paste b 0 (mended b) k → b' ≡ mended b
  block_whole k e p = p ∙ filled_whole b (mended b) (length b) refl (length-mended b) e

  -- a byte that changes is put behind those before it, one that stays is not
  module _ (k n : ℕ) {l' : List ℕ} (room : length b ≤ length l) (h : k < length b) (en : n ≡ length (up_to k)) (el : l' ≡ written l 0 (up_to k)) where
    long : length l' ≡ length l
    long = ap length el ∙ length-written l 0 (up_to k) (omega (arith, count_low k))

    one_more : set l' n k ≡ written l' n (k ∷ [])
    one_more =
        fill_step l' n (k ∷ []) 0 (omega (arith, long, count_low k)) (omega arith) (omega arith) refl (paste-zero l' n (k ∷ []))
        ∙ written_whole l' n (k ∷ []) refl

    pub changed : (at b k ≡ mended_at b k → ⊥) → (set l' n k ≡ written l 0 (up_to (k + 1))) × (n + 1 ≡ length (up_to (k + 1)))
    unfolding differing
    changed ne =
        let t = ne_eqb (at b k) (mended_at b k) ne in (
          one_more
              ∙ ap (λ (x : List ℕ). written x n (k ∷ [])) el
              ∙ written_on l 0 (up_to k) (k ∷ []) (omega (arith, en)) (omega (arith, count_low k))
              ∙ sym (rw (add-one k, t)),
          rw (add-one k, t) (simp length-append (omega (arith, en))),
        )

    pub stayed : at b k ≡ mended_at b k → (l' ≡ written l 0 (up_to (k + 1))) × (n ≡ length (up_to (k + 1)))
    unfolding differing
    stayed e =
        let t = eq-eqb (at b k) (mended_at b k) e in
        (rw (add-one k, t, append-nil (up_to k)) el, rw (add-one k, t, append-nil (up_to k)) en)

    -- what a turn leaves of the list, by which way it went
    pub turned :
        {l'' : List ℕ} {n'' v w : ℕ} → w ≡ at b k → v ≡ mended_at b k →
        ((v ≡ w → ⊥) × (l'' ≡ set l' n k) × (n'' ≡ n + 1)) ⊎ ((v ≡ w) × (l'' ≡ l') × (n'' ≡ n)) →
        (l'' ≡ written l 0 (up_to (k + 1))) × (n'' ≡ length (up_to (k + 1)))
    turned ew ev came =
        ⊎_elim
        (λ a. let t = changed (λ e. a.0 (ev ∙ sym e ∙ sym ew)) in (a.1 ∙ t.0, a.2 ∙ t.1))
        (λ a. let t = stayed (sym ew ∙ sym a.0 ∙ ev) in (a.1 ∙ t.0, a.2 ∙ t.1))
        came

-- a byte of the copy
pub copy_at : (b w : List ℕ) (n k : ℕ) → take n w ≡ b → k < n → at w k ≡ at b k
copy_at b w n k e h = sym (get_or-take n w k 0 h) ∙ ap (λ (x : List ℕ). at x k) e

-- ---- the call
module _ (b l : List ℕ) where
  pub ten : sized (length b) ≡ false → RepairLeaves b l (Err BlockMalformed) b l
  ten h = record { answer = sym (rw h); block = sym (rw h); list = sym (rw h) }

  pub seventeen : sized (length b) ≡ true → length l < 220 → RepairLeaves b l (Err ListLength) b l
  seventeen h s = let t = lt-ltb (length l) 220 s in record { answer = sym (rw (h, t)); block = sym (rw (h, t)); list = sym (rw (h, t)) }

  pub done :
      sized (length b) ≡ true → 220 ≤ length l → {n : ℕ} {b' l' : List ℕ} → n ≡ length (changes b) → b' ≡ mended b → l' ≡ written l 0 (changes b)
      → RepairLeaves b l (Ok n) b' l'
  done h s f g i =
      let t = le-ltb (length l) 220 s in
      record { answer = ap Ok f ∙ sym (rw (h, t)); block = g ∙ sym (rw (h, t)); list = i ∙ sym (rw (h, t)) }
