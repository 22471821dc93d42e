-- A call of the C face, from what its parts give, on either machine's block.
-- Assumes nothing.
use Rattle.std.specs.Prelude.{Err}
use mathlib.Core.Path.{◌≡◌, refl, sym, ap, ◌∙◌}
use mathlib.Core.Logic.{◌≢◌}
use mathlib.Core.Bool.{Bool, true, false, cond, not, ◌&&◌}
use mathlib.Core.List.{List}
use Prim.Native.Nat.{ℕ, ◌≤◌}
use native.Mathlib.Omega.{arith}
use borrow.Author.Tests.{leb-true, leb-false, le-ltb, lt-ltb}
use lib.Dec.{leb, ltb}
use lib.ListN.{set}
use Rattle.laws.proofs.Tests.{split}
use Rattle.refusal.specs.declared.Refusal.TheVariants.{BlockMalformed, UnknownArea}
use Rattle.refusal.specs.Refusals.{refusal_number, first, Outcome}
use Rattle.front.specs.declared.Front.{Front}
use Rattle.front.specs.Front.{emptied}
use Rattle.front.specs.Lines.{left_behind}
use Rattle.front.proofs.Behind.{left_is}
use Rattle.word.specs.Called.{Called, Leaves, refused, on_device, asked_lines, block_left, LeftBehind}
use Rattle.word.proofs.Words.{number_low, alone}

-- what is left, by a path from it to what the definition says
pub leaves : {c k : Called} → c ≡ k → Leaves k c.word c.block c.lent
leaves p = record { word = ap (λ (x : Called). x.word) p; block = ap (λ (x : Called). x.block) p; lent = ap (λ (x : Called). x.lent) p }

-- the same of what the definition equals
pub along : {c k : Called} {r : ℕ} {b x : List ℕ} → c ≡ k → Leaves c r b x → Leaves k r b x
along p l =
    record {
      word = l.word ∙ ap (λ (x : Called). x.word) p;
      block = l.block ∙ ap (λ (x : Called). x.block) p;
      lent = l.lent ∙ ap (λ (x : Called). x.lent) p;
    }

-- ---- the block is tested first
module _ {D : Type 0} {good : Bool} (d : D) (b x : List ℕ) (call : D → Called) where
  pub ten : {n : ℕ} → good ≡ false → n ≡ refusal_number (Err BlockMalformed) → Leaves (on_device good d b x call) n b x
  ten w en = rw en (leaves (sym (rw w)))

  pub on : good ≡ true → call d ≡ on_device good d b x call
  on w = sym (rw w)

-- ---- and then the area, of a call that asks for one
module _ (good : Bool) (n : ℕ) {r : ℕ} where
  pub asked_first : {later : ℕ} → later ≡ cond (ltb 2 n) 11 0 → r ≡ cond (not good) 10 later → r ≡ refusal_number (first (asked_lines good n))
  asked_first el er = er ∙ rw el
      (split good
      (λ e. split (leb n 2) (λ f. rw (e, f, le-ltb 2 n (leb-true n 2 f))) (λ f. rw (e, f, lt-ltb 2 n (leb-false n 2 f))))
      (λ e. rw e))

  module _ (er : r ≡ refusal_number (first (asked_lines good n))) where
    -- taken: the block is well formed, and the area one of three
    pub asked_both : r ≡ 0 → (good ≡ true) × (n ≤ 2)
    asked_both z =
        split good
        (λ e. split (leb n 2) (λ f. (e, leb-true n 2 f)) (λ f. absurd (let q : ◌≡◌ {A = ℕ} 0 11 = sym z ∙ er ∙ rw (e, f) in omega (arith, q))))
        (λ e. absurd (let q : ◌≡◌ {A = ℕ} 0 10 = sym z ∙ er ∙ rw e in omega (arith, q)))

    -- refused: all unchanged
    pub asked_refused : {D : Type 0} (d : D) (b x : List ℕ) (call : D → Called) → r ≢ 0
        → Leaves (on_device good d b x (λ s. cond (leb n 2) (call s) (refused (Err UnknownArea) b x))) r b x
    asked_refused d b x call z =
        split good
        (λ e. split (leb n 2) (λ f. absurd (z (er ∙ rw (e, f)))) (λ f. rw er (rw (e, f) (leaves refl))))
        (λ e. rw er (rw e (leaves refl)))

-- ---- R2.2 of a front and of the block that it stands in, by its command latch
pub left_block :
    (block : Front → List ℕ) (f : Front) {b : List ℕ} → block f ≡ b → block (emptied f) ≡ set (set b 21 0) 22 0 → (r : Outcome) {n : ℕ} → n ≡ refusal_number r
    → block (left_behind r f) ≡ block_left n b
left_block block f {b} e l r en =
    ap block (left_is r f)
    ∙ split (leb 3 (refusal_number r) && leb (refusal_number r) 7) (λ q. rw q l) (λ q. rw q e)
    ∙ ap (λ (k : ℕ). block_left k b) (sym en)

-- refused before the device is asked: all unchanged
pub whole-refused : (b : List ℕ) (r : Outcome) (x : List ℕ) → b ≡ block_left (refusal_number r) b → LeftBehind b x (refused r b x)
whole-refused b r x e =
    record {
      word = λ _. omega (arith, number_low r);
      block = λ _. e ∙ ap (λ (n : ℕ). block_left n b) (sym (alone r));
      lent = λ _. refl;
    }
