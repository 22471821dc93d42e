-- The repair of the C face, from what `salvage` gives.
-- Assumes nothing.
use Rattle.std.specs.Prelude.{Result}
use mathlib.Core.Path.{◌≡◌, refl, ap, ◌∙◌}
use mathlib.Core.List.{List, [], ◌∷◌}
use Prim.Native.Nat.{ℕ, ◌*◌}
use lib.Dec.{ltb}
use lib.ListN.{length}
use Rattle.laws.proofs.Tests.{split}
use Rattle.laws.specs.Lists.{written}
use Rattle.refusal.specs.declared.Refusal.{Refusal}
use Rattle.refusal.specs.Refusals.{Line, first, under, answered}
use Rattle.block.specs.Block.{sized}
use Rattle.block_repair.specs.Repair.{mended, changes, repair_lines, RepairLeaves}
use Rattle.face.specs.Face.{Called, Leaves, refused, counted_word}
use Rattle.face.specs.Repair.{repair_call}

-- a call under a table of refusals, field by field
module _ (b l : List ℕ) (k : Called) where
  block_under : (ls : List Line) → under ls (λ f. b) k.block ≡ (under ls (λ r. refused r b l) k).block
  block_under [] = refl
  block_under (x ∷ ls) = split x.holds (λ t. rw t) (λ t. rw t (block_under ls))

  pub lent_under : (ls : List Line) → under ls (λ f. l) k.lent ≡ (under ls (λ r. refused r b l) k).lent
  lent_under [] = refl
  lent_under (x ∷ ls) = split x.holds (λ t. rw t) (λ t. rw t (lent_under ls))

pub repair_kept :
    (b l : List ℕ) {r : Result ℕ Refusal} {b' l' : List ℕ} {n : ℕ} → RepairLeaves b l r b' l' → n ≡ counted_word r → Leaves (repair_call b l) n b' l'
unfolding repair_call
repair_kept b l {r} p e =
    let ls = repair_lines b (length l) in
    let k : Called = record { word = 256 * length (changes b); block = mended b; lent = written l 0 (changes b) } in
    record {
      word = e ∙ ap counted_word p.answer ∙ word_is;
      block = p.block ∙ block_under b l k ls;
      lent = p.list ∙ lent_under b l k ls;
    }
  where
    word_is : counted_word (answered (length (changes b)) (first (repair_lines b (length l)))) ≡ (repair_call b l).word
    word_is = split (sized (length b)) (λ s. split (ltb (length l) 220) (λ t. rw (s, t)) (λ t. rw (s, t))) (λ s. rw s)
