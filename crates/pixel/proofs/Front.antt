-- A place of the priority mask: of all columns of a row two can mark it.
-- Assumes nothing.
use Rattle.std.proofs.Common.{◌≡◌, ℕ, ◌+◌, ◌-◌, ◌%◌, ◌<◌, ◌≤◌, Bool, ◌&&◌, ◌||◌, eqb, ltb, leb, ap, ◌∙◌, arith, le-ltb, lt-ltb, le-leb}
use native.Mathlib.Decide.{dec_lt}
use borrow.Author.Tests.{lt-leb}
use Rattle.laws.specs.Bits.{any}
use Rattle.laws.specs.Circle.{past}
use Rattle.laws.proofs.Any.{any_cong, any_split, any_place}
use Rattle.picture.specs.View.{cut_mark}

module _ (cut width i : ℕ) (c : cut < 8) (w : 8 ≤ width) (n : width ≤ 256) (l : i < 256) where
  -- the columns of the first tile, from place 256 - cut on
  cut_mark_lem : (x : ℕ) → x < 8 - cut → cut_mark cut x ≡ (256 - cut + x) % 256
  unfolding cut_mark
  cut_mark_lem x h = rw (lt-ltb x (8 - cut) h) (omega arith)

  cut_past : past i (256 - cut) ≡ (i + cut) % 256
  cut_past = omega arith

  -- and the others, from place 8 - cut on
  own_mark : (j : ℕ) → j < width - (8 - cut) → cut_mark cut (8 - cut + j) ≡ (8 - cut + j) % 256
  unfolding cut_mark
  own_mark j h = let k : 8 - cut ≤ 8 - cut + j = omega arith in rw (le-ltb (8 - cut + j) (8 - cut) k) (omega arith)

  own_past : (F : ℕ → Bool) → (ltb (past i (8 - cut)) (width - (8 - cut)) && F (8 - cut + past i (8 - cut))) ≡
      ((leb (8 - cut) i && ltb i width) && F i)
  own_past F =
      elim (dec_lt i (8 - cut)) [
        | yes h ↦ let k : width - (8 - cut) ≤ past i (8 - cut) = omega arith in rw
            (le-ltb (past i (8 - cut)) (width - (8 - cut)) k, lt-leb (8 - cut) i h)
        | no h ↦
            let a : 8 - cut ≤ i = omega arith in
            let e : 8 - cut + past i (8 - cut) ≡ i = omega arith in
            rw (e, le-leb (8 - cut) i a)
            (elim (dec_lt i width) [
              | yes k ↦ let m : past i (8 - cut) < width - (8 - cut) = omega arith in rw
                  (lt-ltb (past i (8 - cut)) (width - (8 - cut)) m, lt-ltb i width k)
              | no k ↦
                  let m : width - (8 - cut) ≤ past i (8 - cut) = omega arith in
                  let o : width ≤ i = omega arith in
                  rw (le-ltb (past i (8 - cut)) (width - (8 - cut)) m, le-ltb i width o)
            ])
      ]

  pub front_two : (F : ℕ → Bool)
      → any width (λ x. eqb (cut_mark cut x) i && F x) ≡ ((ltb ((i + cut) % 256) (8 - cut) && F ((i + cut) % 256)) ||
      ((leb (8 - cut) i && ltb i width) && F i))
  front_two F =
      let e : width ≡ 8 - cut + (width - (8 - cut)) = omega arith in
      ap (λ (k : ℕ). any k (λ x. eqb (cut_mark cut x) i && F x)) e
      ∙ any_split (8 - cut) (width - (8 - cut)) (λ x. eqb (cut_mark cut x) i && F x)
      ∙ ap (λ (a : Bool). a || any (width - (8 - cut)) (λ j. eqb (cut_mark cut (8 - cut + j)) i && F (8 - cut + j)))
      (any_cong (8 - cut) (λ x. eqb (cut_mark cut x) i && F x) (λ x. eqb ((256 - cut + x) % 256) i && F x) (λ x h. rw (cut_mark_lem x h))
      ∙ any_place (8 - cut) (256 - cut) i F (omega arith) l
      ∙ ap (λ (k : ℕ). ltb k (8 - cut) && F k) cut_past)
      ∙ ap (λ (a : Bool). (ltb ((i + cut) % 256) (8 - cut) && F ((i + cut) % 256)) || a)
      (any_cong (width - (8 - cut)) (λ j. eqb (cut_mark cut (8 - cut + j)) i && F (8 - cut + j)) (λ j. eqb ((8 - cut + j) % 256) i && F (8 - cut + j))
      (λ j h. rw (own_mark j h))
      ∙ any_place (width - (8 - cut)) (8 - cut) i (λ j. F (8 - cut + j)) (omega arith) l
      ∙ own_past F)
