-- A table of refusals: what a call under it comes to.
-- Assumes nothing.
use Rattle.std.specs.Prelude.{Ok}
use mathlib.Core.Path.{◌≡◌, refl, ap}
use mathlib.Core.Logic.{◌≢◌}
use mathlib.Core.Bool.{true, false}
use mathlib.Core.List.{List, [], ◌∷◌}
use Prim.Native.Nat.{ℕ}
use Rattle.laws.proofs.Tests.{split, either}
use Rattle.refusal.specs.Refusals.{refusal_number, Line, first, under, Outcome}

-- no line of it holds
abbrev pub Passed : List Line → Type 0
Passed [] = Unit {0}
Passed (l ∷ ls) = (l.holds ≡ false) × Passed ls

-- each line refuses
abbrev pub Refusing : List Line → Type 0
Refusing [] = Unit {0}
Refusing (l ∷ ls) = (l.outcome ≢ (Ok tt)) × Refusing ls

-- a refusal does, whose number is not 0
pub refuses : (r : Outcome) → refusal_number r ≢ 0 → r ≢ (Ok tt)
refuses r n e = n (ap refusal_number e)

-- what holds of each refusal, and of the call where no line holds, holds of what comes
pub under_either : {A : Type 0} (P : A → Type 0) (ls : List Line) (refuse : Outcome → A) (call : A) → ((r : Outcome) → P (refuse r)) →
    (Passed ls → P call) → P (under ls refuse call)
under_either P [] refuse call f g = g tt
under_either P (l ∷ ls) refuse call f g = either P l.holds (λ _. f l.outcome) (λ t. under_either P ls refuse call f (λ p. g (t, p)))

-- no line holds: the call is made
pub under_passed : {A : Type 0} (ls : List Line) (refuse : Outcome → A) (call : A) → Passed ls → under ls refuse call ≡ call
under_passed [] refuse call p = refl
under_passed (l ∷ ls) refuse call p = rw p.0 (under_passed ls refuse call p.1)

-- one does: the first refusal is what comes
pub under_refused : {A : Type 0} (ls : List Line) (refuse : Outcome → A) (call : A) → first ls ≢ (Ok tt) → under ls refuse call ≡ refuse (first ls)
under_refused [] refuse call n = absurd (n refl)
under_refused (l ∷ ls) refuse call n = split l.holds (λ t. simp t) (λ t. simp t (under_refused ls refuse call (simp t at n)))

-- whatever is made of what comes is made of each refusal, and of the call
pub under_map : {A : Type 0} {B : Type 0} (f : A → B) (ls : List Line) (refuse : Outcome → A) (call : A)
    → f (under ls refuse call) ≡ under ls (λ r. f (refuse r)) (f call)
under_map f [] refuse call = refl
under_map f (l ∷ ls) refuse call = split l.holds (λ t. rw t) (λ t. rw t (under_map f ls refuse call))

-- and so, where each refusal is told as it is, and the call as accepted, what is told is the first
pub under_told : {A : Type 0} (told : A → Outcome) (ls : List Line) (refuse : Outcome → A) (call : A)
    → ((r : Outcome) → told (refuse r) ≡ r) → told call ≡ (Ok tt) → told (under ls refuse call) ≡ first ls
under_told told [] refuse call f e = e
under_told told (l ∷ ls) refuse call f e = split l.holds (λ t. simp t (f l.outcome)) (λ t. simp t (under_told told ls refuse call f e))

-- which of the two it is, the first refusal tells
pub passed : (ls : List Line) → Refusing ls → first ls ≡ (Ok tt) → Passed ls
passed [] q e = tt
passed (l ∷ ls) q e = split l.holds (λ t. absurd (q.0 (simp t at e))) (λ t. (t, passed ls q.1 (simp t at e)))

-- a number that no line gives which holds
module _ (n : ℕ) where
  abbrev pub Silent : List Line → Type 0
  Silent [] = Unit {0}
  Silent (l ∷ ls) = (l.holds ≡ true → refusal_number l.outcome ≢ n) × Silent ls

  pub first_not : 0 ≢ n → (ls : List Line) → Silent ls → refusal_number (first ls) ≢ n
  first_not z [] s = z
  first_not z (l ∷ ls) s = either (λ r. refusal_number r ≢ n) l.holds s.0 (λ _. first_not z ls s.1)
