-- A number that goes up by one and wraps at L takes each value exactly once in L steps; twice is once and once.
-- Assumes nothing.
use mathlib.Core.Path.{◌≡◌, refl, subst}
use mathlib.Core.Logic.{◌↔◌, ◌⊎◌, inl, inr, ⊎_elim}
use mathlib.Core.Bool.{Bool, true, false}
use Prim.Native.Nat.{ℕ, zero, suc, ◌+◌, ◌-◌, ◌≤◌, ◌<◌}
use native.Mathlib.Omega.{arith}
use lib.Dec.{ltb}
use borrow.Author.Tests.{ltb-true, ltb-false}
use Rattle.laws.specs.Once.{ExactlyOnce, ExactlyTwice}

pub once_iff : {n : ℕ} {P Q : ℕ → Type 0} → ((i : ℕ) → P i ↔ Q i) → ExactlyOnce n P → ExactlyOnce n Q
once_iff e o =
    record { at = o.at; below = o.below; holds = (e o.at).0 o.holds; only = λ j h q. o.only j h ((e j).1 q) }

pub twice_iff : {n : ℕ} {P Q : ℕ → Type 0} → ((i : ℕ) → P i ↔ Q i) → ExactlyTwice n P → ExactlyTwice n Q
twice_iff e o =
    record {
      first = o.first;
      second = o.second;
      apart = o.apart;
      below = o.below;
      holds_first = (e o.first).0 o.holds_first;
      holds_second = (e o.second).0 o.holds_second;
      only = λ j h q. o.only j h ((e j).1 q);
    }

-- what happens in two ways, each exactly once and never both at once, happens exactly twice
pub once_and_once :
    {n : ℕ} {P R Q : ℕ → Type 0} → ExactlyOnce n P → ExactlyOnce n R → ((i : ℕ) → (P i ⊎ R i) ↔ Q i) → ((i : ℕ) → P i → R i → ⊥) → ExactlyTwice n Q
once_and_once {n} {P} {R} {Q} p r e apart = go (ltb p.at r.at) refl
  where
    first : Q p.at
    first = (e p.at).0 (inl p.holds)

    second : Q r.at
    second = (e r.at).0 (inr r.holds)

    same : p.at ≡ r.at → ⊥
    same z = apart r.at (subst P z p.holds) r.holds

    go : (b : Bool) → ltb p.at r.at ≡ b → ExactlyTwice n Q
    go true t =
        record {
          first = p.at;
          second = r.at;
          apart = ltb-true p.at r.at t;
          below = r.below;
          holds_first = first;
          holds_second = second;
          only = λ j h q. ⊎_elim (λ x. inl (p.only j h x)) (λ x. inr (r.only j h x)) ((e j).1 q);
        }
    go false t =
        let ge : r.at ≤ p.at = ltb-false p.at r.at t in
        let ne : p.at ≡ r.at → ⊥ = same in
        record {
          first = r.at;
          second = p.at;
          apart = omega (arith, ne);
          below = p.below;
          holds_first = second;
          holds_second = first;
          only = λ j h q. ⊎_elim (λ x. inr (p.only j h x)) (λ x. inl (r.only j h x)) ((e j).1 q);
        }

-- a step of a place in a pass of L: one up, or 0 from the last
pub record Next (L p q : ℕ) : Type 0 where
  pub goes : suc p < L → q ≡ suc p
  pub wraps : suc p ≡ L → q ≡ 0

module _ (L : ℕ) (f : ℕ → ℕ) (start : f 0 < L) (next : (i : ℕ) → Next L (f i) (f (suc i))) where
  -- the place after i steps
  record At (i : ℕ) : Type 0 where
    early : f 0 + i < L → f i ≡ f 0 + i
    late : L ≤ f 0 + i → f i + L ≡ f 0 + i

  at : (i : ℕ) → i ≤ L → At i
  at zero h = record { early = λ _. omega arith; late = λ l. absurd (omega arith) }
  at (suc i) h = go (at i (omega arith)) (next i)
    where
      go : At i → Next L (f i) (f (suc i)) → At (suc i)
      go a n = record { early = λ e. early e; late = λ l. late l (ltb (f 0 + i) L) refl }
        where
          early : f 0 + suc i < L → f (suc i) ≡ f 0 + suc i
          early e =
              let now : f i ≡ f 0 + i = a.early (omega arith) in
              omega (arith, n.goes (omega arith))

          late : L ≤ f 0 + suc i → (b : Bool) → ltb (f 0 + i) L ≡ b → f (suc i) + L ≡ f 0 + suc i
          late l true e =
              let lt : f 0 + i < L = ltb-true (f 0 + i) L e in
              let now : f i ≡ f 0 + i = a.early lt in
              omega (arith, n.wraps (omega arith))
          late l false e =
              let ge : L ≤ f 0 + i = ltb-false (f 0 + i) L e in
              let now : f i + L ≡ f 0 + i = a.late ge in
              omega (arith, n.goes (omega arith))

  -- each value below L is taken exactly once
  pub each_once : (q : ℕ) → q < L → ExactlyOnce L (λ i. f (suc i) ≡ q)
  each_once q h = go (ltb (f 0) q) refl
    where
      only : (k : ℕ) → k < L → f (suc k) ≡ q → (j : ℕ) → j < L → f (suc j) ≡ q → j ≡ k
      only k hk ek j hj ej =
          go (ltb (f 0 + suc j) L) (ltb (f 0 + suc k) L) refl refl (at (suc j) (omega arith)) (at (suc k) (omega arith))
        where
          go : (b c : Bool) → ltb (f 0 + suc j) L ≡ b → ltb (f 0 + suc k) L ≡ c → At (suc j) → At (suc k) → j ≡ k
          go true true eb ec aj ak =
              omega (arith, aj.early (ltb-true (f 0 + suc j) L eb), ak.early (ltb-true (f 0 + suc k) L ec))
          go true false eb ec aj ak =
              let x : L ≤ f 0 + suc k = ltb-false (f 0 + suc k) L ec in
              omega (arith, aj.early (ltb-true (f 0 + suc j) L eb), ak.late x)
          go false true eb ec aj ak =
              let x : L ≤ f 0 + suc j = ltb-false (f 0 + suc j) L eb in
              omega (arith, aj.late x, ak.early (ltb-true (f 0 + suc k) L ec))
          go false false eb ec aj ak =
              let x : L ≤ f 0 + suc j = ltb-false (f 0 + suc j) L eb in
              let y : L ≤ f 0 + suc k = ltb-false (f 0 + suc k) L ec in
              omega (arith, aj.late x, ak.late y)

      go : (b : Bool) → ltb (f 0) q ≡ b → ExactlyOnce L (λ i. f (suc i) ≡ q)
      go true e =
          let lt : f 0 < q = ltb-true (f 0) q e in
          let k : ℕ = q - suc (f 0) in
          let is : f (suc k) ≡ q = omega (arith, (at (suc k) (omega arith)).early (omega arith)) in
          record { at = k; below = omega arith; holds = is; only = only k (omega arith) is }
      go false e =
          let ge : q ≤ f 0 = ltb-false (f 0) q e in
          let k : ℕ = q + L - suc (f 0) in
          let is : f (suc k) ≡ q = omega (arith, (at (suc k) (omega arith)).late (omega arith)) in
          record { at = k; below = omega arith; holds = is; only = only k (omega arith) is }
