-- What stands where in a list, after bytes were written at a place.
-- Assumes nothing.
use mathlib.Core.Path.{◌≡◌, sym, ap, ◌∙◌}
use mathlib.Core.List.{List, ◌++◌, append_assoc}
use Prim.Native.Nat.{ℕ, ◌+◌, ◌-◌, ◌<◌, ◌≤◌}
use native.Mathlib.Omega.{arith}
use lib.ListN.{length, take, drop, length-append, length-drop, get_or-append, take-append-drop}
use lib.Seq.{length-take-le, get_or-take, get_or-drop, drop-drop}
use Rattle.laws.specs.Lists.{at, written}
use Rattle.laws.proofs.Parts.{at_past}

module _ (l : List ℕ) (a : ℕ) (x : List ℕ) (fits : a + length x ≤ length l) where
  start : length (take a l) ≡ a
  start = length-take-le a l (omega arith)

  whole : length (take a l ++ x) ≡ a + length x
  whole = length-append (take a l) x ∙ ap (λ (n : ℕ). n + length x) start

  -- what was written
  pub written_at : (k : ℕ) → k < length x → at (written l a x) (a + k) ≡ at x k
  unfolding written
  written_at k h =
      let e : a + k < length (take a l ++ x) = omega (arith, whole) in
      get_or-append (take a l ++ x) (drop (a + length x) l) 0 (a + k) e ∙ at_past (take a l) x a k start

  -- what stands before it, and behind it
  pub written_before : (k : ℕ) → k < a → at (written l a x) k ≡ at l k
  unfolding written
  written_before k h =
      let e : k < length (take a l ++ x) = omega (arith, whole) in
      let d : k < length (take a l) = omega (arith, start) in
      get_or-append (take a l ++ x) (drop (a + length x) l) 0 k e ∙ get_or-append (take a l) x 0 k d ∙ get_or-take a l k 0 h

  pub written_behind : (k : ℕ) → a + length x ≤ k → at (written l a x) k ≡ at l k
  unfolding written
  written_behind k h =
      let e : a + length x + (k - (a + length x)) ≡ k = omega arith in
      ap (at ((take a l ++ x) ++ drop (a + length x) l)) (sym e)
      ∙ at_past (take a l ++ x) (drop (a + length x) l) (a + length x) (k - (a + length x)) whole
      ∙ get_or-drop (a + length x) l (k - (a + length x)) 0
      ∙ ap (at l) e

-- what was there, written again
pub written_same : (l : List ℕ) (a n : ℕ) → a + n ≤ length l → written l a (take n (drop a l)) ≡ l
unfolding written
written_same l a n h =
    let d : n ≤ length (drop a l) = simp length-drop (omega arith) in
    let t : length (take n (drop a l)) ≡ n = length-take-le n (drop a l) d in
    ap (λ (k : ℕ). (take a l ++ take n (drop a l)) ++ drop (a + k) l) t
    ∙ append_assoc (take a l) (take n (drop a l)) (drop (a + n) l)
    ∙ ap (λ (z : List ℕ). take a l ++ (take n (drop a l) ++ z)) (sym (drop-drop n a l))
    ∙ ap (λ (z : List ℕ). take a l ++ z) (take-append-drop n (drop a l))
    ∙ take-append-drop a l
