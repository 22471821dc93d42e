-- A list as its parts, one after the other; and a bound that all its elements have.
-- Assumes nothing.
use mathlib.Core.Path.{◌≡◌, refl, sym, ap, ◌∙◌}
use mathlib.Core.List.{List, [], ◌∷◌, ◌++◌}
use Prim.Native.Nat.{ℕ, zero, suc, ◌+◌, ◌<◌, ◌≤◌}
use native.Mathlib.Nat.{zero-add, suc-add}
use native.Mathlib.Decide.{ℕ_discrete, dec_lt}
use native.Mathlib.Omega.{arith}
use lib.ListN.{length, set, take, drop, take-append-drop}
use lib.Seq.{paste, take_at, take_all, drop-append-add, drop-drop, drop-cons, get_or-append-add, get_or-set_same, get_or-set_other, set_out}
use Rattle.laws.specs.Lists.{at}
use Rattle.laws.specs.Table.{table_from}

-- n elements from place k on, written out
pub part_table : (n k : ℕ) (l : List ℕ) → k + n ≤ length l → table_from n k (at l) ≡ take n (drop k l)
unfolding table_from
part_table zero k l h = refl
part_table (suc n) k l h =
    let h' : k < length l = omega arith in
    ap (λ (x : List ℕ). at l k ∷ x) (part_table n (suc k) l (omega arith)) ∙ sym (ap (take (suc n)) (drop-cons l k 0 h'))

-- n elements from place k on, and the rest
pub parted : (n k : ℕ) (l : List ℕ) → drop k l ≡ take n (drop k l) ++ drop (k + n) l
parted n k l = sym (take-append-drop n (drop k l)) ∙ ap (λ (x : List ℕ). take n (drop k l) ++ x) (drop-drop n k l)

-- what stands past a part of n elements
pub at_past : (p q : List ℕ) (n k : ℕ) → length p ≡ n → at (p ++ q) (n + k) ≡ at q k
at_past p q n k e = ap (λ (m : ℕ). at (p ++ q) (m + k)) (sym e) ∙ get_or-append-add p q k 0

-- p stands already at the start of b, and s comes next
pub pasted :
    (p b s : List ℕ) (n m : ℕ) {x y : List ℕ} → length p ≡ n → length s ≡ m → x ≡ p ++ drop n b → y ≡ paste x n s m → y ≡ (p ++ s) ++ drop (n + m) b
pasted p b s n m {x} {y} ep es ex ey =
    let t : take n (p ++ drop n b) ≡ p = take_at p (drop n b) n ep in
    let h : length s ≤ m = omega arith in
    let u : take m s ≡ s = take_all m s h in
    let d : drop (n + m) (p ++ drop n b) ≡ drop (n + m) b =
    ap (λ (k : ℕ). drop (k + m) (p ++ drop n b)) (sym ep) ∙ drop-append-add p (drop n b) m ∙ drop-drop m n b in
    ey
    ∙ ap (λ (z : List ℕ). paste z n s m) ex
    ∙ ap (λ (z : List ℕ). (z ++ take m s) ++ drop (n + m) (p ++ drop n b)) t
    ∙ ap (λ (z : List ℕ). (p ++ z) ++ drop (n + m) (p ++ drop n b)) u
    ∙ ap (λ (z : List ℕ). (p ++ s) ++ z) d

-- all elements stay below a bound where one below it is stored
pub set_below : (l : List ℕ) (k v : ℕ) {n : ℕ} → ((i : ℕ) → at l i < n) → v < n → (i : ℕ) → at (set l k v) i < n
set_below l k v h e i =
    elim (ℕ_discrete i k) [
      | yes q ↦
          elim (dec_lt k (length l)) [
            | yes r ↦ rw (q, get_or-set_same l k v 0 r) e
            | no r ↦ let s : length l ≤ k = omega arith in rw (set_out l k v s) (h i)
          ]
      | no q ↦ rw (get_or-set_other l k i v 0 q) (h i)
    ]

-- a store past a part of n elements
pub set_past : (p q : List ℕ) (n k v : ℕ) → length p ≡ n → set (p ++ q) (n + k) v ≡ p ++ set q k v
set_past p q n k v e = ap (λ (m : ℕ). set (p ++ q) (m + k) v) (sym e) ∙ beyond p
  where
    beyond : (p : List ℕ) → set (p ++ q) (length p + k) v ≡ p ++ set q k v
    beyond [] = rw zero-add
    beyond (x ∷ p) = rw suc-add (ap (λ (l : List ℕ). x ∷ l) (beyond p))
