-- Elements stored in order, one turn of a loop at a time, and bytes written side by side.
-- Assumes nothing.
use mathlib.Core.Path.{◌≡◌, refl, sym, ap, ◌∙◌}
use mathlib.Core.List.{List, [], ◌++◌, append_assoc, append-nil}
use Prim.Native.Nat.{ℕ, ◌+◌, ◌<◌, ◌≤◌}
use native.Mathlib.Nat.{add_assoc, add-zero}
use native.Mathlib.Numerals.{add-one}
use native.Mathlib.Omega.{arith}
use lib.ListN.{length, get_or, set, take, drop, length-append, length-drop, replicate, length-replicate, drop_of_length-le, take-append-drop}
use lib.Seq.{paste, paste-suc, take_all, get_or-drop, take-length, take_at, drop-append-add, drop-drop, length-take-le}
use Rattle.laws.specs.Lists.{written}

-- d with s's first j elements from `at` on, and then one more
pub fill_step :
    (d : List ℕ) (at : ℕ) (s : List ℕ) (j : ℕ) {k v : ℕ} {d' : List ℕ} → at + j < length d → j < length s → k ≡ at + j → v ≡ get_or s j 0
    → d' ≡ paste d at s j → set d' k v ≡ paste d at s (j + 1)
fill_step d at s j {k} {v} {d'} hd hs ek ev p =
    ap (λ (x : List ℕ). set x k v) p
    ∙ ap (λ (x : ℕ). set (paste d at s j) x v) ek
    ∙ ap (λ (x : ℕ). set (paste d at s j) (at + j) x) ev
    ∙ paste-suc d at s j 0 hd hs
    ∙ ap (paste d at s) (sym (add-one j))

-- the same where s is the rest of a list
pub copy_step :
    (d : List ℕ) (at : ℕ) (s : List ℕ) (from j : ℕ) {d' : List ℕ} → at + j < length d → from + j < length s
    → d' ≡ paste d at (drop from s) j → set d' (at + j) (get_or s (from + j) 0) ≡ paste d at (drop from s) (j + 1)
copy_step d at s from j hd hs p =
    let h : j < length (drop from s) = simp length-drop (omega arith) in
    fill_step d at (drop from s) j hd h refl (sym (get_or-drop from s j 0)) p

-- a buffer of n that is stored whole is what was stored, and so is an array of zeros
pub filled_whole : (d s : List ℕ) (n : ℕ) {i : ℕ} → length d ≡ n → length s ≡ n → i ≡ n → paste d 0 s i ≡ s
filled_whole d s n hd hs e =
    let all : length d ≤ 0 + n = omega arith in
    let most : length s ≤ n = omega arith in
    ap (paste d 0 s) e ∙ ap (λ (x : List ℕ). take n s ++ x) (drop_of_length-le d all) ∙ append-nil (take n s) ∙ take_all n s most

pub filled : (n : ℕ) (s : List ℕ) {i : ℕ} → length s ≡ n → i ≡ n → paste (replicate n 0) 0 s i ≡ s
filled n s h e = filled_whole (replicate n 0) s n (length-replicate n 0) h e

-- ---- bytes written at a place
pub written_whole : (l : List ℕ) (at : ℕ) (s : List ℕ) {i : ℕ} → i ≡ length s → paste l at s i ≡ written l at s
unfolding written
written_whole l at s e = ap (paste l at s) e ∙ ap (λ (x : List ℕ). (take at l ++ x) ++ drop (at + length s) l) (take-length s)

pub length-written : (l : List ℕ) (a : ℕ) (x : List ℕ) → a + length x ≤ length l → length (written l a x) ≡ length l
unfolding written
length-written l a x h =
    let t : length (take a l) ≡ a = length-take-le a l (omega arith) in
    simp (length-append, length-drop, t) (omega arith)

-- nothing written
pub written_nil : (l : List ℕ) (a : ℕ) → written l a [] ≡ l
unfolding written
written_nil l a = rw (append-nil (take a l), add-zero a) (take-append-drop a l)

-- two writes, side by side
pub written_on :
    (l : List ℕ) (a : ℕ) (x y : List ℕ) {b : ℕ} → b ≡ a + length x → a + length x ≤ length l → written (written l a x) b y ≡ written l a (x ++ y)
unfolding written
written_on l a x y {b} e h =
    let t : length (take a l) ≡ a = length-take-le a l (omega arith) in
    let n : length (take a l ++ x) ≡ b = length-append (take a l) x ∙ ap (λ (k : ℕ). k + length x) t ∙ sym e in
    let p : take b ((take a l ++ x) ++ drop (a + length x) l) ≡ take a l ++ x = take_at (take a l ++ x) (drop (a + length x) l) b n in
    let q : drop (b + length y) ((take a l ++ x) ++ drop (a + length x) l) ≡ drop (a + (length x + length y)) l =
    ap (λ (k : ℕ). drop (k + length y) ((take a l ++ x) ++ drop (a + length x) l)) (sym n)
    ∙ drop-append-add (take a l ++ x) (drop (a + length x) l) (length y)
    ∙ drop-drop (length y) (a + length x) l
    ∙ ap (λ (k : ℕ). drop k l) (add_assoc a (length x) (length y)) in
    rw (p, q, length-append x y, append_assoc (take a l) x y)
