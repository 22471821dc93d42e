-- A block as its parts one after the other: 3 bytes of head, 11 registers, k small fields, q bytes of palette, 128 of cache, and what is behind. What is read
-- at each place, and what a store leaves; for either machine's k and q.
-- Assumes nothing.
use mathlib.Core.Path.{◌≡◌, refl, sym, ap, ◌∙◌}
use mathlib.Core.List.{List, ◌++◌, append_assoc}
use Prim.Native.Nat.{ℕ, ◌+◌, ◌<◌}
use native.Mathlib.Omega.{arith}
use lib.ListN.{length, set, take, drop, length-append, get_or-append}
use lib.Seq.{paste, take_at, drop_at, set-append_left}
use Rattle.laws.specs.Lists.{at}
use Rattle.laws.proofs.Parts.{at_past, set_past, pasted, parted}

-- a block of bytes is its parts
pub parts : (k q : ℕ) (b : List ℕ)
    → b ≡ take 3 (drop 0 b) ++ (take 11 (drop 3 b) ++ (take k (drop 14 b) ++ (take q (drop (14 + k) b) ++ (take 128 (drop (14 + k + q) b) ++ drop
    (14 + k + q + 128) b))))
parts k q b =
    parted 3 0 b
    ∙ ap (λ (x : List ℕ). take 3 b ++ x)
    (parted 11 3 b
    ∙ ap (λ (x : List ℕ). take 11 (drop 3 b) ++ x)
    (parted k 14 b
    ∙ ap (λ (x : List ℕ). take k (drop 14 b) ++ x)
    (parted q (14 + k) b ∙ ap (λ (x : List ℕ). take q (drop (14 + k) b) ++ x) (parted 128 (14 + k + q) b))))

module _ (h r s p c l : List ℕ) (k q : ℕ)
    (eh : length h ≡ 3) (er : length r ≡ 11) (es : length s ≡ k) (ep : length p ≡ q) (ec : length c ≡ 128) where
  abbrev whole : List ℕ
  whole = h ++ (r ++ (s ++ (p ++ (c ++ l))))

  -- what stands before the small fields, before the palette and before the cache
  to_small : List ℕ
  to_small = h ++ r

  to_palette : List ℕ
  to_palette = (h ++ r) ++ s

  to_cache : List ℕ
  to_cache = ((h ++ r) ++ s) ++ p

  small_place : length to_small ≡ 14
  unfolding to_small
  small_place = simp length-append (omega (arith, eh, er))

  palette_place : length to_palette ≡ 14 + k
  unfolding to_palette
  palette_place = simp length-append (omega (arith, eh, er, es))

  cache_place : length to_cache ≡ 14 + k + q
  unfolding to_cache
  cache_place = simp length-append (omega (arith, eh, er, es, ep))

  by-small : whole ≡ to_small ++ (s ++ (p ++ (c ++ l)))
  unfolding to_small
  by-small = simp append_assoc

  by_palette : whole ≡ to_palette ++ (p ++ (c ++ l))
  unfolding to_palette
  by_palette = simp append_assoc

  by_cache : whole ≡ to_cache ++ (c ++ l)
  unfolding to_cache
  by_cache = simp append_assoc

  -- ---- the small fields
  pub small_at : (j : ℕ) → at whole (14 + j) ≡ at (s ++ (p ++ (c ++ l))) j
  small_at j = ap (λ (x : List ℕ). at x (14 + j)) by-small ∙ at_past to_small (s ++ (p ++ (c ++ l))) 14 j small_place

  pub small_set : (j v : ℕ) → set whole (14 + j) v ≡ h ++ (r ++ set (s ++ (p ++ (c ++ l))) j v)
  unfolding to_small
  small_set j v =
      ap (λ (x : List ℕ). set x (14 + j) v) by-small ∙ set_past to_small (s ++ (p ++ (c ++ l))) 14 j v small_place ∙ simp append_assoc

  -- ---- the palette
  pub palette_at : (i : ℕ) → i < q → at whole (14 + k + i) ≡ at p i
  palette_at i hi =
      ap (λ (x : List ℕ). at x (14 + k + i)) by_palette
      ∙ at_past to_palette (p ++ (c ++ l)) (14 + k) i palette_place
      ∙ get_or-append p (c ++ l) 0 i (omega (arith, ep))

  pub palette_set : (i v : ℕ) → i < q → set whole (14 + k + i) v ≡ h ++ (r ++ (s ++ (set p i v ++ (c ++ l))))
  unfolding to_palette
  palette_set i v hi =
      ap (λ (x : List ℕ). set x (14 + k + i) v) by_palette
      ∙ set_past to_palette (p ++ (c ++ l)) (14 + k) i v palette_place
      ∙ ap (λ (x : List ℕ). to_palette ++ x) (set-append_left p (c ++ l) i v (omega (arith, ep)))
      ∙ simp append_assoc

  -- ---- the cache
  pub cache_at : (i : ℕ) → i < 128 → at whole (14 + k + q + i) ≡ at c i
  cache_at i hi =
      ap (λ (x : List ℕ). at x (14 + k + q + i)) by_cache
      ∙ at_past to_cache (c ++ l) (14 + k + q) i cache_place
      ∙ get_or-append c l 0 i (omega (arith, ec))

  pub cache_set : (c' : List ℕ) → length c' ≡ 128 → paste whole (14 + k + q) c' 128 ≡ h ++ (r ++ (s ++ (p ++ (c' ++ l))))
  unfolding to_cache
  cache_set c' ec' =
      let x : whole ≡ to_cache ++ drop (14 + k + q) (to_cache ++ (c ++ l)) = by_cache ∙ ap (λ (z : List ℕ). to_cache ++ z)
      (sym (drop_at to_cache (c ++ l) (14 + k + q) cache_place)) in
      let z : length (to_cache ++ c) ≡ 14 + k + q + 128 = simp length-append (omega (arith, eh, er, es, ep, ec)) in
      let behind : drop (14 + k + q + 128) (to_cache ++ (c ++ l)) ≡ l =
      ap (drop (14 + k + q + 128)) (sym (append_assoc to_cache c l)) ∙ drop_at (to_cache ++ c) l (14 + k + q + 128) z in
      pasted to_cache (to_cache ++ (c ++ l)) c' (14 + k + q) 128 cache_place ec' x refl
      ∙ ap (λ (y : List ℕ). (to_cache ++ c') ++ y) behind
      ∙ simp append_assoc

  -- ---- the parts, read back
  pub registers_of : take 11 (drop 3 whole) ≡ r
  registers_of = ap (take 11) (drop_at h (r ++ (s ++ (p ++ (c ++ l)))) 3 eh) ∙ take_at r (s ++ (p ++ (c ++ l))) 11 er

  pub palette_of : take q (drop (14 + k) whole) ≡ p
  palette_of =
      ap (λ (x : List ℕ). take q (drop (14 + k) x)) by_palette
      ∙ ap (take q) (drop_at to_palette (p ++ (c ++ l)) (14 + k) palette_place)
      ∙ take_at p (c ++ l) q ep

  pub length_whole : length whole ≡ 14 + k + q + 128 + length l
  length_whole = simp length-append (omega (arith, eh, er, es, ep, ec))

  -- what is behind
  pub behind_at : (i : ℕ) → at whole (14 + k + q + 128 + i) ≡ at l i
  behind_at i =
      let e : 14 + k + q + 128 + i ≡ 14 + k + q + (128 + i) = omega arith in
      ap (at whole) e
      ∙ ap (λ (x : List ℕ). at x (14 + k + q + (128 + i))) by_cache
      ∙ at_past to_cache (c ++ l) (14 + k + q) (128 + i) cache_place
      ∙ at_past c l 128 i ec
