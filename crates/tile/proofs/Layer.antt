-- The layers of a row with a sprite's columns, one column at a time.
-- Assumes nothing.
use mathlib.Core.Path.{◌≡◌, refl, ap, ◌∙◌}
use mathlib.Core.Bool.{Bool, true, false, cond, ◌&&◌, and-false}
use mathlib.Core.List.{List}
use Prim.Native.Nat.{ℕ, ◌+◌, ◌-◌, ◌<◌, ◌≤◌}
use native.Mathlib.Decide.{dec_lt, ℕ_discrete}
use native.Mathlib.Omega.{arith}
use lib.Dec.{ltb, leb}
use lib.ListN.{length, set, length-set}
use lib.Seq.{get_or-set_same, get_or-set_other}
use borrow.Author.Tests.{lt-ltb, le-ltb, le-leb, lt-leb}
use Rattle.laws.specs.Bits.{bit}
use Rattle.laws.specs.Lists.{at}
use Rattle.laws.proofs.Tables.{length-table, get_d_table, is_table}
use Rattle.picture.specs.Layers.{owner}
use Rattle.tile.specs.Layer.{stamped}

module _ (l : List ℕ) (width x n drawn held : ℕ) where
  -- byte k with `count` columns
  abbrev stamp : ℕ → ℕ → ℕ
  stamp count k = cond (leb x k && (ltb (k - x) count && ltb k width)) (owner n (bit drawn (k - x)) (bit held (k - x)) (at l k)) (at l k)

  pub stamped_length : (count : ℕ) → length (stamped l width x n drawn held count) ≡ length l
  unfolding stamped
  stamped_length count = length-table (length l) (stamp count)

  pub stamped_at : (count k : ℕ) → k < length l → at (stamped l width x n drawn held count) k ≡ stamp count k
  unfolding stamped
  stamped_at count k h = get_d_table (length l) (stamp count) k h

  -- no column yet
  pub stamped_none : l ≡ stamped l width x n drawn held 0
  unfolding stamped
  stamped_none =
      is_table l (length l) (stamp 0) refl
      (λ k h. let z : 0 ≤ k - x = omega arith in rw (le-ltb (k - x) 0 z, and-false (leb x k)))

  -- ---- column i more
  module _ (i : ℕ) where
    same_test : (k : ℕ) → (k ≡ x + i → ⊥) → (leb x k && (ltb (k - x) i && ltb k width)) ≡ (leb x k && (ltb (k - x) (i + 1) && ltb k width))
    same_test k o =
        elim (dec_lt k x) [
          | yes h ↦ rw (lt-leb x k h)
          | no h ↦
              elim (dec_lt (k - x) i) [
                | yes q ↦ let r : k - x < i + 1 = omega arith in rw (lt-ltb (k - x) i q, lt-ltb (k - x) (i + 1) r)
                | no q ↦
                    let p : i ≤ k - x = omega arith in
                    let r : i + 1 ≤ k - x = elim (ℕ_discrete k (x + i)) [ yes e ↦ absurd (o e) | no e ↦ omega arith ] in
                    rw (le-ltb (k - x) i p, le-ltb (k - x) (i + 1) r)
              ]
        ]

    test_here : x + i < width → (leb x (x + i) && (ltb (x + i - x) (i + 1) && ltb (x + i) width)) ≡ true
    test_here h =
        let a : x ≤ x + i = omega arith in
        let b : x + i - x < i + 1 = omega arith in
        rw (le-leb x (x + i) a, lt-ltb (x + i - x) (i + 1) b, lt-ltb (x + i) width h)

    old_here : (leb x (x + i) && (ltb (x + i - x) i && ltb (x + i) width)) ≡ false
    old_here =
        let a : x ≤ x + i = omega arith in
        let b : i ≤ x + i - x = omega arith in
        rw (le-leb x (x + i) a, le-ltb (x + i - x) i b)

    off_row : width ≤ x + i → (leb x (x + i) && (ltb (x + i - x) (i + 1) && ltb (x + i) width)) ≡ false
    off_row h =
        let a : x ≤ x + i = omega arith in
        let b : x + i - x < i + 1 = omega arith in
        rw (le-leb x (x + i) a, lt-ltb (x + i - x) (i + 1) b, le-ltb (x + i) width h)

    -- the bytes of a list with column i stamped, and of one where it is off the row
    here : x + i < width → x + i < length l → (m : List ℕ) → m ≡ stamped l width x n drawn held i → owner n (bit drawn i) (bit held i) (at m (x + i))
        ≡ stamp (i + 1) (x + i)
    here h r m e =
        let q : x + i - x ≡ i = omega arith in
        let o : at m (x + i) ≡ at l (x + i) = ap (λ (z : List ℕ). at z (x + i)) e ∙ stamped_at i (x + i) r ∙ rw old_here in
        rw (test_here h, q, o)

    other : (k : ℕ) → k < length l → (k ≡ x + i → ⊥) → (m : List ℕ) → m ≡ stamped l width x n drawn held i → at m k ≡ stamp (i + 1) k
    other k h o m e = ap (λ (z : List ℕ). at z k) e ∙ stamped_at i k h ∙ rw (same_test k o)

    off : width ≤ x + i → x + i < length l → (m : List ℕ) → m ≡ stamped l width x n drawn held i → at m (x + i) ≡ stamp (i + 1) (x + i)
    off w h m e = ap (λ (z : List ℕ). at z (x + i)) e ∙ stamped_at i (x + i) h ∙ rw (old_here, off_row w)

    pub stamped_step :
        {m m' : List ℕ} {d h : Bool} → width ≤ length l → m ≡ stamped l width x n drawn held i → d ≡ bit drawn i → h ≡ bit held i
        → m' ≡ cond (ltb (x + i) width) (set m (x + i) (owner n d h (at m (x + i)))) m → m' ≡ stamped l width x n drawn held (i + 1)
    unfolding stamped
    stamped_step {m} {m'} {d} {h} room e ed eh p =
        let n₀ : length m ≡ length l = ap length e ∙ stamped_length i in
        elim (dec_lt (x + i) width) [
          | yes w ↦
              let v = owner n (bit drawn i) (bit held i) (at m (x + i)) in
              let q : m' ≡ set m (x + i) v = p ∙ rw (lt-ltb (x + i) width w, ed, eh) in
              let r : x + i < length l = omega arith in
              q
              ∙ is_table (set m (x + i) v) (length l) (stamp (i + 1)) (length-set m (x + i) v ∙ n₀)
              (λ k a.
              elim (ℕ_discrete k (x + i)) [
                | yes t ↦ let s : x + i < length m = omega arith in rw t (get_or-set_same m (x + i) v 0 s ∙ here w r m e)
                | no t ↦ get_or-set_other m (x + i) k v 0 t ∙ other k a t m e
              ])
          | no w ↦
              let u : width ≤ x + i = omega arith in
              let q : m' ≡ m = p ∙ rw (le-ltb (x + i) width u) in
              q
              ∙ is_table m (length l) (stamp (i + 1)) n₀
              (λ k a.
              elim (ℕ_discrete k (x + i)) [
                | yes t ↦ let s : x + i < length l = omega arith in rw t (off u s m e)
                | no t ↦ other k a t m e
              ])
        ]
