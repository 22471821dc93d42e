-- Laws of the layers: a layer buffer byte by byte, and what a layer says of the colour beside it.
-- Assumes nothing.
use mathlib.Core.Path.{◌≡◌, refl, sym, ap, ◌∙◌}
use mathlib.Core.Bool.{Bool, true, false, cond, ◌&&◌, not}
use mathlib.Core.List.{List, ◌++◌}
use Prim.Native.Nat.{ℕ, ◌+◌, ◌-◌, ◌<◌, ◌≤◌}
use native.Mathlib.Decide.{dec_lt}
use native.Mathlib.Omega.{arith}
use lib.Dec.{eqb, ltb, leb}
use Rattle.std.proofs.lemmas.List.{get_or-replicate}
use lib.ListN.{length, drop, replicate, length-replicate, length-append, length-drop, get_or-append}
use lib.Seq.{ext_get_or, get_or-drop}
use borrow.Author.Tests.{lt-ltb, le-ltb, le-leb, lt-leb}
use Rattle.laws.specs.Lists.{at}
use Rattle.laws.specs.Table.{table}
use Rattle.laws.proofs.Tables.{length-table, get_d_table, is_table}
use Rattle.laws.proofs.Parts.{at_past}
use Rattle.laws.proofs.Tests.{split, both}
use Rattle.picture.specs.declared.Stand.{Stand}
use Rattle.picture.specs.Picture.{Canvas, solid, held_back, marked, struck, drawn, laid}
use Rattle.picture.specs.Layers.{owner, stopped, owned, layers_in}

-- ---- a layer buffer of enough bytes, byte by byte
module _ (b : List ℕ) (w : ℕ) (f : ℕ → ℕ) (h : w ≤ length b) where
  joined : layers_in b w f ≡ table w f ++ drop w b
  unfolding layers_in
  joined = rw (le-leb w (length b) h)

  joined_length : length (table w f ++ drop w b) ≡ length b
  joined_length = rw (length-append, length-table, length-drop) (omega arith)

  pub layers_in-at : (k : ℕ) → k < w → at (layers_in b w f) k ≡ f k
  layers_in-at k l =
      let s : k < length (table w f) = omega (arith, length-table w f) in
      ap (λ (x : List ℕ). at x k) joined ∙ get_or-append (table w f) (drop w b) 0 k s ∙ get_d_table w f k l

  pub layers_in_behind : (k : ℕ) → w ≤ k → at (layers_in b w f) k ≡ at b k
  layers_in_behind k l =
      let e : w + (k - w) ≡ k = omega arith in
      ap (λ (x : List ℕ). at x k) joined
      ∙ ap (λ (i : ℕ). at (table w f ++ drop w b) i) (sym e)
      ∙ at_past (table w f) (drop w b) w (k - w) (length-table w f)
      ∙ get_or-drop w b (k - w) 0
      ∙ ap (at b) e

  -- a list that has these bytes is the buffer
  pub layers_in_is : (l : List ℕ) → length l ≡ length b → ((k : ℕ) → k < w → at l k ≡ f k) → ((k : ℕ) → w ≤ k → at l k ≡ at b k) → l ≡ layers_in b w f
  layers_in_is l n in_row behind =
      ext_get_or 0 l (layers_in b w f) (n ∙ sym (ap length joined ∙ joined_length))
      (λ k i.
      elim (dec_lt k w) [
        | yes q ↦ in_row k q ∙ sym (layers_in-at k q)
        | no q ↦ let r : w ≤ k = omega arith in behind k r ∙ sym (layers_in_behind k r)
      ])

-- one of too few stays
pub layers_in-none : (b : List ℕ) (w : ℕ) (f : ℕ → ℕ) → length b < w → layers_in b w f ≡ b
unfolding layers_in
layers_in-none b w f h = rw (lt-leb w (length b) h)

pub length-layers_in : (b : List ℕ) (w : ℕ) (f : ℕ → ℕ) → length (layers_in b w f) ≡ length b
length-layers_in b w f =
    elim (dec_lt (length b) w) [
      | yes h ↦ ap length (layers_in-none b w f h)
      | no h ↦ let r : w ≤ length b = omega arith in ap length (joined b w f r) ∙ joined_length b w f r
    ]

-- one whose first w bytes are v
pub layers_in_filled : (b : List ℕ) (w v : ℕ) {l : List ℕ} → w ≤ length b → l ≡ replicate w v → l ++ drop w b ≡ layers_in b w (λ x. v)
layers_in_filled b w v h e =
    let all : replicate w v ≡ table w (λ x. v) = is_table (replicate w v) w (λ x. v) (length-replicate w v) (λ i q. get_or-replicate w i v 0 q) in
    ap (λ (x : List ℕ). x ++ drop w b) (e ∙ all) ∙ sym (joined b w (λ x. v) h)

-- ---- what is laid over a buffer: layer n in its first m columns, where `on`
module _ (b : List ℕ) (w : ℕ) where
  pub cover_off : b ≡ layers_in b w (at b)
  cover_off =
      elim (dec_lt (length b) w) [
        | yes h ↦ sym (layers_in-none b w (at b) h)
        | no h ↦ layers_in_is b w (at b) (omega arith) b refl (λ k l. refl) (λ k l. refl)
      ]

  pub cover_none : (m n : ℕ) → length b < w → b ≡ layers_in b w (λ x. cond (ltb x m) n (at b x))
  cover_none m n h = sym (layers_in-none b w _ h)

  pub cover_on : (m n : ℕ) {l : List ℕ} → m ≤ w → w ≤ length b → l ≡ layers_in b m (λ x. n) → l ≡ layers_in b w (λ x. cond (ltb x m) n (at b x))
  cover_on m n {l} h r e =
      let low : m ≤ length b = omega arith in
      layers_in_is b w (λ x. cond (ltb x m) n (at b x)) r l (ap length e ∙ length-layers_in b m (λ x. n))
      (λ k q.
      elim (dec_lt k m) [
        | yes s ↦ rw (lt-ltb k m s) (ap (λ (z : List ℕ). at z k) e ∙ layers_in-at b m (λ x. n) low k s)
        | no s ↦ let t : m ≤ k = omega arith in rw (le-ltb k m t) (ap (λ (z : List ℕ). at z k) e ∙ layers_in_behind b m (λ x. n) low k t)
      ])
      (λ k q. let t : m ≤ k = omega arith in ap (λ (z : List ℕ). at z k) e ∙ layers_in_behind b m (λ x. n) low k t)

-- over a buffer that has a row's layers: over the layers
pub cover_layers : (b : List ℕ) (w n : ℕ) (t : ℕ → Bool) (f : ℕ → ℕ) {l l' : List ℕ} → l ≡ layers_in b w f → l' ≡ layers_in l w
    (λ x. cond (t x) n (at l x))
    → l' ≡ layers_in b w (λ x. cond (t x) n (f x))
cover_layers b w n t f {l} {l'} e d =
    let s : length l ≡ length b = ap length e ∙ length-layers_in b w f in
    let s' : length l' ≡ length l = ap length d ∙ length-layers_in l w _ in
    elim (dec_lt (length b) w) [
      | yes h ↦ let h' : length l < w = omega arith in d ∙ layers_in-none l w _ h' ∙ e ∙ layers_in-none b w f h ∙ sym (layers_in-none b w _ h)
      | no h ↦
          let r : w ≤ length b = omega arith in
          let r' : w ≤ length l = omega arith in
          layers_in_is b w (λ x. cond (t x) n (f x)) r l' (s' ∙ s)
          (λ k q.
          ap (λ (z : List ℕ). at z k) d
          ∙ layers_in-at l w (λ x. cond (t x) n (at l x)) r' k q
          ∙ ap (λ (v : ℕ). cond (t k) n v) (ap (λ (z : List ℕ). at z k) e ∙ layers_in-at b w f r k q))
          (λ k q.
          ap (λ (z : List ℕ). at z k) d
          ∙ layers_in_behind l w (λ x. cond (t x) n (at l x)) r' k q
          ∙ ap (λ (z : List ℕ). at z k) e
          ∙ layers_in_behind b w f r k q)
    ]

-- ---- one sprite more, at column x: its layer and its colour go by the same test
module _ (s : Stand) (code : ℕ → ℕ) (prio : ℕ → Bool) (c : Canvas) (n : ℕ) (own : ℕ → ℕ) (x : ℕ) where
  -- it is drawn there
  abbrev drawn_at : Bool
  drawn_at = leb s.x x && drawn s code prio c (x - s.x)

  abbrev stopped_at : Bool
  stopped_at = leb s.x x && stopped s code prio c (x - s.x)

  owned_is : owned s code prio c n own x ≡ owner n drawn_at stopped_at (own x)
  unfolding owned
  owned_is = split (leb s.x x) (λ e. rw e) (λ e. rw e)

  pub owned-drawn : drawn_at ≡ true → owned s code prio c n own x ≡ 64 + n
  owned-drawn e = owned_is ∙ rw e

  pub owned_stopped : drawn_at ≡ false → stopped_at ≡ true → own x ≡ 0 → owned s code prio c n own x ≡ 1
  owned_stopped e f z = owned_is ∙ rw (e, f, z)

  pub owned-left : drawn_at ≡ false → (stopped_at && eqb (own x) 0) ≡ false → owned s code prio c n own x ≡ own x
  owned-left e f = owned_is ∙ rw (e, f)

  pub colour_drawn : drawn_at ≡ true → (laid s code prio c).colour x ≡ 16 + code (s.start + (x - s.x))
  unfolding laid
  colour_drawn e = rw e

  pub colour_left : drawn_at ≡ false → (laid s code prio c).colour x ≡ c.colour x
  unfolding laid
  colour_left e = rw e

  -- a drawn pixel is one of its tile's, and its code is not 0
  pub drawn_solid : drawn_at ≡ true → solid s.start s.end code (x - s.x) ≡ true
  unfolding drawn marked
  drawn_solid e =
      let k = x - s.x in
      let d = (both (leb s.x x) (s.seen && ((solid s.start s.end code k && not (held_back s code prio c k)) && not (struck s code prio c k)))
      e).1 in
      let m = (both s.seen ((solid s.start s.end code k && not (held_back s code prio c k)) && not (struck s code prio c k)) d).1 in
      (both (solid s.start s.end code k) (not (held_back s code prio c k))
      (both (solid s.start s.end code k && not (held_back s code prio c k)) (not (struck s code prio c k)) m).0).0
