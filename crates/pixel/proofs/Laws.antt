-- One column of a sprite laid on a canvas, and the list of sprites on one column.
-- Assumes nothing.
use Rattle.std.proofs.Common.{◌≡◌, ℕ, zero, suc, ◌+◌, ◌-◌, ◌%◌, ◌<◌, ◌≤◌, min, Bool, true, false, cond, not, ◌&&◌, ◌||◌, ltb, leb, ◌⊎◌, List, take, sym, refl}
use Rattle.std.proofs.Common.{ap, ◌∙◌, subst, inl, inr, ⊎_elim, add-zero, zero-add, arith, ltb-false, ltb-true, le-ltb, lt-ltb, ne_eqb, le-leb, leb-true}
use native.Mathlib.Decide.{dec_lt}
use lib.Bits.{bit_or, or_zero_r}
use borrow.Author.Tests.{lt-leb}
use Rattle.laws.specs.Bits.{bit}
use Rattle.laws.specs.Circle.{past}
use Rattle.laws.specs.Lists.{at}
use Rattle.laws.proofs.Bits.{bit_above, bit-or}
use Rattle.picture.specs.declared.Stand.{Stand}
use Rattle.picture.specs.declared.Screen.{Screen}
use Rattle.picture.specs.declared.Screen.TheVariants.{VisibleOnly, EffectiveArea, TrueEdges, Home}
use Rattle.picture.specs.Tile.{code_at, names_at, map_colour}
use Rattle.picture.specs.View.{View, early, cut_mark, visible, visible_stand, visible_seen, visible_end, effective_stand, true_edges, edge_stand, home}
use Rattle.picture.specs.Picture.{Canvas, front, solid, held_back, marked, struck, drawn, laid, bare, table_at, top_of, tall, on_line, listed, with_sprites}
use Rattle.picture.specs.Picture.{picture, fills, filled, back as map_at}
use Rattle.picture.specs.Screen.{columns, picture_of}
use Rattle.background.specs.Background.{back_colour, prio_to, cut_of, home_column, home_last}
use Rattle.background.proofs.Views.{back_at, front_at_lem, visible_x, effective_mark}
use Rattle.background.proofs.Home.{prio_own, home_back_at, home_front_at}
use Rattle.stand.specs.Stand.{stand_of}
use Rattle.sprites.proofs.List.{Going, list_skips}
use Rattle.pixel.specs.declared.one_column.Scene.{Scene}
use Rattle.pixel.specs.declared.one_column.Column.{Column}
use Rattle.pixel.specs.Column.{Clear, front_at, left_of, off_of, ahead_of, back_of, reach_of, marks_left, colour_with, Tied, Shows}

-- ---- every stand is tied to its column
visible_tied : (e h : ℕ) → e ≤ 8 → Tied (48 + e) (visible_stand e h).start (visible_stand e h)
unfolding visible_stand
visible_tied e h l =
    record {
      mark = λ q. rw q (omega arith);
      prio = λ q. rw q (omega arith);
      edge = λ q.
          elim (dec_lt h (48 + e)) [
            | yes a ↦ inr (omega arith)
            | no a ↦ inl (omega arith)
          ];
      within = omega arith;
    }

effective_tied : (e h : ℕ) → e ≤ 8 → Tied e (effective_stand e h).start (effective_stand e h)
unfolding effective_stand
effective_tied e h l = record { mark = λ q. omega arith; prio = λ q. omega arith; edge = λ q. inl refl; within = omega arith }

edge_tied : (left width e h : ℕ) → Tied 0 0 (edge_stand left width e h)
unfolding edge_stand
edge_tied left width e h = record { mark = λ q. refl; prio = λ q. omega arith; edge = λ q. inl refl; within = omega arith }

pub tied : (s : Screen) (e h : ℕ) → e ≤ 8 → Tied (off_of s e) (back_of s (stand_of s e h).start) (stand_of s e h)
tied VisibleOnly e h l = visible_tied e h l
tied EffectiveArea e h l = effective_tied e h l
tied TrueEdges e h l = edge_tied 48 160 e h
tied Home e h l = edge_tied 0 256 e h

visible_low : (e h : ℕ) → (visible_stand e h).end ≤ 8
unfolding visible_stand visible_end
visible_low e h =
    elim (dec_lt 160 (h - 48 - e)) [
      | yes a ↦ rw (lt-ltb 160 (h - 48 - e) a) (omega arith)
      | no a ↦ let k : h - 48 - e ≤ 160 = omega arith in rw (le-ltb 160 (h - 48 - e) k) (omega arith)
    ]

effective_low : (e h : ℕ) → (effective_stand e h).end ≤ 8
unfolding effective_stand
effective_low e h = omega arith

edge_low : (left width e h : ℕ) → (edge_stand left width e h).end ≤ 8
unfolding edge_stand
edge_low left width e h = omega arith

pub end_low : (s : Screen) (e h : ℕ) → (stand_of s e h).end ≤ 8
end_low VisibleOnly e h = visible_low e h
end_low EffectiveArea e h = effective_low e h
end_low TrueEdges e h = edge_low 48 160 e h
end_low Home e h = edge_low 0 256 e h

-- ---- places around the circle
further : (a b k : ℕ) → a % 256 ≡ b % 256 → (a + k) % 256 ≡ (b + k) % 256
further a b k e = omega arith

back : (a b k : ℕ) → (a + k) % 256 ≡ (b + k) % 256 → a % 256 ≡ b % 256
back a b k e = omega arith

-- a column that is so far past the mark
past_mark : (i mark : ℕ) → i < 256 → (mark + past i mark) % 256 ≡ i
past_mark i mark h = let m = mark % 256 in further mark (mark % 256) (past i mark) (omega arith) ∙ omega arith

-- what stands j to the left of the column stands as far to the left of its place in the mask
prio_place : (col off j mark prio : ℕ) → j < 8 → (prio + off) % 256 ≡ mark % 256 → left_of col j ≡ (prio + past (left_of (col + off) j) mark) % 256
prio_place col off j mark prio h e =
    let i = left_of (col + off) j in
    let k = past i mark in
    let l : i < 256 = omega arith in
    let a : (prio + off + k) % 256 ≡ i = further (prio + off) mark k e ∙ past_mark i mark l in
    let r : prio + off + k ≡ prio + k + off = omega arith in
    let q : col + off + 256 - j ≡ col + 256 - j + off = omega arith in
    sym (back (prio + k) (col + 256 - j) off (ap (λ (n : ℕ). n % 256) (sym r) ∙ a ∙ ap (λ (n : ℕ). n % 256) q))

-- a sprite's column col - x stands `start` to the left of the column's place
mark_place : (col off start x mark : ℕ) → start < 8 → x ≤ col → (mark + start) % 256 ≡ (x + off) % 256 → left_of (col + off) start ≡
    (mark + (col - x)) % 256
mark_place col off start x mark s l e =
    let d = col - x in
    let r : mark + start + d ≡ mark + d + start = omega arith in
    let q : (x + off + d) % 256 ≡ (col + off + 256 - start + start) % 256 = omega arith in
    sym (back (mark + d) (col + off + 256 - start) start (ap (λ (n : ℕ). n % 256) (sym r) ∙ further (mark + start) (x + off) d e ∙ q))

past_place : (i mark k : ℕ) → k < 256 → i ≡ (mark + k) % 256 → past i mark ≡ k
past_place i mark k h e = omega arith

-- so far to the right of a sprite's mark none of the places to the left that are needed is one of its columns
far_place : (i j mark c : ℕ) → mark < 256 → c ≤ 7 → j < 8 - c → 15 - c ≤ (i + 256 - mark) % 256 → 8 ≤ past (left_of i j) mark
far_place i j mark c ml cl l d = omega arith

-- the sprite's column that stands j to the left of the column's place
pub left_past : (col off j mark : ℕ) → j < 8 → mark < 512 → (col + off + 768 - j - mark) % 256 ≡ past (left_of (col + off) j) mark
left_past col off j mark h l = omega arith

-- ---- two tests at once, as the code makes them: the sprite is not seen or stands to the right; the place is not marked or is taken
pub not_here : (seen : Bool) (x col : ℕ) (rest : Bool) → (not seen || ltb col x) ≡ true → (seen && (leb x col && rest)) ≡ false
not_here true x col rest h = rw (lt-leb x col (ltb-true col x h))
not_here false x col rest h = refl

pub here_left : (seen : Bool) (x col : ℕ) → (not seen || ltb col x) ≡ false → x ≤ col
here_left true x col h = ltb-false col x h
here_left false x col h = let z : ◌≡◌ {A = ℕ} 0 1 = cc in absurd (omega arith)

pub here : (seen : Bool) (x col : ℕ) (rest : Bool) → (not seen || ltb col x) ≡ false → (seen && (leb x col && rest)) ≡ rest
here true x col rest h = rw (le-leb x col (ltb-false col x h))
here false x col rest h = cc

pub not-drawn : (marked taken : Bool) → (not marked || taken) ≡ true → (marked && not taken) ≡ false
not-drawn true true h = refl
not-drawn true false h = sym h
not-drawn false taken h = refl

pub is_drawn : (marked taken : Bool) → (not marked || taken) ≡ false → (marked && not taken) ≡ true
is_drawn true true h = sym h
is_drawn true false h = refl
is_drawn false taken h = sym h

-- ---- a test that counts only where another holds
when : (t : Bool) {x y : Bool} → (t ≡ true → x ≡ y) → (t && x) ≡ (t && y)
when true e = e refl
when false e = refl

same_tests : (seen left own bits taken mark struck : Bool) → (seen ≡ true → left ≡ true → own ≡ true → (bits ≡ mark) × (taken ≡ struck)) →
    (own ≡ false → mark ≡ false)
    → (seen && (left && (own && (bits && not taken)))) ≡ (left && (seen && (mark && not struck)))
same_tests true true true bits taken mark struck e f = rw ((e refl refl refl).0, (e refl refl refl).1)
same_tests true true false bits taken mark struck e f = rw (f refl)
same_tests true false own bits taken mark struck e f = refl
same_tests false true own bits taken mark struck e f = refl
same_tests false false own bits taken mark struck e f = refl

-- ---- one sprite
module _
    (vram : List ℕ) (b : Scene) (s : Stand) (addr col off back : ℕ) (t : Tied off back s) (low : s.end ≤ 8) (cl : col < 256) (f : ℕ → Bool)
    (c : Canvas)
    (pe : (i : ℕ) → i < 256 → front_at vram b i ≡ f i)
  where
    abbrev code : ℕ → ℕ
    code = code_at (at vram) addr

    near : (j : ℕ) → j < 8 → marks_left vram b s addr col off j ≡ marked s code f c (past (left_of (col + off) j) s.mark)
    unfolding marks_left marked held_back
    near j h =
        ap (λ (z : Bool). solid s.start s.end code (past (left_of (col + off) j) s.mark) && not z)
        (when s.seen (λ q. pe (left_of col j) (omega arith) ∙ ap f (prio_place col off j s.mark s.prio h (t.prio q))))

    module _ (under : Column) (sh : Shows col off c under) (bits : ℕ)
        (be : (j : ℕ) → j < reach_of col → bit bits j ≡ marks_left vram b s addr col off j) where
      bit_near : (j : ℕ) → j < reach_of col → bit bits j ≡ marked s code f c (past (left_of (col + off) j) s.mark)
      bit_near j h = let k : j < 8 = omega arith in be j h ∙ near j k

      mask_after : (j : ℕ) → j < reach_of col → bit (bit_or under.taken bits) j ≡ (laid s code f c).mask (left_of (col + off) j)
      unfolding laid
      mask_after j h = bit-or under.taken bits j ∙ rw (sh.mask j h, bit_near j h)

      -- where it is seen and has a pixel at the column
      module _ (q : s.seen ≡ true) (l : s.x ≤ col) (o : s.start + (col - s.x) < s.end) where
        reached : back < reach_of col
        reached = let p : s.start + (col - s.x) < 8 = omega (arith, low) in ⊎_elim (λ z. omega arith) (λ z. omega (arith, t.within)) (t.edge q)

        place : left_of (col + off) back ≡ (s.mark + (col - s.x)) % 256
        place =
            let p : back < 8 = omega (arith, low, t.within) in
            mark_place col off back s.x s.mark p l (t.mark q)

        bits_here : bit bits back ≡ marked s code f c (col - s.x)
        bits_here =
            let k : col - s.x < 256 = omega arith in
            bit_near back reached ∙ ap (λ (i : ℕ). marked s code f c i) (past_place (left_of (col + off) back) s.mark (col - s.x) k place)

        taken_here : bit under.taken back ≡ struck s code f c (col - s.x)
        unfolding struck
        taken_here = sh.mask back reached ∙ ap (λ (i : ℕ). c.mask i) place

      no_pixel : ltb (s.start + (col - s.x)) s.end ≡ false → marked s code f c (col - s.x) ≡ false
      unfolding marked solid
      no_pixel e = rw e

      colour_after : colour_with vram s addr col back bits under.taken under.colour ≡ (laid s code f c).colour col
      unfolding colour_with laid drawn
      colour_after =
          rw sh.colour
          (ap (λ (z : Bool). cond z (16 + code (s.start + (col - s.x))) (c.colour col))
          (same_tests s.seen (leb s.x col) (ltb (s.start + (col - s.x)) s.end) (bit bits back) (bit under.taken back)
          (marked s code f c (col - s.x)) (struck s code f c (col - s.x))
          (λ q l o.
          let l' = leb-true s.x col l in
          let o' = ltb-true (s.start + (col - s.x)) s.end o in
          (bits_here q l' o', taken_here q l' o'))
          no_pixel))

      pub column_laid : {r : Column} → r.colour ≡ colour_with vram s addr col back bits under.taken under.colour → r.taken ≡ bit_or
          under.taken bits
          → Shows col off (laid s code f c) r
      column_laid ce te = record { colour = ce ∙ colour_after; mask = λ j h. rw te (mask_after j h) }

-- ---- a sprite that is far from the column
no_bit : (j : ℕ) → bit 0 j ≡ false
no_bit j = bit_above 0 0 j (omega arith) (omega arith)

-- in the visible area one that can mark anything has its column 0 at its X byte
visible_mark : (e h : ℕ) → e ≤ 8 → (8 ≤ (visible_stand e h).start) ⊎ ((visible_stand e h).mark ≡ h)
unfolding visible_stand visible_seen
visible_mark e h l =
    elim (dec_lt 40 h) [
      | yes a ↦ elim (dec_lt h 208) [
        | yes k ↦ inr (rw (lt-ltb 40 h a, lt-ltb h 208 k))
        | no k ↦ let m : 208 ≤ h = omega arith in inr (rw (lt-ltb 40 h a, le-ltb h 208 m) (omega arith))
      ]
      | no a ↦ inl (omega arith)
    ]

effective_mark_at : (e h : ℕ) → (effective_stand e h).mark ≡ h
unfolding effective_stand
effective_mark_at e h = refl

-- nor is one of a sprite whose s first columns the left edge cuts, and whose mark is 0
cut_far : (s col j c : ℕ) → col < 256 → j < 8 - c → 15 - c ≤ (col + s + 256) % 256 → 8 ≤ s + past (left_of (col + 0) j) 0
cut_far s col j c cl l d =
    elim (dec_lt col j) [
      | yes a ↦ let p : past (left_of (col + 0) j) 0 ≡ col + 256 - j = omega arith in rw p (omega arith)
      | no a ↦ let p : past (left_of (col + 0) j) 0 ≡ col - j = omega arith in rw p (omega arith)
    ]

before_0 : (col a h : ℕ) → h ≤ a → col + a + 256 - h ≡ col + (a - h) + 256
before_0 col a h l = omega arith

from_0 : (left col e h : ℕ) → left + e ≤ h → h < 256 → col + (left + e) + 256 - h ≡ col + 0 + 256 - (h - left - e)
from_0 left col e h l u = omega arith

-- a column that is so far to the right of the X byte needs no place that is one of the sprite's columns
module _ (e h col j : ℕ) (el : e ≤ 8) (hl : h < 256) (cl : col < 256) (l : j < reach_of col) where
  edge_far : (left width : ℕ) → 15 - min col 7 ≤ (col + (left + e) + 256 - h) % 256 → 8 ≤ (edge_stand left width e h).start + past
      (left_of (col + 0) j) (edge_stand left width e h).mark
  unfolding edge_stand
  edge_far left width d =
      elim (dec_lt h (left + e)) [
        | yes a ↦
            let z : h - left - e ≡ 0 = omega arith in
            rw z (cut_far (left + e - h) col j (min col 7) cl l (rw (before_0 col (left + e) h (omega arith)) at d))
        | no a ↦
            let k = far_place (col + 0) j (h - left - e) (min col 7) (omega arith) (omega arith) l (rw (from_0 left col e h (omega arith) hl) at d) in
            omega (arith, k)
      ]

  pub far_at : (s : Screen) → 15 - min col 7 ≤ (col + ahead_of s e + 256 - h) % 256
      → 8 ≤ (stand_of s e h).start + past (left_of (col + off_of s e) j) (stand_of s e h).mark
  far_at VisibleOnly d =
      ⊎_elim (λ z. omega arith) (λ z. rw z (let k = far_place (col + (48 + e)) j h (min col 7) hl (omega arith) l d in omega (arith, k)))
      (visible_mark e h el)
  far_at EffectiveArea d = rw (effective_mark_at e h) (let k = far_place (col + e) j h (min col 7) hl (omega arith) l d in omega (arith, k))
  far_at TrueEdges d = edge_far 48 160 d
  far_at Home d = let k : 15 - min col 7 ≤ (col + (0 + e) + 256 - h) % 256 = rw (zero-add e) d in edge_far 0 256 k

module _
    (vram : List ℕ) (b : Scene) (s : Stand) (addr col off back : ℕ) (low : s.end ≤ 8)
    (d : (j : ℕ) → j < reach_of col → 8 ≤ s.start + past (left_of (col + off) j) s.mark)
  where
    far_column : (j : ℕ) → j < reach_of col → s.end ≤ s.start + past (left_of (col + off) j) s.mark
    far_column j l = let k = d j l in omega (arith, low, k)

    far_marks : (j : ℕ) → j < reach_of col → bit 0 j ≡ marks_left vram b s addr col off j
    unfolding marks_left solid
    far_marks j l = no_bit j ∙ rw (le-ltb (s.start + past (left_of (col + off) j) s.mark) s.end (far_column j l))

    none : (t u v : Bool) → (t && (u && (v && false))) ≡ false
    none true true true = refl
    none true true false = refl
    none true false v = refl
    none false u v = refl

    far_colour : (taken old : ℕ) → old ≡ colour_with vram s addr col back 0 taken old
    unfolding colour_with
    far_colour taken old = rw (no_bit back, none s.seen (leb s.x col) (ltb (s.start + (col - s.x)) s.end))

    -- it changes neither the column nor the places near it
    pub column_far : (f : ℕ → Bool) (c : Canvas) (under : Column) → Tied off back s → col < 256 → ((i : ℕ) → i < 256 → front_at vram b i ≡ f i) →
        Shows col off c under
        → Shows col off (laid s (code_at (at vram) addr) f c) under
    column_far f c under t cl pe sh =
        column_laid vram b s addr col off back t low cl f c pe under sh 0 far_marks (far_colour under.taken under.colour)
        (sym (or_zero_r under.taken))

-- ---- the list
pub column_starts : (col off : ℕ) (colour : ℕ → ℕ) {r : Column} → r.colour ≡ colour col → r.taken ≡ 0 → Shows col off (bare colour) r
unfolding bare
column_starts col off colour e z = record { colour = e; mask = λ j h. rw z (no_bit j) }

-- the search may begin behind sprites that are not on the line
pub going_from : (m g : ℕ → ℕ) (stand : ℕ → Stand) (l : ℕ) (f : ℕ → Bool) (colour : ℕ → ℕ) {n : ℕ} (S : Canvas → Type 0) → listed m g l 64 0 ≡ listed
    m g l (64 - n) n
    → S (bare colour) → Going m g stand l f colour n 0 (λ c L. S c)
going_from m g stand l f colour S e s = record { canvas = bare colour; layer = λ x. 0; shows = s; rest = rw e; owners = rw e; many = rw e }

-- a clear Y byte is that of a sprite which is passed over
module _ (m g : ℕ → ℕ) (l n : ℕ) (low : l < 256) where
  clear_off : Clear l (cond (tall g) 16 8) (m (table_at g + n)) → on_line m g l n ≡ false
  unfolding on_line top_of
  clear_off c =
      let top = (m (table_at g + n) + 1) % 256 in
      elim (dec_lt l top) [
        | yes h ↦ rw (lt-leb top l h)
        | no h ↦
            let a : top ≤ l = omega arith in
            let k : top + cond (tall g) 16 8 ≤ l = omega (arith, c.1) in
            rw (le-leb top l a) (le-ltb l (top + cond (tall g) 16 8) k)
      ]

  clear_skips : n < 64 → Clear l (cond (tall g) 16 8) (m (table_at g + n)) → listed m g l (64 - n) n ≡ listed m g l (64 - (n + 1)) (n + 1)
  clear_skips h c = list_skips m g l n h (ne_eqb (m (table_at g + n)) 0xD0 c.0) (clear_off c)

pub clear_is : {l l' lines lines' y y' : ℕ} → l ≡ l' → lines ≡ lines' → y ≡ y' → Clear l lines y → Clear l' lines' y'
clear_is a b c q = rw (← a, ← b, ← c) q

pub clear_all : (m g : ℕ → ℕ) (l n k : ℕ) → l < 256 → n + k ≤ 64 → ((i : ℕ) → i < k → Clear l (cond (tall g) 16 8) (m (table_at g + (n + i))))
    → listed m g l (64 - n) n ≡ listed m g l (64 - (n + k)) (n + k)
clear_all m g l n zero low h c = rw (add-zero n)
clear_all m g l n (suc k) low h c =
    let e : n + suc k ≡ n + k + 1 = omega arith in
    clear_all m g l n k low (omega arith) (λ i j. c i (omega arith)) ∙ clear_skips m g l (n + k) low (omega arith) (c k (omega arith)) ∙ rw e

-- eight sprites are laid: none of what is left of the list is
pub going_eight : (m g : ℕ → ℕ) (stand : ℕ → Stand) (l : ℕ) (f : ℕ → Bool) (colour : ℕ → ℕ) {n count : ℕ} (S : Canvas → Type 0) → count ≡ 8
    → Going m g stand l f colour n count (λ c L. S c) → S (with_sprites m g stand l f (take 8 (listed m g l 64 0)) (bare colour))
unfolding with_sprites
going_eight m g stand l f colour {n} {count} S e o = let k : 8 - count ≡ 0 = omega arith in subst S (rw k at o.rest) o.shows

-- ---- a pixel, by the view of its row
-- what a column promises of the picture: `line` gives the map's line that each column shows, and so each place of the mask
abbrev Found : (m g : ℕ → ℕ) → (ℕ → Stand) → ℕ → List ℕ → ℕ → ℕ → (ℕ → ℕ) → ℕ → ℕ → ℕ → ℕ → Type 0
Found m g stand l vram names sx line cut width col r =
    (f : ℕ → Bool) (colour : ℕ → ℕ) → ((i : ℕ) → i < 256 → prio_to vram names sx (line i) cut width i ≡ f i) → map_colour m names
    ((sx + col) % 256) (line col) ≡ colour col
    → r ≡ (with_sprites m g stand l f (take 8 (listed m g l 64 0)) (bare colour)).colour col

-- where all columns show the map's line y
one_line : (t : Bool) (y : ℕ) → cond t y y ≡ y
one_line true y = refl
one_line false y = refl

module _
    (vram reg : List ℕ) (v : View) (names sx y cut : ℕ) (ne : names ≡ names_at (at reg)) (ex : (x : ℕ) → x < v.width → v.map_x x ≡ (sx + x) % 256)
    (ey : (x : ℕ) → v.map_y x ≡ y) (em : (x : ℕ) → x < v.width → v.mark_at x ≡ cut_mark cut x)
  where
    pub view_number : (col : ℕ) {r : ℕ} → col < v.width
        → Found (at vram) (at reg) v.stand v.line vram names sx (λ x. cond (leb 192 x) y y) cut v.width col r
        → r ≡ (picture (at vram) (at reg) v).colour col
    unfolding picture back_colour
    view_number col l found =
        found (front (at vram) (at reg) v) (map_at (at vram) (at reg) v)
        (λ i h. rw (one_line (leb 192 i) y) (front_at_lem vram reg v names sx y ne ex ey cut em i))
        (rw (one_line (leb 192 col) y) (back_at vram reg v names sx y ne ex ey cut em col l))

pub scrolled_number : (s : Screen) (vram reg : List ℕ) (names sx cut scroll row col : ℕ) {r : ℕ}
    → columns s ≡ 160 → at reg 8 < 256 → names ≡ names_at (at reg) → sx ≡ (304 - at reg 8) % 256 → cut ≡ cut_of s (sx % 8) → col < 160
    → Found (at vram) (at reg) (stand_of s (early (at reg))) (row + 24) vram names sx
    (λ x. cond (leb 192 x) ((row + 24 + scroll) % 224) ((row + 24 + scroll) % 224)) cut 160 col r
    → r ≡ (picture_of s reg scroll vram row).colour col
unfolding picture_of visible true_edges
scrolled_number VisibleOnly vram reg names sx cut scroll row col w low ne se ce l found =
    view_number vram reg (visible (at reg) scroll row) names sx ((row + 24 + scroll) % 224) cut ne (λ x h. rw se (visible_x (at reg 8) x low))
    (λ x. refl) (λ x h. rw (ce, se)) col l found
scrolled_number EffectiveArea vram reg names sx cut scroll row col w low ne se ce l found = absurd (omega arith)
scrolled_number TrueEdges vram reg names sx cut scroll row col w low ne se ce l found =
    view_number vram reg (true_edges (at reg) scroll row) names sx ((row + 24 + scroll) % 224) cut ne (λ x h. rw se (visible_x (at reg 8) x low))
    (λ x. refl) (λ x h. rw ce (effective_mark x (omega arith))) col l found
scrolled_number Home vram reg names sx cut scroll row col w low ne se ce l found = absurd (omega arith)

-- at home, under the fill and where it is
module _ (vram reg : List ℕ) (scroll row col : ℕ) where
  pub home_filled : fills (at reg) col ≡ true → 16 + at reg 7 % 16 ≡ (picture_of Home reg scroll vram row).colour col
  unfolding picture_of filled
  home_filled e = rw e

  pub home_number : (names sx y last : ℕ) {r : ℕ} → fills (at reg) col ≡ false
      → at reg 8 < 256 → names ≡ names_at (at reg) → sx ≡ home_column reg row → y ≡ (row + scroll) % 224 → last ≡ home_last reg row y → col < 256
      → Found (at vram) (at reg) (stand_of Home (early (at reg))) row vram names sx (λ x. cond (leb 192 x) last y) 0 256 col r
      → r ≡ (picture_of Home reg scroll vram row).colour col
  unfolding picture_of filled picture home back_colour
  home_number names sx y last e low ne se ye le l found =
      let v : View = home (at reg) scroll row in
      rw e
      (found (front (at vram) (at reg) v) (map_at (at vram) (at reg) v)
      (λ i h. prio_own vram names sx (cond (leb 192 i) last y) 256 i (omega arith) h
      ∙ home_front_at vram reg names sx y last scroll row low ne se ye le i h)
      (home_back_at vram reg names sx y last scroll row low ne se ye le col l))
