-- A sprite's line of bytes and marks shows the sprite laid on the canvas.
-- Assumes nothing.
use Rattle.std.proofs.Common.{◌≡◌, ℕ, ◌+◌, ◌-◌, ◌*◌, ◌%◌, ◌<◌, ◌≤◌, Bool, true, false, cond, not, ◌&&◌, ◌||◌, eqb, ltb, leb, List, length, sym, refl, ap, ◌∙◌}
use Rattle.std.proofs.Common.{lt_of_le_of_lt, arith, ltb-true, le-ltb, lt-ltb, le-leb}
use mathlib.Core.Bool.{and-true, and-false, and_comm}
use native.Mathlib.Decide.{dec_lt}
use lib.Bits.{bit_and, and_le_r}
use lib.ListN.{get_or-eq_default}
use borrow.Author.Tests.{lt-leb}
use Rattle.laws.specs.Bits.{bit, number, byte_of}
use Rattle.laws.specs.Circle.{past}
use Rattle.laws.specs.Lists.{at}
use Rattle.laws.specs.Paint.{painted, overlaid, overlay}
use Rattle.laws.proofs.Any.{any_cong, any_number, bit_of_lem}
use Rattle.laws.proofs.Bits.{bit_byte_of, bit_number, number_bit, number_ext, bit-and}
use Rattle.laws.proofs.Tables.{table_ext}
use Rattle.laws.proofs.Paint.{overlaid_painted, overlay_at, painted_cong, length-painted}
use Rattle.laws.proofs.Tests.{both, cond-in, same_cond}
use Rattle.bitmap.specs.Mask.{bit_of, bytes_of, byte_at, with_byte, hits}
use Rattle.bitmap.proofs.Circle.{bit_byte_at, bit_of_bytes_of, bytes_of_ext, with_byte-bytes_of}
use Rattle.picture.specs.declared.Stand.{Stand}
use Rattle.picture.specs.Tile.{code_at}
use Rattle.picture.specs.Picture.{Canvas, solid, held_back, marked, struck, drawn, laid}
use Rattle.picture.specs.Layers.{owner, stopped, owned, layers_in}
use Rattle.picture.proofs.Layers.{length-layers_in, layers_in-at, layers_in_behind, layers_in_is, layers_in-none}
use Rattle.tile.specs.Line.{line_marked, line_drawn, line_held, sprite_colour}
use Rattle.tile.specs.Layer.{stamped}
use Rattle.tile.proofs.Layer.{stamped_length, stamped_at}
use Rattle.sprites.specs.Sprites.{stamped_if}

-- ---- `mask & bits` is not 0 where a column is set in both
pub hits_is : (m : List ℕ) (h pix : ℕ) → pix < 256 → not (eqb (bit_and (byte_at m h) pix) 0) ≡ hits m h pix
unfolding hits
hits_is m h pix small =
    let both = bit_and (byte_at m h) pix in
    ap (λ (x : ℕ). not (eqb x 0))
    (sym (number_bit 8 both (lt_of_le_of_lt (and_le_r (byte_at m h) pix) small))
    ∙ number_ext 8 (bit both) (λ j. bit_of m (h + j) && bit pix j)
    (λ j hj. bit-and (byte_at m h) pix j ∙ ap (λ (b : Bool). b && bit pix j) (bit_byte_at m h j hj)))
    ∙ any_number 8 (λ j. bit_of m (h + j) && bit pix j)

-- ---- the marks
module _ (s : Stand) (code : ℕ → ℕ) (f : ℕ → Bool) (c : Canvas) (low : s.end ≤ 8) where
  marked_far : (k : ℕ) → 8 ≤ k → marked s code f c k ≡ false
  unfolding marked solid
  marked_far k h = let l : s.end ≤ s.start + k = omega arith in rw (le-ltb (s.start + k) s.end l)

  drawn_far : (k : ℕ) → 8 ≤ k → drawn s code f c k ≡ false
  unfolding drawn
  drawn_far k h = rw (marked_far k h) (and-false s.seen)

  near : (k : ℕ) → (ltb k 8 && marked s code f c k) ≡ marked s code f c k
  near k =
      elim (dec_lt k 8) [
        | yes h ↦ rw (lt-ltb k 8 h)
        | no h ↦ let l : 8 ≤ k = omega arith in rw (le-ltb k 8 l) (sym (marked_far k l))
      ]

  pub mask_laid : with_byte (bytes_of c.mask) s.mark (byte_of (marked s code f c)) ≡ bytes_of (laid s code f c).mask
  unfolding laid byte_of
  mask_laid =
      with_byte-bytes_of c.mask s.mark (number 8 (marked s code f c))
      ∙ bytes_of_ext (λ i. c.mask i || bit (number 8 (marked s code f c)) (past i s.mark)) (λ i. c.mask i || marked s code f c (past i s.mark))
      (λ i l. ap (λ (b : Bool). c.mask i || b) (bit_of_lem 8 (marked s code f c) (past i s.mark) ∙ near (past i s.mark)))

  hit_laid : (c.hit || hits (bytes_of c.mask) s.mark (byte_of (marked s code f c))) ≡ (laid s code f c).hit
  unfolding laid hits struck byte_of
  hit_laid =
      ap (λ (b : Bool). c.hit || b)
      (any_cong 8 (λ j. bit_of (bytes_of c.mask) (s.mark + j) && bit (number 8 (marked s code f c)) j)
      (λ k. marked s code f c k && c.mask ((s.mark + k) % 256))
      (λ k h. rw (bit_of_bytes_of c.mask (s.mark + k), bit_number 8 (marked s code f c) k h)
      (and_comm (c.mask ((s.mark + k) % 256)) (marked s code f c k))))

-- ---- the columns
module _ (s : Stand) (vram : List ℕ) (addr : ℕ) (f : ℕ → Bool) (c : Canvas) (low : s.end ≤ 8) where
  marked_seen : s.seen ≡ true → (k : ℕ) → k < 8 → line_marked vram addr s.start s.end (byte_at (bytes_of f) s.prio) k ≡ marked s
      (code_at (at vram) addr) f c k
  unfolding line_marked marked held_back
  marked_seen q k h = rw (q, bit_byte_at (bytes_of f) s.prio k h, bit_of_bytes_of f (s.prio + k))

  drawn_seen : s.seen ≡ true → (width k : ℕ) → k < 8 → s.x + k < width
      → line_drawn vram addr s.start s.end (byte_at (bytes_of f) s.prio) (byte_at (bytes_of c.mask) s.mark) width s.x k ≡ drawn s
      (code_at (at vram) addr) f c k
  unfolding line_drawn drawn struck
  drawn_seen q width k h l =
      rw (lt-ltb (s.x + k) width l, marked_seen q k h, bit_byte_at (bytes_of c.mask) s.mark k h, bit_of_bytes_of c.mask (s.mark + k))
      (and-true (marked s (code_at (at vram) addr) f c k && not (c.mask ((s.mark + k) % 256)))
      ∙ sym (ap (λ (b : Bool). b && (marked s (code_at (at vram) addr) f c k && not (c.mask ((s.mark + k) % 256)))) q))

  pub bits_seen : s.seen ≡ true → byte_of (line_marked vram addr s.start s.end (byte_at (bytes_of f) s.prio)) ≡ byte_of
      (marked s (code_at (at vram) addr) f c)
  unfolding byte_of
  bits_seen q = number_ext 8 (line_marked vram addr s.start s.end (byte_at (bytes_of f) s.prio)) (marked s (code_at (at vram) addr) f c)
      (λ k h. marked_seen q k h)

  marked_unseen : s.seen ≡ false → (k : ℕ) → solid s.start s.end (code_at (at vram) addr) k ≡ marked s (code_at (at vram) addr) f c k
  unfolding marked held_back
  marked_unseen q k = rw q (sym (and-true (solid s.start s.end (code_at (at vram) addr) k)))

  pub bits_unseen : s.seen ≡ false → byte_of (solid s.start s.end (code_at (at vram) addr)) ≡ byte_of (marked s (code_at (at vram) addr) f c)
  unfolding byte_of
  bits_unseen q = number_ext 8 (solid s.start s.end (code_at (at vram) addr)) (marked s (code_at (at vram) addr) f c) (λ k h. marked_unseen q k)

  -- ---- the row
  module _ (width : ℕ) (colours row₀ : List ℕ) where
    abbrev shown : ℕ → Bool
    shown k = line_drawn vram addr s.start s.end (byte_at (bytes_of f) s.prio) (byte_at (bytes_of c.mask) s.mark) width s.x k

    inside : (i : ℕ) → i < 8 → shown i ≡ true → s.x + i < width
    unfolding line_drawn
    inside i l e =
        ltb-true (s.x + i) width
        (both (line_marked vram addr s.start s.end (byte_at (bytes_of f) s.prio) i && not (bit (byte_at (bytes_of c.mask) s.mark) i))
        (ltb (s.x + i) width) e).1

    same_test : s.seen ≡ true → (p : ℕ) → p < width → (leb s.x p && (ltb (p - s.x) 8 && shown (p - s.x))) ≡
        (leb s.x p && drawn s (code_at (at vram) addr) f c (p - s.x))
    same_test q p l =
        elim (dec_lt p s.x) [
          | yes h ↦ rw (lt-leb s.x p h)
          | no h ↦
              elim (dec_lt (p - s.x) 8) [
                | yes k ↦
                    let r : s.x + (p - s.x) < width = omega arith in
                    rw (lt-ltb (p - s.x) 8 k, drawn_seen q width (p - s.x) k r)
                | no k ↦
                    let r : 8 ≤ p - s.x = omega arith in
                    rw (le-ltb (p - s.x) 8 r, drawn_far s (code_at (at vram) addr) f c low (p - s.x) r)
              ]
        ]

    row_seen : s.seen ≡ true → width * 4 ≤ length row₀
        → overlaid (painted row₀ 0 width (λ x. at colours (c.colour x))) s.x 8 shown (sprite_colour colours vram addr s.start)
        ≡ painted row₀ 0 width (λ x. at colours ((laid s (code_at (at vram) addr) f c).colour x))
    unfolding laid
    row_seen q room =
        overlaid_painted row₀ width (λ x. at colours (c.colour x)) s.x 8 shown (sprite_colour colours vram addr s.start) inside room
        ∙ painted_cong row₀ 0 width (overlay (λ x. at colours (c.colour x)) s.x 8 shown (sprite_colour colours vram addr s.start))
        (λ x. at colours (cond (leb s.x x && drawn s (code_at (at vram) addr) f c (x - s.x)) (16 + code_at (at vram) addr (s.start + (x - s.x)))
        (c.colour x)))
        (λ p l.
        overlay_at (λ x. at colours (c.colour x)) s.x 8 shown (sprite_colour colours vram addr s.start) p
        ∙ rw (same_test q p l)
        (cond-in (λ (k : ℕ). at colours k) (leb s.x p && drawn s (code_at (at vram) addr) f c (p - s.x))
        (16 + code_at (at vram) addr (s.start + (p - s.x))) (c.colour p)))

    row_unseen : s.seen ≡ false → painted row₀ 0 width (λ x. at colours (c.colour x)) ≡ painted row₀ 0 width
        (λ x. at colours ((laid s (code_at (at vram) addr) f c).colour x))
    unfolding laid drawn
    row_unseen q = painted_cong row₀ 0 width _ _ (λ p l. rw (q, and-false (leb s.x p)))

-- ---- all of it
-- the row's bytes, the sprites' mask and whether two pixels met show the canvas c, painted on what was row₀
pub record Shows (row₀ colours : List ℕ) (width : ℕ) (c : Canvas) (row marks : List ℕ) (met : Bool) : Type 0 where
  pub bytes : row ≡ painted row₀ 0 width (λ x. at colours (c.colour x))
  pub mask : marks ≡ bytes_of c.mask
  pub hit : met ≡ c.hit

-- the pixels that a sprite marks, and the row with it, as the code finds them
module _ (s : Stand) (vram : List ℕ) (addr : ℕ) (f : ℕ → Bool) (c : Canvas) (low : s.end ≤ 8) (width : ℕ) (colours row₀ : List ℕ) where
  abbrev held : ℕ
  held = byte_at (bytes_of f) s.prio

  abbrev taken : ℕ
  taken = byte_at (bytes_of c.mask) s.mark

  bits_are : (b : Bool) → s.seen ≡ b
      → cond b (byte_of (line_marked vram addr s.start s.end held)) (byte_of (solid s.start s.end (code_at (at vram) addr))) ≡ byte_of
      (marked s (code_at (at vram) addr) f c)
  bits_are true q = bits_seen s vram addr f c low q
  bits_are false q = bits_unseen s vram addr f c low q

  row_is : (b : Bool) → s.seen ≡ b → width * 4 ≤ length row₀
      → cond b (overlaid (painted row₀ 0 width (λ x. at colours (c.colour x))) s.x 8
      (line_drawn vram addr s.start s.end held taken width s.x) (sprite_colour colours vram addr s.start))
      (painted row₀ 0 width (λ x. at colours (c.colour x)))
      ≡ painted row₀ 0 width (λ x. at colours ((laid s (code_at (at vram) addr) f c).colour x))
  row_is true q room = row_seen s vram addr f c low width colours row₀ q room
  row_is false q room = row_unseen s vram addr f c low width colours row₀ q

  pub shows-laid : {row row' prio marks marks' : List ℕ} {met met' : Bool} {h t bits : ℕ} → width * 4 ≤ length row → prio ≡ bytes_of f → Shows row₀
      colours width c row marks met
      → h ≡ byte_at prio s.prio → t ≡ byte_at marks s.mark → bits < 256
      → row' ≡ cond s.seen (overlaid row s.x 8 (line_drawn vram addr s.start s.end h t width s.x)
      (sprite_colour colours vram addr s.start)) row
      → bits ≡ cond s.seen (byte_of (line_marked vram addr s.start s.end h)) (byte_of (solid s.start s.end (code_at (at vram) addr)))
      → met' ≡ (met || not (eqb (bit_and t bits) 0)) → marks' ≡ with_byte marks s.mark bits
      → Shows row₀ colours width (laid s (code_at (at vram) addr) f c) row' marks' met'
  shows-laid {marks} {met} {bits} room pe sh he te small re be me ke =
      let hd : _ ≡ held = he ∙ ap (λ (l : List ℕ). byte_at l s.prio) pe in
      let tk : _ ≡ taken = te ∙ ap (λ (l : List ℕ). byte_at l s.mark) sh.mask in
      let bt : bits ≡ byte_of (marked s (code_at (at vram) addr) f c) = be ∙ rw hd (bits_are s.seen refl) in
      let rm : width * 4 ≤ length row₀ = omega (arith, ap length sh.bytes ∙ length-painted row₀ 0 width (λ x. at colours (c.colour x))) in
      let ht : _ ≡ (met || hits marks s.mark bits) = me ∙ ap (λ (b : Bool). met || b)
      (ap (λ (k : ℕ). not (eqb (bit_and k bits) 0)) te ∙ hits_is marks s.mark bits small) in
      record {
        bytes = re ∙ rw (hd, tk, sh.bytes) (row_is s.seen refl rm);
        mask = ke ∙ rw (sh.mask, bt) (mask_laid s (code_at (at vram) addr) f c low);
        hit = ht ∙ rw (sh.mask, sh.hit, bt) (hit_laid s (code_at (at vram) addr) f c low);
      }

-- ---- the layers
module _ (s : Stand) (vram : List ℕ) (addr : ℕ) (f : ℕ → Bool) (c : Canvas) (low : s.end ≤ 8) where
  stopped_seen : s.seen ≡ true → (k : ℕ) → k < 8 → line_held vram addr s.start s.end (byte_at (bytes_of f) s.prio) k ≡ stopped s
      (code_at (at vram) addr) f c k
  unfolding line_held stopped held_back
  stopped_seen q k h =
      rw (bit_byte_at (bytes_of f) s.prio k h, bit_of_bytes_of f (s.prio + k))
      (sym (ap (λ (b : Bool). solid s.start s.end (code_at (at vram) addr) k && (b && f ((s.prio + k) % 256))) q))

  stopped_far : (k : ℕ) → 8 ≤ k → stopped s (code_at (at vram) addr) f c k ≡ false
  unfolding stopped solid
  stopped_far k h = let l : s.end ≤ s.start + k = omega arith in rw (le-ltb (s.start + k) s.end l)

  stopped_unseen : s.seen ≡ false → (k : ℕ) → stopped s (code_at (at vram) addr) f c k ≡ false
  unfolding stopped held_back
  stopped_unseen q k = rw q (and-false (solid s.start s.end (code_at (at vram) addr) k))

  drawn_unseen : s.seen ≡ false → (k : ℕ) → drawn s (code_at (at vram) addr) f c k ≡ false
  unfolding drawn
  drawn_unseen q k = rw q

  module _ (width n : ℕ) (base : List ℕ) (own : ℕ → ℕ) where
    abbrev shown_byte : ℕ
    shown_byte = byte_of (line_drawn vram addr s.start s.end (byte_at (bytes_of f) s.prio) (byte_at (bytes_of c.mask) s.mark) width s.x)

    abbrev held_byte : ℕ
    held_byte = byte_of (line_held vram addr s.start s.end (byte_at (bytes_of f) s.prio))

    abbrev after : ℕ → ℕ
    after = owned s (code_at (at vram) addr) f c n own

    -- a column of the row: its layer, by the bytes of drawn and held back columns
    seen_at : s.seen ≡ true → (k v : ℕ) → k < width → v ≡ own k
        → cond (leb s.x k && (ltb (k - s.x) 8 && ltb k width)) (owner n (bit shown_byte (k - s.x)) (bit held_byte (k - s.x)) v) v ≡ after k
    unfolding owned
    seen_at q k v l e =
        elim (dec_lt k s.x) [
          | yes h ↦ rw (lt-leb s.x k h) e
          | no h ↦
              let a : s.x ≤ k = omega arith in
              elim (dec_lt (k - s.x) 8) [
                | yes i ↦
                    let r : s.x + (k - s.x) < width = omega arith in
                    let d : bit shown_byte (k - s.x) ≡ drawn s (code_at (at vram) addr) f c (k - s.x) = bit_byte_of _ (k - s.x) i ∙ drawn_seen s vram
                    addr f c low q width (k - s.x) i r in
                    let t : bit held_byte (k - s.x) ≡ stopped s (code_at (at vram) addr) f c (k - s.x) = bit_byte_of _ (k - s.x) i ∙ stopped_seen q
                    (k - s.x) i in
                    rw (le-leb s.x k a, lt-ltb (k - s.x) 8 i, lt-ltb k width l, d, t, e)
                | no i ↦
                    let r : 8 ≤ k - s.x = omega arith in
                    rw (le-leb s.x k a, le-ltb (k - s.x) 8 r, drawn_far s (code_at (at vram) addr) f c low (k - s.x) r, stopped_far (k - s.x) r)
                    e
              ]
        ]

    unseen_at : s.seen ≡ false → (k : ℕ) → own k ≡ after k
    unfolding owned
    unseen_at q k = rw (drawn_unseen q (k - s.x), stopped_unseen q (k - s.x)) (sym (same_cond (leb s.x k) (own k)))

    -- past the row nothing changes
    past_row : width ≤ length base → (k : ℕ) → width ≤ k → at (stamped (layers_in base width own) width s.x n shown_byte held_byte 8) k ≡ at base k
    past_row r k i =
        let l = layers_in base width own in
        elim (dec_lt k (length base)) [
          | yes h ↦
              let b : k < length l = omega (arith, length-layers_in base width own) in
              stamped_at l width s.x n shown_byte held_byte 8 k b
              ∙ rw (le-ltb k width i, and-false (ltb (k - s.x) 8), and-false (leb s.x k)) (layers_in_behind base width own r k i)
          | no h ↦
              let a : length base ≤ k = omega arith in
              let b : length (stamped l width s.x n shown_byte held_byte 8) ≤ k = omega
              (arith, stamped_length l width s.x n shown_byte held_byte 8, length-layers_in base width own) in
              get_or-eq_default (stamped l width s.x n shown_byte held_byte 8) 0 b ∙ sym (get_or-eq_default base 0 a)
        ]

    -- the buffer with them
    seen_in : s.seen ≡ true → stamped_if (layers_in base width own) width s.x n shown_byte held_byte ≡ layers_in base width after
    seen_in q =
        let n₀ = length-layers_in base width own in
        elim (dec_lt (length base) width) [
          | yes h ↦
              let o : length (layers_in base width own) < width = omega arith in
              rw (lt-leb width (length (layers_in base width own)) o) (layers_in-none base width own h ∙ sym (layers_in-none base width after h))
          | no h ↦
              let r : width ≤ length base = omega arith in
              let o : width ≤ length (layers_in base width own) = omega arith in
              let l = layers_in base width own in
              rw (le-leb width (length (layers_in base width own)) o)
              (layers_in_is base width after r (stamped l width s.x n shown_byte held_byte 8)
              (stamped_length l width s.x n shown_byte held_byte 8 ∙ n₀)
              (λ k i. let b : k < length l = omega arith in stamped_at l width s.x n shown_byte held_byte 8 k b ∙ seen_at q k (at l k) i
              (layers_in-at base width own r k i))
              (λ k i. past_row r k i))
        ]

    unseen_in : s.seen ≡ false → layers_in base width own ≡ layers_in base width after
    unfolding layers_in
    unseen_in q = rw (table_ext width own after (λ k i. unseen_at q k))

    in_either : (b : Bool) → s.seen ≡ b → cond b (stamped_if (layers_in base width own) width s.x n shown_byte held_byte) (layers_in base width own) ≡
        layers_in base width after
    in_either true q = seen_in q
    in_either false q = unseen_in q

    pub owns-laid : {row₀ colours row prio marks layers layers' : List ℕ} {w h t : ℕ} {met : Bool} → prio ≡ bytes_of f → Shows row₀ colours w c row
        marks met
        → layers ≡ layers_in base width own → h ≡ byte_at prio s.prio → t ≡ byte_at marks s.mark
        → layers' ≡ cond s.seen (stamped_if layers width s.x n (byte_of (line_drawn vram addr s.start s.end h t width s.x))
        (byte_of (line_held vram addr s.start s.end h))) layers
        → layers' ≡ layers_in base width (owned s (code_at (at vram) addr) f c n own)
    owns-laid pe sh le he te re =
        let hd : _ ≡ byte_at (bytes_of f) s.prio = he ∙ ap (λ (l : List ℕ). byte_at l s.prio) pe in
        let tk : _ ≡ byte_at (bytes_of c.mask) s.mark = te ∙ ap (λ (l : List ℕ). byte_at l s.mark) sh.mask in
        re ∙ rw (hd, tk, le) (in_either s.seen refl)
