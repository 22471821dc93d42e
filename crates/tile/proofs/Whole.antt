-- A whole line of a tile: its colours and its solid pixels from the lanes, and what a sprite's columns become, byte by byte.
-- Assumes nothing.
use mathlib.Core.Path.{◌≡◌, refl, sym, ap, ap₂, ◌∙◌}
use mathlib.Core.Bool.{Bool, true, false, not, ◌&&◌}
use mathlib.Core.List.{List}
use Prim.Native.Nat.{ℕ, zero, suc, ◌+◌, ◌-◌, ◌*◌, ◌/◌, ◌%◌, ◌^◌, ◌<◌, ◌≤◌, min}
use native.Mathlib.Nat.{zero-add, zero-div}
use native.Mathlib.Decide.{dec_lt}
use native.Mathlib.Omega.{arith}
use lib.Bits.{bit_and, bit_or, and_le_l}
use lib.Dec.{eqb, ltb, eqb→eq}
use lib.ListN.{length, take, drop, length-take, length-drop}
use lib.Seq.{get_or-take, get_or-drop}
use borrow.Author.Tests.{lt-ltb, le-ltb, ltb-true}
use Rattle.laws.specs.Bits.{bit, digit, number, byte_of}
use Rattle.laws.specs.Lists.{at}
use Rattle.laws.specs.Paint.{put, painted, overlaid, byte_of_colour, of_bytes, four_at}
use Rattle.laws.proofs.Bits.{bit-and, bit_number, bit_byte_of, number_ext, number_lt, byte_is}
use Rattle.laws.proofs.Any.{bit_of_lem}
use Rattle.laws.proofs.Bytes.{byte_0, byte_1, byte_2, byte_3, of_bytes_lem}
use Rattle.laws.proofs.Paint.{painted_step, painted_byte, overlaid_all}
use Rattle.laws.proofs.Tests.{both}
use Rattle.laws.proofs.Tables.{get_d_table, is_table}
use Rattle.laws.proofs.Sweep.{below}
use Rattle.laws.proofs.Sweep as sweep
use Rattle.picture.specs.Tile.{code_of, code_at, turned}
use Rattle.picture.specs.Picture.{solid}
use Rattle.picture.proofs.Laws.{code_at_lt}
use Rattle.tile.specs.declared.Four.{Four}
use Rattle.tile.specs.Fours.{fours}
use Rattle.tile.specs.Lanes.{lanes, lane}
use Rattle.tile.specs.Line.{colour_bytes, colours_in, line_solid, line_marked, line_drawn, line_held}
use Rattle.tile.proofs.Marks.{marked_past, drawn_past, held_past}
use Rattle.tile.proofs.Squares.{digit_same}
use Rattle.tile.proofs.Lanes.{lane_zero, lane_lanes, lane_bytes, solid_bit}

-- ---- 16 of the colours
pub half_length : (l : List ℕ) (p : ℕ) → p + 16 ≤ length l → length (take (p + 16 - p) (drop p l)) ≡ 16
half_length l p h = simp (length-take, length-drop) (omega arith)

pub half_at : (l : List ℕ) (p k : ℕ) → k < 16 → at (take (p + 16 - p) (drop p l)) k ≡ at l (p + k)
half_at l p k h = let q : k < p + 16 - p = omega arith in rw (get_or-take, get_or-drop)

-- ---- the colours as bytes
pub colours_at_lem : (l : List ℕ) (i : ℕ) → i < 32 → at (colours_in l) i ≡ four_at l (i * 4)
unfolding colours_in
colours_at_lem l i h = get_d_table 32 (λ i. four_at l (i * 4)) i h

-- one colour more of a row that is painted with them
pub colour_step : (row : List ℕ) (cs : List ℕ) (i : ℕ) {r r' : List ℕ} → r ≡ painted row 0 i (at cs) → r' ≡ put r i (at cs i) → r' ≡ painted row 0
    (i + 1) (at cs)
colour_step row cs i {r} e p = painted_step row 0 i (at cs) e refl (p ∙ ap (λ (k : ℕ). put r k (at cs i)) (sym (zero-add i)))

-- the bytes of a row of 32 pixels that are painted with them, and the colours from the bytes
pub bytes_are : (cs t : List ℕ) {l : List ℕ} → length t ≡ 128 → length l ≡ 128 → l ≡ painted t 0 32 (at cs) → l ≡ colour_bytes cs
unfolding colour_bytes
bytes_are cs t {l} n m e =
    is_table l 128 (λ k. byte_of_colour (at cs (k / 4)) (k % 4)) m
    (λ k h. let r : 32 * 4 ≤ length t = omega arith in ap (λ (x : List ℕ). at x k) e ∙ painted_byte t 32 (at cs) k h r)

byte_at : (cs : List ℕ) (i b : ℕ) → i < 32 → b < 4 → byte_of_colour (at cs i) b ≡ at (colour_bytes cs) (i * 4 + b)
unfolding colour_bytes
byte_at cs i b h m =
    let d : (i * 4 + b) / 4 ≡ i = omega arith in
    let q : (i * 4 + b) % 4 ≡ b = omega arith in
    sym (get_d_table 128 (λ k. byte_of_colour (at cs (k / 4)) (k % 4)) (i * 4 + b) (omega arith) ∙ rw (d, q))

pub colours_back : (cs : List ℕ) → length cs ≡ 32 → ((i : ℕ) → at cs i < 4294967296) → colours_in (colour_bytes cs) ≡ cs
unfolding colours_in
colours_back cs n low =
    sym
    (is_table cs 32 (λ i. four_at (colour_bytes cs) (i * 4)) n
    (λ i h.
    let z : i * 4 + 0 ≡ i * 4 = omega arith in
    let f0 : byte_of_colour (at cs i) 0 ≡ at (colour_bytes cs) (i * 4) = byte_at cs i 0 h (omega arith) ∙ ap (at (colour_bytes cs)) z in
    let f1 = byte_at cs i 1 h (omega arith) in
    let f2 = byte_at cs i 2 h (omega arith) in
    let f3 = byte_at cs i 3 h (omega arith) in
    sym (of_bytes_lem (at cs i) (low i)) ∙ (λ j. of_bytes (f0 j) (f1 j) (f2 j) (f3 j))))

part_length : (l : List ℕ) (p : ℕ) → length l ≡ 128 → p ≤ 16 → length (take (4 * p + 64 - 4 * p) (drop (4 * p) l)) ≡ 64
part_length l p n h = simp (length-take, length-drop) (omega arith)

-- four bytes of 16 of the colours
part_four : (l : List ℕ) (p k : ℕ) → p ≤ 16 → k < 16 → four_at (take (4 * p + 64 - 4 * p) (drop (4 * p) l)) (4 * k) ≡ at (colours_in l) (p + k)
part_four l p k hp h =
    let e : (j b : ℕ) → j ≡ 4 * k + b → b < 4 → at (take (4 * p + 64 - 4 * p) (drop (4 * p) l)) j ≡ at l (4 * p + j) =
    λ j b q m. let r : j < 4 * p + 64 - 4 * p = omega arith in get_or-take (4 * p + 64 - 4 * p) (drop (4 * p) l) j 0 r ∙ get_or-drop (4 * p) l j 0 in
    let e0 : at (take (4 * p + 64 - 4 * p) (drop (4 * p) l)) (4 * k) ≡ at l ((p + k) * 4) =
    e (4 * k) 0 (omega arith) (omega arith) ∙ ap (at l) (omega arith) in
    let f : (b : ℕ) → b < 4 → at (take (4 * p + 64 - 4 * p) (drop (4 * p) l)) (4 * k + b) ≡ at l ((p + k) * 4 + b) =
    λ b m. let r : 4 * p + (4 * k + b) ≡ (p + k) * 4 + b = omega arith in e (4 * k + b) b refl m ∙ ap (at l) r in
    let e1 = f 1 (omega arith) in
    let e2 = f 2 (omega arith) in
    let e3 = f 3 (omega arith) in
    (λ i. of_bytes (e0 i) (e1 i) (e2 i) (e3 i)) ∙ sym (colours_at_lem l (p + k) (omega arith))

-- lanes that are colours' numbers, times 4, among the bytes of 16 of the colours
module _ (table : List ℕ) (p codes : ℕ) (n : length table ≡ 128) (hp : p ≤ 16) (f : codes < 2 ^ 64) (h : (k : ℕ) → k < 8 → lane codes k < 16) where
  pub place_fits : (k : ℕ) → k < 8 → lane (codes * 4 % 2 ^ 64) k + 4 ≤ length (take (4 * p + 64 - 4 * p) (drop (4 * p) table))
  place_fits k l = rw (part_length table p n hp, lane_bytes codes f h k l) (omega (arith, h k l))

  pub place_four : (k : ℕ) → k < 8 → four_at (take (4 * p + 64 - 4 * p) (drop (4 * p) table)) (lane (codes * 4 % 2 ^ 64) k) ≡ at (colours_in table)
      (p + lane codes k)
  place_four k l =
      ap (four_at (take (4 * p + 64 - 4 * p) (drop (4 * p) table))) (lane_bytes codes f h k l) ∙ part_four table p (lane codes k) hp (h k l)

-- four numbers are the four that f has from k on
pub fours_are : (f : ℕ → ℕ) (k : ℕ) {a b c d : ℕ} → a ≡ f k → b ≡ f (k + 1) → c ≡ f (k + 2) → d ≡ f (k + 3)
    → ◌≡◌ {A = Four} (record { a = a; b = b; c = c; d = d }) (fours f k)
unfolding fours
fours_are f k p q r t = rw (p, q, r, t)

-- ---- a line by the four bytes x that stand at addr
abbrev pub all : ℕ → ℕ
all x = bit_or (bit_or (lane x 0) (lane x 2)) (bit_or (lane x 1) (lane x 3))

module _ (vram : List ℕ) (addr x : ℕ) (small : (k : ℕ) → at vram k < 256)
    (e : x ≡ of_bytes (at vram addr) (at vram (addr + 1)) (at vram (addr + 2)) (at vram (addr + 3))) where
  planes : (lane x 0 ≡ at vram addr) × (lane x 1 ≡ at vram (addr + 1)) × (lane x 2 ≡ at vram (addr + 2)) × (lane x 3 ≡ at vram (addr + 3))
  unfolding lane
  planes =
      let h0 = small addr in
      let h1 = small (addr + 1) in
      let h2 = small (addr + 2) in
      let h3 = small (addr + 3) in (
        lane_zero x ∙ ap (λ (n : ℕ). n % 256) e ∙ byte_0 _ _ _ _ h0 h1 h2 h3,
        ap (λ (n : ℕ). n / 256 % 256) e ∙ byte_1 _ _ _ _ h0 h1 h2 h3,
        ap (λ (n : ℕ). n / 65536 % 256) e ∙ byte_2 _ _ _ _ h0 h1 h2 h3,
        ap (λ (n : ℕ). n / 16777216 % 256) e ∙ byte_3 _ _ _ _ h0 h1 h2 h3,
      )

  pub codes_at_lem : (flip : Bool) → lanes 8 (λ k. code_of (lane x 0) (lane x 1) (lane x 2) (lane x 3) (7 - turned flip k))
      ≡ lanes 8 (λ k. code_at (at vram) addr (turned flip k))
  unfolding code_at
  codes_at_lem flip = λ i. lanes 8 (λ k. code_of (planes.0 i) (planes.1 i) (planes.2 i) (planes.3 i) (7 - turned flip k))

  pub bits_at : (flip : Bool) → number 8 (λ k. bit (all x) (7 - turned flip k)) ≡ number 8 (line_solid vram addr flip 0)
  unfolding code_at
  bits_at flip =
      number_ext 8 _ _ (λ k h.
      solid_bit (lane x 0) (lane x 1) (lane x 2) (lane x 3) (7 - turned flip k)
      ∙ (λ i. not (eqb (code_of (planes.0 i) (planes.1 i) (planes.2 i) (planes.3 i) (7 - turned flip (sym (zero-add k) i))) 0)))

-- ---- a line by its codes and its bits
module _ (vram : List ℕ) (addr : ℕ) (flip : Bool) {w : ℕ} (e : w ≡ lanes 8 (λ k. code_at (at vram) addr (turned flip k))) where
  pub lane_at : (i : ℕ) → i < 8 → lane w i ≡ code_at (at vram) addr (turned flip i)
  lane_at i h =
      ap (λ (x : ℕ). lane x i) e
      ∙ lane_lanes 8 (λ k. code_at (at vram) addr (turned flip k)) (λ k. omega (arith, code_at_lt (at vram) addr (turned flip k))) i h

  pub lane_low : (i : ℕ) → i < 8 → lane w i < 16
  lane_low i h = rw (lane_at i h) (code_at_lt (at vram) addr (turned flip i))

pub bit_at : (vram : List ℕ) (addr : ℕ) (flip : Bool) {b : ℕ} → b ≡ number 8 (line_solid vram addr flip 0) → (start i : ℕ) → start + i < 8
    → bit b (start + i) ≡ line_solid vram addr flip start i
bit_at vram addr flip e start i h =
    ap (λ (n : ℕ). bit n (start + i)) e
    ∙ bit_number 8 _ (start + i) h
    ∙ ap (λ (k : ℕ). not (eqb (code_at (at vram) addr (turned flip k)) 0)) (zero-add (start + i))

-- ---- a sprite
pub overlaid_cong : (row : List ℕ) (x n : ℕ) (s t : ℕ → Bool) (f g : ℕ → ℕ) → ((i : ℕ) → i < n → s i ≡ t i) → ((i : ℕ) → i < n → f i ≡ g i) →
    overlaid row x n s f ≡ overlaid row x n t g
unfolding overlaid
overlaid_cong row x zero s t f g hs hf = refl
overlaid_cong row x (suc n) s t f g hs hf =
    rw (overlaid_cong row x n s t f g (λ i l. hs i (omega arith)) (λ i l. hf i (omega arith)), hs n (omega arith), hf n (omega arith))

-- the bits of 255 - b are those that b lacks
pub bit_lacks : (b j : ℕ) → b < 256 → j < 8 → bit (255 - b) j ≡ not (bit b j)
unfolding bit
bit_lacks b j h l =
    digit_same _ _
    (eqb→eq _ _
    (sweep.at 8 (λ j. eqb (digit (bit (255 - b) j)) (digit (not (bit b j))))
    (sweep.at 256 (λ b. below 8 (λ j. eqb (digit (bit (255 - b) j)) (digit (not (bit b j))))) tt b h) j l))

-- what becomes of a sprite's columns, as bytes: `bits` are those whose code is not 0, and `room` those that the row has
module _ (vram : List ℕ) (addr start end held taken width x bits room : ℕ) (hh : held < 256) (ht : taken < 256) (hb : bits < 256)
    (e : (k : ℕ) → k < 8 → bit bits k ≡ solid start end (code_at (at vram) addr) k) (er : (k : ℕ) → k < 8 → bit room k ≡ ltb (x + k) width) where
  mark_at_lem : (k : ℕ) → k < 8 → bit (bit_and bits (255 - held)) k ≡ line_marked vram addr start end held k
  unfolding line_marked
  mark_at_lem k h = bit-and bits (255 - held) k ∙ ap₂ ◌&&◌ (e k h) (bit_lacks held k hh h)

  pub draw_at : (k : ℕ) → k < 8 → bit (bit_and (bit_and (bit_and bits (255 - held)) (255 - taken)) room) k ≡ line_drawn vram addr start end held taken
      width x k
  unfolding line_drawn
  draw_at k h =
      bit-and (bit_and (bit_and bits (255 - held)) (255 - taken)) room k
      ∙ ap₂ ◌&&◌ (bit-and (bit_and bits (255 - held)) (255 - taken) k ∙ ap₂ ◌&&◌ (mark_at_lem k h) (bit_lacks taken k ht h)) (er k h)

  hold_at : (k : ℕ) → k < 8 → bit (bit_and bits held) k ≡ line_held vram addr start end held k
  unfolding line_held
  hold_at k h = bit-and bits held k ∙ ap (λ (b : Bool). b && bit held k) (e k h)

  pub marks_are : bit_and bits (255 - held) ≡ byte_of (line_marked vram addr start end held)
  marks_are = byte_is _ _ (omega (arith, and_le_l bits (255 - held))) (λ j l. sym (mark_at_lem j l))

  pub drawn_are : bit_and (bit_and (bit_and bits (255 - held)) (255 - taken)) room ≡ byte_of (line_drawn vram addr start end held taken width x)
  drawn_are =
      byte_is _ _
      (omega (
        arith,
        and_le_l (bit_and (bit_and bits (255 - held)) (255 - taken)) room,
        and_le_l (bit_and bits (255 - held)) (255 - taken),
        and_le_l
            bits (255 - held),
      ))
      (λ j l. sym (draw_at j l))

  pub held_are : bit_and bits held ≡ byte_of (line_held vram addr start end held)
  held_are = byte_is _ _ (omega (arith, and_le_l bits held)) (λ j l. sym (hold_at j l))

-- a whole line: all eight are in the row
bit_all : (k : ℕ) → k < 8 → bit 255 k ≡ true
unfolding bit
bit_all k h = digit_same _ _ (eqb→eq _ _ (sweep.at 8 (λ j. eqb (digit (bit 255 j)) 1) tt k h))

pub whole_room : (width x k : ℕ) → x + 8 ≤ width → k < 8 → bit 255 k ≡ ltb (x + k) width
whole_room width x k h l = let q : x + k < width = omega arith in bit_all k l ∙ sym (lt-ltb (x + k) width q)

pub whole-solid : (vram : List ℕ) (addr : ℕ) {b : ℕ} (k : ℕ) → k < 8 → b ≡ number 8 (line_solid vram addr false 0) → bit b k ≡ solid 0 8
    (code_at (at vram) addr) k
unfolding solid
whole-solid vram addr k h e = let q : 0 + k < 8 = omega arith in ap (λ (n : ℕ). bit n k) e ∙ bit_number 8 _ k h ∙ rw (lt-ltb (0 + k) 8 q)

-- part of a line: n pixels from pixel start on, and those that the row has
pub part_solid : (vram : List ℕ) (addr start end n k : ℕ) (f : ℕ → Bool) → start < end → end ≤ 8 → n ≡ end - start →
    ((i : ℕ) → start + i < 8 → f i ≡ line_solid vram addr false start i)
    → bit (number n f) k ≡ solid start end (code_at (at vram) addr) k
unfolding solid
part_solid vram addr start end n k f l h en e =
    bit_of_lem n f k
    ∙ elim (dec_lt k n) [
      | yes q ↦
          let r : start + k < end = omega arith in
          let r8 : start + k < 8 = omega arith in
          rw (lt-ltb k n q, lt-ltb (start + k) end r) (e k r8)
      | no q ↦
          let a : n ≤ k = omega arith in
          let r : end ≤ start + k = omega arith in
          rw (le-ltb k n a, le-ltb (start + k) end r)
    ]

pub part_room : (width x k : ℕ) → x < width → k < 8 → bit (number (min (width - x) 8) (λ j. bit 255 (0 + j))) k ≡ ltb (x + k) width
part_room width x k h l =
    bit_of_lem (min (width - x) 8) (λ j. bit 255 (0 + j)) k
    ∙ elim (dec_lt (x + k) width) [
      | yes q ↦
          let a : k < min (width - x) 8 = omega arith in
          rw (lt-ltb k (min (width - x) 8) a, zero-add k, bit_all k l) (sym (lt-ltb (x + k) width q))
      | no q ↦
          let a : min (width - x) 8 ≤ k = omega arith in
          let b : width ≤ x + k = omega arith in
          rw (le-ltb k (min (width - x) 8) a) (sym (le-ltb (x + k) width b))
    ]

pub no_bit : (k : ℕ) → bit 0 k ≡ false
unfolding bit
no_bit k = rw (zero-div (2 ^ k))

-- what is drawn is in the row
pub in_the_row : (a room width x k : ℕ) {drawn : ℕ} → drawn ≡ bit_and a room → room ≡ byte_of (λ j. ltb (x + j) width) → k < 8 → bit drawn k ≡ true
    → x + k < width
in_the_row a room width x k ed er h t =
    ltb-true (x + k) width
    (sym (ap (λ (n : ℕ). bit n k) er ∙ bit_byte_of (λ j. ltb (x + j) width) k h)
    ∙ (both (bit a k) (bit room k) (sym (ap (λ (n : ℕ). bit n k) ed ∙ bit-and a room k) ∙ t)).1)

pub byte_lt : (f : ℕ → Bool) → byte_of f < 256
unfolding byte_of
byte_lt f = number_lt 8 f

-- of a line with no column nothing is marked, drawn or held back
module _ (vram : List ℕ) (addr start end held taken width x : ℕ) (h : end ≤ start) where
  nothing : (g : ℕ → Bool) → ((k : ℕ) → end ≤ start + k → g k ≡ false) → 0 ≡ byte_of g
  nothing g e = byte_is 0 g (omega arith) (λ j l. let q : end ≤ start + j = omega arith in e j q ∙ sym (no_bit j))

  pub none_marked : 0 ≡ byte_of (line_marked vram addr start end held)
  none_marked = nothing _ (λ k q. marked_past vram addr start end held k q)

  pub none_drawn : 0 ≡ byte_of (line_drawn vram addr start end held taken width x)
  none_drawn = nothing _ (λ k q. drawn_past vram addr start end held taken width x k q)

  pub none_held : 0 ≡ byte_of (line_held vram addr start end held)
  none_held = nothing _ (λ k q. held_past vram addr start end held k q)

  pub none_laid : (row : List ℕ) (f : ℕ → ℕ) → row ≡ overlaid row x 8 (line_drawn vram addr start end held taken width x) f
  unfolding overlaid
  none_laid row f = overlaid_all row x _ f 0 (omega arith)
      (λ k z. let q : end ≤ start + k = omega arith in drawn_past vram addr start end held taken width x k q)

-- no bits of no bits
pub none_left : (k : ℕ) → bit_and 0 k ≡ 0
none_left k = let z = and_le_l 0 k in omega arith
