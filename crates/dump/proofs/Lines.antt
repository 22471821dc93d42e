-- One tile line more of the dump.
-- Assumes nothing.
use mathlib.Core.Path.{◌≡◌, refl, sym, ap, ◌∙◌}
use mathlib.Core.Bool.{Bool, true, false, cond, ◌&&◌, not, and-true, and-false}
use mathlib.Core.List.{List}
use Prim.Native.Nat.{ℕ, ◌+◌, ◌-◌, ◌*◌, ◌/◌, ◌%◌, ◌<◌, ◌≤◌}
use native.Mathlib.Nat.{zero-add}
use native.Mathlib.Decide.{dec_lt}
use native.Mathlib.Omega.{arith}
use lib.Dec.{eqb, ltb, leb}
use lib.ListN.{length}
use borrow.Author.Tests.{lt-ltb, le-ltb, le-leb, lt-leb}
use Rattle.laws.specs.Bits.{bit, digit}
use Rattle.laws.specs.Lists.{at}
use Rattle.laws.specs.Paint.{byte_of_colour, painted, overlaid}
use Rattle.laws.proofs.Bits.{bit_above}
use Rattle.laws.proofs.Paint.{overlaid_byte, painted_overlaid}
use Rattle.laws.proofs.Tables.{is_table}
use Rattle.picture.specs.Tile.{code_at}
use Rattle.picture.specs.Picture.{solid}
use Rattle.tile.specs.Line.{line_colour, line_marked, line_drawn, sprite_colour}
use Rattle.dump.specs.Dump.{is_sprite, tile_column, tile_row, tile_at, line_at, pixel_byte, dump_byte, dumped}
use Rattle.dump.specs.Lines.{line_number, Dumping}
use Rattle.dump.proofs.Places.{tile_there, column_there, row_there}

-- ---- the bytes that a tile's line leaves, as background and as a sprite
no_bit : (k : ℕ) → bit 0 k ≡ false
no_bit k = bit_above 0 0 k (omega arith) (omega arith)

cond-not : (t : Bool) (a b : ℕ) → cond (not t) a b ≡ cond t b a
cond-not true a b = refl
cond-not false a b = refl

module _ (pixels vram colours : List ℕ) (addr x : ℕ) where
  -- what the line makes of byte k
  abbrev pub line_byte : Bool → ℕ → ℕ
  line_byte sprite k = cond (leb x (k / 4) && ltb (k / 4 - x) 8) (pixel_byte colours sprite (code_at (at vram) addr (k / 4 - x)) (k % 4) (at pixels k))
      (at pixels k)

  pub background_byte : (k : ℕ) → (x + 8) * 4 ≤ length pixels → at (painted pixels x 8 (line_colour colours 0 vram addr false 0)) k ≡ line_byte false k
  unfolding pixel_byte
  background_byte k r =
      rw (painted_overlaid pixels x 8 (line_colour colours 0 vram addr false 0))
      (overlaid_byte pixels x 8 (λ i. true) (line_colour colours 0 vram addr false 0) k r ∙ rw (and-true (ltb (k / 4 - x) 8), zero-add, zero-add))

  shown : (i : ℕ) → i < 8 → x + i < 32768 → line_drawn vram addr 0 8 0 0 32768 x i ≡ not (eqb (code_at (at vram) addr i) 0)
  unfolding line_drawn line_marked solid
  shown i h l = simp (zero-add, no_bit i, lt-ltb i 8 h, lt-ltb (x + i) 32768 l, and-true)

  pub sprite_byte : (k : ℕ) → (x + 8) * 4 ≤ length pixels → x + 8 ≤ 32768
      → at (overlaid pixels x 8 (line_drawn vram addr 0 8 0 0 32768 x) (sprite_colour colours vram addr 0)) k ≡ line_byte true k
  unfolding pixel_byte
  sprite_byte k r w =
      overlaid_byte pixels x 8 (line_drawn vram addr 0 8 0 0 32768 x) (sprite_colour colours vram addr 0) k r
      ∙ elim (dec_lt (k / 4) x) [
        | yes h ↦ rw (lt-leb x (k / 4) h)
        | no h ↦
            elim (dec_lt (k / 4 - x) 8) [
              | yes l ↦
                  let g : x ≤ k / 4 = omega arith in
                  let b : x + (k / 4 - x) < 32768 = omega arith in
                  rw (le-leb x (k / 4) g, lt-ltb (k / 4 - x) 8 l, shown (k / 4 - x) l b, zero-add)
                  (cond-not (eqb (code_at (at vram) addr (k / 4 - x)) 0) (byte_of_colour (at colours (16 + code_at (at vram) addr (k / 4 - x))) (k % 4))
                  (at pixels k))
              | no l ↦ let g : 8 ≤ k / 4 - x = omega arith in rw (le-ltb (k / 4 - x) 8 g, and-false (leb x (k / 4)))
            ]
      ]

-- a weight, or 0
pub weighed : (b : Bool) (w : ℕ) → w * digit b ≡ cond b w 0
weighed true w = omega arith
weighed false w = omega arith

-- ---- the pixels of line l of the tile at column i of row j are those from 1024j + 8i + 128l on
module _ (i j l p : ℕ) (hi : i < 16) (hl : l < 8) where
  abbrev from : ℕ
  from = 1024 * j + 8 * i + 128 * l

  in_column : from ≤ p → p < from + 8 → p % 128 / 8 ≡ i
  in_column a b = omega arith

  in_row : from ≤ p → p < from + 8 → p / 128 / 8 ≡ j
  in_row a b = omega arith

  in_line : from ≤ p → p < from + 8 → p / 128 % 8 ≡ l
  in_line a b = omega arith

  in_pixel : from ≤ p → p < from + 8 → p % 128 % 8 ≡ p - from
  in_pixel a b = omega arith

  within : p % 128 / 8 ≡ i → p / 128 / 8 ≡ j → p / 128 % 8 ≡ l → (from ≤ p) × (p < from + 8)
  within a b c = (omega arith, omega arith)

-- ---- one tile line more
module _ (vram : List ℕ) (tall high : Bool) (colours pixels₀ : List ℕ) (c l : ℕ) (hc : c < 512) (hl : l < 8) where
  abbrev pub place : ℕ
  place = 1024 * tile_row tall c + 8 * tile_column tall c + 128 * l

  column_lt : tile_column tall c < 16
  unfolding tile_column
  column_lt = bound (tall && is_sprite c)
    where
      bound : (b : Bool) → cond b (c % 32 / 2) (c % 16) < 16
      bound true = omega arith
      bound false = omega arith

  -- byte k is in this line
  in_line_number : (k : ℕ) → place ≤ k / 4 → k / 4 < place + 8 → line_number tall k ≡ 8 * c + l
  unfolding line_number
  in_line_number k a b =
      rw (
        in_column (tile_column tall c) (tile_row tall c) l (k / 4) column_lt hl a b,
        in_row (tile_column tall c) (tile_row tall c) l (k / 4) column_lt hl a b,
        in_line (tile_column tall c) (tile_row tall c) l (k / 4) column_lt hl a b,
        tile_there tall c hc,
      )

  in_byte : (k old : ℕ) → place ≤ k / 4 → k / 4 < place + 8
      → dump_byte (at vram) tall high colours (k / 4 % 128) (k / 4 / 128) (k % 4) old
      ≡ pixel_byte colours (is_sprite c) (code_at (at vram) (line_at high c l) (k / 4 - place)) (k % 4) old
  unfolding dump_byte
  in_byte k old a b =
      rw (
        in_pixel (tile_column tall c) (tile_row tall c) l (k / 4) column_lt hl a b,
        in_column (tile_column tall c) (tile_row tall c) l (k / 4) column_lt hl a b,
        in_row (tile_column tall c) (tile_row tall c) l (k / 4) column_lt hl a b,
        in_line (tile_column tall c) (tile_row tall c) l (k / 4) column_lt hl a b,
        tile_there tall c hc,
      )

  -- byte k is in no other place with this line's number
  number_within : (k : ℕ) → k < 131072 → line_number tall k ≡ 8 * c + l → (place ≤ k / 4) × (k / 4 < place + 8)
  unfolding line_number
  number_within k h e =
      let i = k / 4 % 128 / 8 in
      let j = k / 4 / 128 / 8 in
      let hi : i < 16 = omega arith in
      let hj : j < 32 = omega arith in
      let same : tile_at tall i j ≡ c = omega arith in
      let line : k / 4 / 128 % 8 ≡ l = omega arith in
      within (tile_column tall c) (tile_row tall c) l (k / 4) column_lt hl
      (sym (column_there i j hi hj tall) ∙ ap (tile_column tall) same) (sym (row_there i j hi hj tall) ∙ ap (tile_row tall) same) line

  other : (k : ℕ) → (line_number tall k ≡ 8 * c + l → ⊥) → ltb (line_number tall k) (8 * c + l) ≡ ltb (line_number tall k) (8 * c + (l + 1))
  other k ne =
      elim (dec_lt (line_number tall k) (8 * c + l)) [
        | yes a ↦
            let b : line_number tall k < 8 * c + (l + 1) = omega arith in
            lt-ltb (line_number tall k) (8 * c + l) a ∙ sym (lt-ltb (line_number tall k) (8 * c + (l + 1)) b)
        | no a ↦
            let p : 8 * c + l ≤ line_number tall k = omega arith in
            let b : 8 * c + (l + 1) ≤ line_number tall k = omega arith in
            le-ltb (line_number tall k) (8 * c + l) p ∙ sym (le-ltb (line_number tall k) (8 * c + (l + 1)) b)
      ]

  pub line_step : {now now' : List ℕ} → Dumping vram tall high colours pixels₀ (8 * c + l) now
      → ((k : ℕ) → at now' k ≡ line_byte now vram colours (line_at high c l) place (is_sprite c) k) → Dumping vram tall high colours pixels₀
      (8 * c + (l + 1)) now'
  line_step {now} {now'} d e = record { byte = λ k h. e k ∙ each k h }
    where
      each : (k : ℕ) → k < 131072
          → line_byte now vram colours (line_at high c l) place (is_sprite c) k
          ≡ cond (ltb (line_number tall k) (8 * c + (l + 1))) (dump_byte (at vram) tall high colours (k / 4 % 128) (k / 4 / 128) (k % 4)
          (at pixels₀ k)) (at pixels₀ k)
      each k h =
          elim (dec_lt (k / 4) place) [
            | yes before ↦ rw (lt-leb place (k / 4) before, ← other k (λ q. let w = number_within k h q in omega arith)) (d.byte k h)
            | no from ↦
                let a : place ≤ k / 4 = omega arith in
                elim (dec_lt (k / 4 - place) 8) [
                  | yes inside ↦
                      let b : k / 4 < place + 8 = omega arith in
                      let lo : 8 * c + l ≤ 8 * c + l = omega arith in
                      let hi : 8 * c + l < 8 * c + (l + 1) = omega arith in
                      rw (
                        le-leb place (k / 4) a,
                        lt-ltb (k / 4 - place) 8 inside,
                        d.byte k h,
                        in_line_number k a b,
                        le-ltb (8 * c + l) (8 * c + l) lo,
                        lt-ltb (8 * c + l) (8 * c + (l + 1)) hi,
                        in_byte k (at pixels₀ k) a b,
                      )
                  | no outside ↦
                      let g : 8 ≤ k / 4 - place = omega arith in
                      rw (le-leb place (k / 4) a, le-ltb (k / 4 - place) 8 g, ← other k (λ q. let w = number_within k h q in omega arith))
                      (d.byte k h)
                ]
          ]

-- ---- none drawn, and all drawn
pub dumping_starts : (vram : List ℕ) (tall high : Bool) (colours pixels : List ℕ) → Dumping vram tall high colours pixels (8 * 0) pixels
dumping_starts vram tall high colours pixels =
    record { byte = λ k h. let z : 8 * 0 ≤ line_number tall k = omega arith in rw (le-ltb (line_number tall k) (8 * 0) z) }

tile_lt : (tall : Bool) (i j : ℕ) → i < 16 → j < 32 → tile_at tall i j < 512
unfolding tile_at
tile_lt tall i j hi hj = bound (tall && leb 16 j)
  where
    bound : (b : Bool) → cond b (32 * (j / 2) + 2 * i + j % 2) (16 * j + i) < 512
    bound true = omega arith
    bound false = omega arith

number_lt : (tall : Bool) (k : ℕ) → k < 131072 → line_number tall k < 8 * 512
unfolding line_number
number_lt tall k h = omega (arith, tile_lt tall (k / 4 % 128 / 8) (k / 4 / 128 / 8) (omega arith) (omega arith))

pub dumping_ends : (vram reg colours pixels : List ℕ) {now : List ℕ} {tall high : Bool} {c : ℕ} → length now ≡ 131072 → c ≡ 512 → tall ≡ bit
    (at reg 1) 1 → high ≡ bit (at reg 6) 2
    → Dumping vram tall high colours pixels (8 * c) now → now ≡ dumped vram reg colours pixels
unfolding dumped
dumping_ends vram reg colours pixels {now} {tall} {high} {c} len e et eh d =
    is_table now 131072 (λ k. dump_byte (at vram) (bit (at reg 1) 1) (bit (at reg 6) 2) colours (k / 4 % 128) (k / 4 / 128) (k % 4) (at pixels k)) len
    (λ k h.
    let l : line_number tall k < 8 * c = omega (arith, number_lt tall k h) in
    d.byte k h ∙ rw (lt-ltb (line_number tall k) (8 * c) l, et, eh))
