-- The way in matches the way out.
-- Assumes nothing.
use Rattle.std.specs.Prelude.{Ok}
use mathlib.Core.Path.{◌≡◌, refl, sym, ap, ◌∙◌}
use mathlib.Core.Bool.{Bool, true, false, cond}
use mathlib.Core.List.{List}
use Prim.Native.Nat.{ℕ, ◌+◌, ◌*◌, ◌/◌, ◌%◌, ◌<◌, ◌≤◌}
use native.Mathlib.Omega.{arith}
use borrow.Author.Tests.{eqb-true, eq-eqb, leb-true, le-leb, ltb-false, le-ltb}
use lib.Dec.{eqb, leb, ltb}
use lib.ListN.{length, take, drop, length-drop}
use lib.Seq.{get_or-take, get_or-drop, ext_get_or, length-take-le}
use Rattle.laws.specs.Bits.{bit}
use Rattle.laws.specs.Lists.{at, written}
use Rattle.laws.proofs.Any.{any_none, any_false}
use Rattle.laws.proofs.Lists.{length-written}
use Rattle.laws.proofs.Places.{written_at, written_before, written_behind, written_same}
use Rattle.laws.proofs.Tables.{is_table}
use Rattle.laws.proofs.Tests.{split}
use Rattle.picture.specs.Tile.{code_at, entry_code, tile_line, turned}
use Rattle.picture.specs.Picture.{tall, sprite_line}
use Rattle.refusal.specs.Refusals.{refusal_number, whole}
use Rattle.tile_codes.specs.Tiles.{codes_at, tile_bytes}
use Rattle.tile_codes.specs.Calls.{any_high, read_tile_refusal, write_tile_refusal, tile_written, tile_read}
use Rattle.tile_codes.specs.Promises.{Imported, Exported}
use Rattle.tile_codes.proofs.Planes.{shown, same_byte, code_low}
use Rattle.tile_codes.proofs.Loops.{tile_long, codes_long, code_got}

-- ---- codes, none of them above 15
pub none_high : (codes : List ℕ) → any_high codes ≡ false → (k : ℕ) → k < length codes → at codes k < 16
unfolding any_high
none_high codes e k h = let l = ltb-false 15 (at codes k) (any_false (length codes) (λ k. ltb 15 (at codes k)) e k h) in omega (arith, l)

pub all_low : (codes : List ℕ) → ((k : ℕ) → k < length codes → at codes k < 16) → any_high codes ≡ false
unfolding any_high
all_low codes low =
    any_none (length codes) (λ k. ltb 15 (at codes k)) (λ k h. let l : at codes k ≤ 15 = omega (arith, low k h) in le-ltb 15 (at codes k) l)

-- ---- what an accepted call was given
pub record Taken (vram : List ℕ) (n size : ℕ) : Type 0 where
  pub mem : length vram ≡ 16384
  pub few : n ≤ 511
  pub many : size ≡ 64

pub read_taken : (vram : List ℕ) (n size : ℕ) → read_tile_refusal vram n size ≡ (Ok tt) → Taken vram n size
unfolding read_tile_refusal
read_taken vram n size e =
    split (whole vram)
    (λ t. split (leb n 511)
    (λ u. split (eqb size 64)
    (λ v. record { mem = eqb-true (length vram) 16384 t; few = leb-true n 511 u; many = eqb-true size 64 v })
    (λ v. let z = ap refusal_number (simp (t, u, v) at e) in absurd (omega (arith, z))))
    (λ u. let z = ap refusal_number (simp (t, u) at e) in absurd (omega (arith, z))))
    (λ t. let z = ap refusal_number (simp t at e) in absurd (omega (arith, z)))

pub write_taken : (vram : List ℕ) (n : ℕ) (codes : List ℕ) → write_tile_refusal vram n codes ≡ (Ok tt) → Taken vram n (length codes) ×
    (any_high codes ≡ false)
unfolding write_tile_refusal
write_taken vram n codes e =
    split (whole vram)
    (λ t. split (leb n 511)
    (λ u. split (eqb (length codes) 64)
    (λ v. split (any_high codes)
    (λ h. let z = ap refusal_number (simp (t, u, v, h) at e) in absurd (omega (arith, z)))
    (λ h. (record { mem = eqb-true (length vram) 16384 t; few = leb-true n 511 u; many = eqb-true (length codes) 64 v }, h)))
    (λ v. let z = ap refusal_number (simp (t, u, v) at e) in absurd (omega (arith, z))))
    (λ u. let z = ap refusal_number (simp (t, u) at e) in absurd (omega (arith, z))))
    (λ t. let z = ap refusal_number (simp t at e) in absurd (omega (arith, z)))

pub reads : (vram : List ℕ) (n size : ℕ) → Taken vram n size → read_tile_refusal vram n size ≡ (Ok tt)
unfolding read_tile_refusal
reads vram n size g = rw (eq-eqb (length vram) 16384 g.mem, le-leb n 511 g.few, eq-eqb size 64 g.many)

pub writes : (vram : List ℕ) (n : ℕ) (codes : List ℕ) → Taken vram n (length codes) → any_high codes ≡ false → write_tile_refusal vram n codes ≡ (Ok tt)
unfolding write_tile_refusal
writes vram n codes g h = rw (eq-eqb (length vram) 16384 g.mem, le-leb n 511 g.few, eq-eqb (length codes) 64 g.many, h)

-- ---- what it left
pub wrote : (vram : List ℕ) (n : ℕ) (codes : List ℕ) → write_tile_refusal vram n codes ≡ (Ok tt) → tile_written vram n codes ≡ written vram (32 * n)
    (tile_bytes (at codes))
unfolding tile_written
wrote vram n codes e = rw e

pub read : (vram : List ℕ) (n : ℕ) (buffer : List ℕ) → read_tile_refusal vram n (length buffer) ≡ (Ok tt) → tile_read vram n buffer ≡ codes_at (at vram)
    (32 * n)
unfolding tile_read
read vram n buffer e = rw e

-- ---- where a tile's lines are
turned_low : (flip : Bool) (k : ℕ) → k < 8 → turned flip k < 8
turned_low true k h = omega arith
turned_low false k h = omega arith

base : (b : Bool) → cond b 8192 0 ≡ 32 * cond b 256 0
base true = refl
base false = refl

sprite_at : (g : ℕ → ℕ) (tile d n : ℕ) → cond (bit (g 6) 2) 256 0 + cond (tall g) (tile / 2 * 2 + d / 8) tile ≡ n → sprite_line g tile d ≡ 32 * n + 4
    * (d % 8)
unfolding sprite_line
sprite_at g tile d n e = omega (arith, e, base (bit (g 6) 2))

-- ---- codes written
module _ (vram : List ℕ) (n : ℕ) (codes : List ℕ) (e : write_tile_refusal vram n codes ≡ (Ok tt)) where
  g : Taken vram n (length codes)
  g = (write_taken vram n codes e).0

  after : List ℕ
  after = written vram (32 * n) (tile_bytes (at codes))

  fits : 32 * n + length (tile_bytes (at codes)) ≤ length vram
  fits = omega (arith, tile_long (at codes), g.mem, g.few)

  long : length (tile_written vram n codes) ≡ length vram
  long = ap length (wrote vram n codes e) ∙ length-written vram (32 * n) (tile_bytes (at codes)) fits

  showing : (x y : ℕ) → x < 8 → y < 8 → code_at (at (tile_written vram n codes)) (32 * n + 4 * y) x ≡ at codes (8 * y + x)
  showing x y hx hy =
      ap (λ (l : List ℕ). code_at (at l) (32 * n + 4 * y) x) (wrote vram n codes e)
      ∙ shown (at (written vram (32 * n) (tile_bytes (at codes)))) (32 * n) (at codes)
      (λ j h. let l : j < length (tile_bytes (at codes)) = omega (arith, tile_long (at codes)) in written_at vram (32 * n) (tile_bytes (at codes)) fits
      j l)
      x y hx hy
      (none_high codes (write_taken vram n codes e).1 (8 * y + x) (omega (arith, g.many)))

  comes_back : (buffer : List ℕ) → length buffer ≡ 64 → tile_read (tile_written vram n codes) n buffer ≡ codes
  unfolding codes_at
  comes_back buffer h =
      let m = at (tile_written vram n codes) in
      read (tile_written vram n codes) n buffer
      (reads (tile_written vram n codes) n (length buffer) (record { mem = long ∙ g.mem; few = g.few; many = h }))
      ∙ sym
      (is_table codes 64 (λ k. code_at m (32 * n + 4 * (k / 8)) (k % 8)) g.many
      (λ k l.
      let q : 8 * (k / 8) + k % 8 ≡ k = omega arith in
      sym (showing (k % 8) (k / 8) (omega arith) (omega arith) ∙ ap (at codes) q)))

  pub imported : Imported vram n codes
  unfolding entry_code tile_line
  imported =
      record {
        shows = showing;
        background =
            λ lo hi x y q.
            let m = at (tile_written vram n codes) in
            ap (λ (t : ℕ). code_at m (32 * t + 4 * turned (bit hi 2) (y % 8)) (turned (bit hi 1) (x % 8))) q
            ∙ showing (turned (bit hi 1) (x % 8)) (turned (bit hi 2) (y % 8)) (turned_low (bit hi 1) (x % 8) (omega arith))
            (turned_low (bit hi 2) (y % 8) (omega arith));
        sprite =
            λ r tile d x hx q.
            ap (λ (a : ℕ). code_at (at (tile_written vram n codes)) a x) (sprite_at r tile d n q) ∙ showing x (d % 8) hx (omega arith);
        back = comes_back;
        before = λ k h. ap (λ (l : List ℕ). at l k) (wrote vram n codes e) ∙ written_before vram (32 * n) (tile_bytes (at codes)) fits k h;
        behind =
            λ k h.
            let l : 32 * n + length (tile_bytes (at codes)) ≤ k = omega (arith, tile_long (at codes)) in
            ap (λ (l : List ℕ). at l k) (wrote vram n codes e) ∙ written_behind vram (32 * n) (tile_bytes (at codes)) fits k l;
        as_long = long;
      }

-- ---- bytes read
module _ (vram : List ℕ) (n : ℕ) (buffer : List ℕ) (bytes : (k : ℕ) → at vram k < 256) (e : read_tile_refusal vram n (length buffer) ≡ (Ok tt)) where
  given : Taken vram n (length buffer)
  given = read_taken vram n (length buffer) e

  codes_low : (k : ℕ) → k < 64 → at (codes_at (at vram) (32 * n)) k < 16
  codes_low k h = rw (code_got (at vram) (32 * n) k h) (code_low (at vram) (32 * n + 4 * (k / 8)) (k % 8))

  -- the bytes that are made of the codes are those that are there
  there : tile_bytes (at (codes_at (at vram) (32 * n))) ≡ take 32 (drop (32 * n) vram)
  there =
      let c = at (codes_at (at vram) (32 * n)) in
      let d : 32 ≤ length (drop (32 * n) vram) = simp length-drop (omega (arith, given.mem, given.few)) in
      ext_get_or 0 (tile_bytes c) (take 32 (drop (32 * n) vram)) (tile_long c ∙ sym (length-take-le 32 (drop (32 * n) vram) d))
      (λ j h.
      let l : j < 32 = omega (arith, tile_long c) in
      same_byte (at vram) (32 * n) c (λ k q. code_got (at vram) (32 * n) k q) j l (bytes (32 * n + j))
      ∙ sym (get_or-take 32 (drop (32 * n) vram) j 0 l ∙ get_or-drop (32 * n) vram j 0))

  accepted : write_tile_refusal vram n (codes_at (at vram) (32 * n)) ≡ (Ok tt)
  accepted =
      let c = codes_at (at vram) (32 * n) in
      let l = codes_long (at vram) (32 * n) in
      writes vram n c (record { mem = given.mem; few = given.few; many = l }) (all_low c (λ k h. codes_low k (omega (arith, l))))

  again : tile_written vram n (codes_at (at vram) (32 * n)) ≡ vram
  again =
      wrote vram n (codes_at (at vram) (32 * n)) accepted
      ∙ ap (written vram (32 * n)) there
      ∙ written_same vram (32 * n) 32 (omega (arith, given.mem, given.few))

  pub exported : Exported vram n buffer
  exported =
      let r = read vram n buffer e in
      record { taken = ap (write_tile_refusal vram n) r ∙ accepted; same = ap (tile_written vram n) r ∙ again }
