-- The program on sheets: `bad` exactly for what is no sheet, and a sheet's tiles as a write stores them.
-- Assumes nothing.
use mathlib.Core.Path.{◌≡◌, sym, ap, ◌∙◌}
use mathlib.Core.Bool.{true, false, not, ◌&&◌}
use mathlib.Core.List.{List, ◌++◌}
use Prim.Native.Nat.{ℕ, zero, suc, ◌+◌, ◌-◌, ◌*◌, ◌/◌, ◌%◌, ◌<◌, ◌≤◌}
use native.Mathlib.Decide.{dec_lt}
use native.Mathlib.Omega.{arith}
use borrow.Author.Tests.{eqb-true, eq-eqb, leb-true, le-leb, not-true}
use lib.Dec.{eqb, leb}
use lib.ListN.{length, take, drop, length-drop}
use lib.Seq.{get_or-take, get_or-drop, length-take-le, take-append-le, drop-append-le, drop_at, take_all}
use Rattle.laws.specs.Bits.{bit, byte_of}
use Rattle.laws.specs.Lists.{at, written}
use Rattle.laws.proofs.Bits.{number_ext}
use Rattle.laws.proofs.Tables.{table_ext}
use Rattle.laws.proofs.Tests.{split, both}
use Rattle.tile_codes.specs.Tiles.{tile_bytes}
use Rattle.tile_codes.specs.Calls.{any_high}
use Rattle.tile_codes.specs.Sheet.{tiles_in, is_sheet, sheet_bytes, bad_line, converted}
use Rattle.tile_codes.specs.Promises.{Sheet, Converts}
use Rattle.tile_codes.proofs.Loops.{tile_long}
use Rattle.tile_codes.proofs.Sheets.{sheet_long}
use Rattle.tile_codes.proofs.RoundTrip.{none_high, all_low, writes, wrote}

-- ---- what is a sheet
sheet_is : (s : List ℕ) → is_sheet s ≡ true → Sheet s
unfolding is_sheet
sheet_is s h =
    let t = both ((eqb (length s % 64) 0 && leb 1 (tiles_in s)) && leb (tiles_in s) 256) (not (any_high s)) h in
    let u = both (eqb (length s % 64) 0 && leb 1 (tiles_in s)) (leb (tiles_in s) 256) t.0 in
    let v = both (eqb (length s % 64) 0) (leb 1 (tiles_in s)) u.0 in
    let z = eqb-true (length s % 64) 0 v.0 in
    record {
      tiles = tiles_in s;
      some = leb-true 1 (tiles_in s) v.1;
      most = leb-true (tiles_in s) 256 u.1;
      size = omega (arith, z);
      low = none_high s (not-true (any_high s) t.1);
    }

module _ (s : List ℕ) (h : Sheet s) where
  tiles_are : tiles_in s ≡ h.tiles
  tiles_are = omega (arith, h.size)

  pub is_sheet_lem : is_sheet s ≡ true
  unfolding is_sheet
  is_sheet_lem =
      let z : length s % 64 ≡ 0 = omega (arith, h.size) in
      let a : 1 ≤ tiles_in s = omega (arith, tiles_are, h.some) in
      let b : tiles_in s ≤ 256 = omega (arith, tiles_are, h.most) in
      rw (eq-eqb (length s % 64) 0 z, le-leb 1 (tiles_in s) a, le-leb (tiles_in s) 256 b, all_low s h.low)

  is_converted : converted s ≡ sheet_bytes (tiles_in s) s
  unfolding converted
  is_converted = rw is_sheet_lem

  as_long : length (converted s) ≡ 32 * h.tiles
  as_long = ap length is_converted ∙ sheet_long (tiles_in s) s ∙ ap (λ (n : ℕ). 32 * n) tiles_are

-- ---- its tiles
tile_ext : (c d : ℕ → ℕ) → ((k : ℕ) → k < 64 → c k ≡ d k) → tile_bytes c ≡ tile_bytes d
unfolding tile_bytes byte_of
tile_ext c d e =
    table_ext 32 (λ j. byte_of (λ b. bit (c (8 * (j / 4) + (7 - b))) (j % 4))) (λ j. byte_of (λ b. bit (d (8 * (j / 4) + (7 - b))) (j % 4)))
    (λ j h.
    number_ext 8 (λ b. bit (c (8 * (j / 4) + (7 - b))) (j % 4)) (λ b. bit (d (8 * (j / 4) + (7 - b))) (j % 4))
    (λ b hb. ap (λ (v : ℕ). bit v (j % 4)) (e (8 * (j / 4) + (7 - b)) (omega arith))))

-- the bytes of tile t
part : (n : ℕ) (s : List ℕ) (t : ℕ) → t < n → take 32 (drop (32 * t) (sheet_bytes n s)) ≡ tile_bytes (λ k. at s (64 * t + k))
unfolding sheet_bytes
part zero s t h = absurd (omega arith)
part (suc n) s t h =
    let c = tile_bytes (λ k. at s (64 * n + k)) in
    let l = sheet_long n s in
    elim (dec_lt t n) [
      | yes q ↦
          let a : 32 * t ≤ length (sheet_bytes n s) = omega (arith, l) in
          let b : 32 ≤ length (drop (32 * t) (sheet_bytes n s)) = simp length-drop (omega (arith, l)) in
          ap (take 32) (drop-append-le (32 * t) (sheet_bytes n s) c a) ∙ take-append-le 32 (drop (32 * t) (sheet_bytes n s)) c b ∙ part n s t q
      | no q ↦
          let z : t ≡ n = omega arith in
          let m : length c ≤ 32 = omega (arith, tile_long (λ k. at s (64 * n + k))) in
          ap (λ (k : ℕ). take 32 (drop (32 * k) (sheet_bytes n s ++ c))) z
          ∙ ap (take 32) (drop_at (sheet_bytes n s) c (32 * n) l)
          ∙ take_all 32 c m
          ∙ ap (λ (j : ℕ). tile_bytes (λ k. at s (64 * j + k))) (sym z)
    ]

is_bad : (s : List ℕ) → is_sheet s ≡ false → converted s ≡ bad_line
unfolding converted
is_bad s f = rw f

pub converts : (s : List ℕ) → Converts s
converts s =
    record {
      bad = (
        λ e h. let z = sym (as_long s h) ∙ ap length e in omega (arith, z, h.some),
        λ no. split (is_sheet s) (λ t. absurd (no (sheet_is s t))) (is_bad s),
      );
      long = as_long s;
      stored =
          λ h t l vram n mem few.
          let codes = take 64 (drop (64 * t) s) in
          let d : 64 ≤ length (drop (64 * t) s) = simp length-drop (omega (arith, h.size)) in
          let many : length codes ≡ 64 = length-take-le 64 (drop (64 * t) s) d in
          let same : (k : ℕ) → k < 64 → at codes k ≡ at s (64 * t + k) = λ k q. get_or-take 64 (drop (64 * t) s) k 0 q ∙ get_or-drop (64 * t) s k 0 in
          let low : (k : ℕ) → k < length codes → at codes k < 16 =
          λ k q.
          let q' : k < 64 = omega (arith, many) in
          rw (same k q') (h.low (64 * t + k) (omega (arith, h.size))) in
          wrote vram n codes (writes vram n codes (record { mem = mem; few = few; many = many }) (all_low codes low))
          ∙ ap (written vram (32 * n)) (tile_ext (at codes) (λ k. at s (64 * t + k)) same)
          ∙ ap (written vram (32 * n)) (sym (part (tiles_in s) s t (omega (arith, tiles_are s h))))
          ∙ ap (λ (x : List ℕ). written vram (32 * n) (take 32 (drop (32 * t) x))) (sym (is_converted s h));
    }
