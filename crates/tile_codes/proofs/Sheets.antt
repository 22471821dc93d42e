-- A sheet, tile by tile, and what is written where there is none.
-- Assumes nothing.
use mathlib.Core.Path.{◌≡◌, refl, sym, ap, ◌∙◌}
use mathlib.Core.Bool.{true, false, not, ◌&&◌}
use mathlib.Core.List.{List, ◌++◌}
use Prim.Native.Nat.{ℕ, zero, suc, ◌+◌, ◌*◌, ◌%◌, ◌<◌, ◌≤◌}
use native.Mathlib.Numerals.{add-one}
use native.Mathlib.Omega.{arith}
use borrow.Author.Tests.{leb-true, le-leb, lt-leb}
use lib.Dec.{eqb, leb}
use lib.ListN.{length, take, drop, length-append}
use lib.Seq.{length-take-le}
use Rattle.laws.specs.Lists.{at, written}
use Rattle.laws.proofs.Lists.{length-written, written_nil, written_on}
use Rattle.laws.proofs.Tests.{both}
use Rattle.tile_codes.specs.Tiles.{tile_bytes}
use Rattle.tile_codes.specs.Calls.{any_high}
use Rattle.tile_codes.specs.Sheet.{tiles_in, is_sheet, sheet_bytes, bad_line, converted, SheetLeaves}
use Rattle.tile_codes.proofs.Loops.{tile_long}

pub sheet_long : (n : ℕ) (s : List ℕ) → length (sheet_bytes n s) ≡ 32 * n
unfolding sheet_bytes
sheet_long zero s = refl
sheet_long (suc n) s =
    length-append (sheet_bytes n s) (tile_bytes (λ k. at s (64 * n + k))) ∙ omega (arith, sheet_long n s, tile_long (λ k. at s (64 * n + k)))

-- at most 256 tiles
pub sheet_most : (s : List ℕ) → is_sheet s ≡ true → tiles_in s ≤ 256
unfolding is_sheet
sheet_most s h =
    let t = both ((eqb (length s % 64) 0 && leb 1 (tiles_in s)) && leb (tiles_in s) 256) (not (any_high s)) h in
    leb-true (tiles_in s) 256 (both (eqb (length s % 64) 0 && leb 1 (tiles_in s)) (leb (tiles_in s) 256) t.0).1

-- none yet, and one more
pub sheet_none : (out s : List ℕ) → out ≡ written out 0 (sheet_bytes 0 s)
unfolding sheet_bytes
sheet_none out s = sym (written_nil out 0)

pub sheet_step :
    (out₀ s : List ℕ) (n : ℕ) {out out' : List ℕ} → 32 * n ≤ length out₀ → out ≡ written out₀ 0 (sheet_bytes n s)
    → out' ≡ written out (32 * n) (tile_bytes (λ k. at s (64 * n + k))) → out' ≡ written out₀ 0 (sheet_bytes (n + 1) s)
unfolding sheet_bytes
sheet_step out₀ s n {out} {out'} h e q =
    let l : 0 + length (sheet_bytes n s) ≤ length out₀ = omega (arith, sheet_long n s) in
    let b : 32 * n ≡ 0 + length (sheet_bytes n s) = omega (arith, sheet_long n s) in
    q
    ∙ ap (λ (x : List ℕ). written x (32 * n) (tile_bytes (λ k. at s (64 * n + k)))) e
    ∙ written_on out₀ 0 (sheet_bytes n s) (tile_bytes (λ k. at s (64 * n + k))) b l
    ∙ ap (λ (k : ℕ). written out₀ 0 (sheet_bytes k s)) (sym (add-one n))

-- ---- what the call leaves
-- as many bytes as it says
pub counted :
    (out x : List ℕ) {n : ℕ} {out' : List ℕ} → length x ≤ length out → n ≡ length x → out' ≡ written out 0 x
    → (n ≤ length out') × (n ≡ length (take n out'))
counted out x {n} {out'} h e q =
    let l : length out' ≡ length out = ap length q ∙ length-written out 0 x (omega arith) in
    let m : n ≤ length out' = omega (arith, l) in
    (m, sym (length-take-le n out' m))

module _ (s out : List ℕ) where
  pub no_room : length out < 8192 → SheetLeaves s out 0 out
  no_room h = let t = lt-leb 8192 (length out) h in record { count = rw t; bytes = rw t }

  module _ (room : 8192 ≤ length out) where
    leaves : (x : List ℕ) {n : ℕ} {out' : List ℕ} → converted s ≡ x → n ≡ length x → out' ≡ written out 0 x → SheetLeaves s out n out'
    leaves x e c b =
        let t = le-leb 8192 (length out) room in
        record { count = rw (t, e) c; bytes = rw (t, e) b }

    pub is_bad : {n : ℕ} {out' : List ℕ} → is_sheet s ≡ false → n ≡ 4 → out' ≡ take 4 bad_line ++ drop 4 out → SheetLeaves s out n out'
    unfolding converted written
    is_bad h c b = leaves bad_line (rw h) c b

    pub bad_counted : {n : ℕ} {out' : List ℕ} → n ≡ 4 → out' ≡ take 4 bad_line ++ drop 4 out → (n ≤ length out') × (n ≡ length (take n out'))
    unfolding written
    bad_counted c b = counted out bad_line (omega arith) c b

    module _ (good : is_sheet s ≡ true) {k n : ℕ} {out' : List ℕ} (all : k ≡ tiles_in s) (count : n ≡ 32 * k)
        (bytes : out' ≡ written out 0 (sheet_bytes k s)) where
      whole : out' ≡ written out 0 (sheet_bytes (tiles_in s) s)
      whole = bytes ∙ ap (λ (j : ℕ). written out 0 (sheet_bytes j s)) all

      many : n ≡ length (sheet_bytes (tiles_in s) s)
      many = count ∙ ap (λ (j : ℕ). 32 * j) all ∙ sym (sheet_long (tiles_in s) s)

      pub is_good : SheetLeaves s out n out'
      unfolding converted
      is_good = leaves (sheet_bytes (tiles_in s) s) (rw good) many whole

      pub good_counted : (n ≤ length out') × (n ≡ length (take n out'))
      good_counted =
          let l : length (sheet_bytes (tiles_in s) s) ≤ length out = omega (arith, sheet_long (tiles_in s) s, sheet_most s good) in
          counted out (sheet_bytes (tiles_in s) s) l many whole
