-- The block as its parts are stored one after the other, and the device as its fields are read.
-- Assumes nothing.
use mathlib.Core.Path.{◌≡◌, refl, sym}
use mathlib.Core.Bool.{true}
use mathlib.Core.List.{List, [], ◌∷◌}
use Prim.Native.Nat.{ℕ, ◌+◌, ◌≤◌}
use native.Mathlib.Omega.{arith}
use borrow.Author.Tests.{eqb-true, eqb-false, eq-eqb}
use lib.Dec.{eqb}
use lib.ListN.{length, get_or-eq_default}
use Rattle.laws.specs.Lists.{at}
use Rattle.laws.proofs.Tests.{both, split}
use Rattle.raster.specs.declared.LineTable.{LineTable}
use Rattle.raster.specs.declared.LineTable.TheVariants.{Steps261, Steps262}
use Rattle.raster.specs.Raster.{line_table_number, line_table_from}
use Rattle.vdp.specs.declared.VdpState.{VdpState}
use Rattle.block.specs.Block.{sized, fits, head, small, last, state_of, well_formed}

pub length-head : (n : ℕ) (s : VdpState) → length (head n s) ≡ 3
unfolding head
length-head n s = refl

pub length-small : (s : VdpState) → length (small s) ≡ 13
unfolding small
length-small s = refl

-- the byte past the cache: the second version's alone
pub last_old : (n : ℕ) (s : VdpState) → n ≡ 219 → last n s ≡ []
unfolding last
last_old n s e = rw e

pub last_new : (n : ℕ) (s : VdpState) → n ≡ 220 → last n s ≡ line_table_number s.raster.table ∷ []
unfolding last
last_new n s e = rw e

pub length_last : (n : ℕ) (s : VdpState) → sized n ≡ true → 219 + length (last n s) ≡ n
length_last n s h =
    split (eqb n 219)
    (λ t. let e : n ≡ 219 = eqb-true n 219 t in rw (last_old n s e) (sym e))
    (λ t.
    let e : n ≡ 220 = eqb-true n 220 (rw t at h) in
    rw (last_new n s e) (sym e))

-- what its length is told by
pub sized_low : (n : ℕ) → sized n ≡ true → 219 ≤ n
sized_low n h =
    split (eqb n 219)
    (λ t. omega (arith, eqb-true n 219 t))
    (λ t. let e : n ≡ 220 = eqb-true n 220 (rw t at h) in omega arith)

pub sized_high : (n : ℕ) → sized n ≡ true → n ≤ 220
sized_high n h =
    split (eqb n 219)
    (λ t. omega (arith, eqb-true n 219 t))
    (λ t. let e : n ≡ 220 = eqb-true n 220 (rw t at h) in omega arith)

-- and what tells it
pub in_size : (n : ℕ) → 219 ≤ n → n ≤ 220 → sized n ≡ true
in_size n l h = split (eqb n 219) (λ t. rw t) (λ t. rw (t, eq-eqb n 220 (omega (arith, eqb-false n 219 t))))

pub fits_sized : (t : LineTable) (n : ℕ) → fits t n ≡ true → sized n ≡ true
fits_sized Steps261 n h = h
fits_sized Steps262 n h = rw (eqb-true n 220 h)

-- what a well-formed block has
pub length_of : (b : List ℕ) → well_formed b ≡ true → sized (length b) ≡ true
unfolding well_formed
length_of b e = (both (sized (length b)) _ e).0

pub long : (b : List ℕ) → well_formed b ≡ true → 219 ≤ length b
long b e = sized_low (length b) (length_of b e)

-- the device of a block has a table that the block's own version has
pub fits_own : (b : List ℕ) → sized (length b) ≡ true → fits (state_of b).raster.table (length b) ≡ true
unfolding state_of
fits_own b h =
    split (eqb (length b) 219)
    (λ t.
    let e : length b ≡ 219 = eqb-true (length b) 219 t in
    let low : length b ≤ 219 = omega arith in
    rw (get_or-eq_default b 0 low) h)
    (λ t. new (line_table_from (at b 219)) (rw t at h))
  where
    new : (t : LineTable) → eqb (length b) 220 ≡ true → fits t (length b) ≡ true
    new Steps261 e = rw (eqb-true (length b) 220 e)
    new Steps262 e = e
