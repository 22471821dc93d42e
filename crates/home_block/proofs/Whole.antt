-- The lengths of the block's parts, what well formed says, and a fresh device's block.
-- Assumes nothing.
use mathlib.Core.Path.{◌≡◌, refl}
use mathlib.Core.Bool.{true, false, ◌&&◌}
use mathlib.Core.List.{List}
use Prim.Native.Nat.{ℕ, ◌≤◌}
use borrow.Author.Tests.{eqb-true, ne_eqb, leb-true}
use lib.Dec.{eqb, leb}
use lib.ListN.{length, set}
use Rattle.laws.specs.Lists.{at}
use Rattle.laws.specs.Table.{table, table_from}
use Rattle.laws.proofs.Tests.{both}
use Rattle.raster.specs.declared.LineTable.{LineTable}
use Rattle.raster.specs.Raster.{line_table_number}
use Rattle.block_parts.specs.Parts.{colour_bytes, fields_fit, stamped}
use Rattle.home.specs.declared.HomeState.{HomeState}
use Rattle.home.specs.Home.{made}
use Rattle.home_block.specs.HomeBlock.{block_size, head, small, block_of, marked, well_formed}

pub length-head : (h : HomeState) → length (head h) ≡ 3
unfolding head
length-head h = refl

pub length-small : (h : HomeState) → length (small h) ≡ 12
unfolding small
length-small h = refl

-- a fresh device's: all bytes 0 but a few
fresh_same : (t : LineTable) → set (stamped 186 0x48 24) 25 (line_table_number t) ≡ block_of (made t)
unfolding block_of head small colour_bytes table table_from
fresh_same t = refl

pub fresh_block : (t : LineTable) (b : List ℕ) {x : List ℕ} {n : ℕ} → length b ≡ block_size → x ≡ stamped (length b) 0x48 24 → n ≡ line_table_number t
    → set x 25 n ≡ block_of (made t)
fresh_block t b e ex en = rw (ex, e, en) (fresh_same t)

-- ---- what well formed says, part by part
module _ (b : List ℕ) where
  pub other_length : (length b ≡ block_size → ⊥) → well_formed b ≡ false
  unfolding well_formed
  other_length h = rw (ne_eqb (length b) block_size h)

  module _ (w : well_formed b ≡ true) where
    pub record Said : Type 0 where
      pub long : length b ≡ block_size
      pub mark_0 : at b 0 ≡ 0x56
      pub mark_1 : at b 1 ≡ 0x48
      pub fields : fields_fit b ≡ true
      pub flag_24 : at b 24 ≤ 1
      pub table_25 : at b 25 ≤ 1

    pub said : Said
    unfolding well_formed
    said =
        let t24 = leb (at b 24) 1 in
        let t25 = leb (at b 25) 1 in
        let all = both (eqb (length b) block_size) (marked b && fields_fit b && t24 && t25) w in
        let three = both (marked b && fields_fit b && t24) t25 all.1 in
        let two = both (marked b && fields_fit b) t24 three.0 in
        let one = both (marked b) (fields_fit b) two.0 in
        let mark = both (eqb (at b 0) 0x56) (eqb (at b 1) 0x48) one.0 in
        record {
          long = eqb-true (length b) block_size all.0;
          mark_0 = eqb-true (at b 0) 0x56 mark.0;
          mark_1 = eqb-true (at b 1) 0x48 mark.1;
          fields = one.1;
          flag_24 = leb-true (at b 24) 1 two.1;
          table_25 = leb-true (at b 25) 1 three.1;
        }
