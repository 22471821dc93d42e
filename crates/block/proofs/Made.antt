-- A fresh device's block: all bytes 0 but a few.
-- Assumes nothing.
use mathlib.Core.Path.{◌≡◌, refl}
use mathlib.Core.Bool.{true}
use mathlib.Core.List.{List}
use Prim.Native.Nat.{ℕ, ◌≤◌, ◌<◌}
use native.Mathlib.Omega.{arith}
use lib.ListN.{length, set}
use Rattle.laws.specs.Table.{table, table_from}
use Rattle.raster.specs.declared.LineTable.{LineTable}
use Rattle.raster.specs.Raster.{line_table_number}
use Rattle.vdp.specs.Device.{made}
use Rattle.block.specs.Block.{mark_of, fits, fresh_in, head, small, last, block_of}
use Rattle.block_parts.specs.Parts.{colour_bytes, stamped}
use Rattle.block.proofs.Whole.{fits_sized, sized_low, sized_high}

old : (t : LineTable) → stamped 219 0x53 26 ≡ block_of 219 (made t)
unfolding block_of head small last colour_bytes table table_from
old t = refl

new : (t : LineTable) → set (stamped 220 0x54 26) 219 (line_table_number t) ≡ block_of 220 (made t)
unfolding block_of head small last colour_bytes table table_from
new t = refl

module _ (t : LineTable) (b : List ℕ) (room : fits t (length b) ≡ true) where
  pub low : 219 ≤ length b
  low = sized_low (length b) (fits_sized t (length b) room)

  module _ {x : List ℕ} {m : ℕ} (ex : x ≡ stamped (length b) m 26) (em : m ≡ mark_of (length b)) where
    pub fresh_old : length b ≤ 219 → x ≡ fresh_in t b
    unfolding fresh_in
    fresh_old h = let e : length b ≡ 219 = omega (arith, low) in rw (ex, em, room, e) (old t)

    pub fresh_new : {n : ℕ} → 219 < length b → n ≡ line_table_number t → set x 219 n ≡ fresh_in t b
    unfolding fresh_in
    fresh_new h en =
        let e : length b ≡ 220 = omega (arith, sized_high (length b) (fits_sized t (length b) room)) in
        rw (ex, em, en, room, e) (new t)
