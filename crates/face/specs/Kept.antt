-- R4.8 in the C face: what a call on block b leaves of its version, which is its length, and of its device's table.
-- So a device of table 1 is in no block of the first version: none is made so (`fits`), a block of that version reads as table 0, and no call changes either.
-- Assumes nothing.
use Rattle.std.specs.Prelude.{◌≡◌, List, ℕ, length}
use Rattle.block.specs.Block.{state_of}
use Rattle.face.specs.Face.{Called}

pub record SameTable (b : List ℕ) (c : Called) : Type 0 where
  pub version : length c.block ≡ length b
  pub table : (state_of c.block).raster.table ≡ (state_of b).raster.table
