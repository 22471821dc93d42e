-- R4.8, R17.1, R21.1, of every call of the C face of either machine: what it leaves of a block's length, which is its version, and of its device's table.
-- Assumes nothing.
use Rattle.std.specs.Prelude.{◌≡◌, true, false, List, ℕ, ◌<◌, length}
use Rattle.laws.specs.Lists.{at}
use Rattle.raster.specs.Raster.{line_table_from}
use Rattle.raster.specs.declared.LineTable.{LineTable}
use Rattle.raster.specs.declared.LineTable.TheVariants.{Steps261}
use Rattle.block.specs.Block.{sized, well_formed}
use Rattle.block_repair.specs.Repair.{mended}
use Rattle.passes.specs.Machine.{Machine}
use Rattle.demands_face.specs.Face.{Face, makes}
use Rattle.demands_face.specs.Calls.{FaceCall, vdp_new_table, repairs, face}
use Rattle.demands_face.specs.HomeCalls.{HomeCall, vdp_home_new_table, home_face}

module _ {M : Machine} (F : Face M) where
  -- the table of the device in a block
  abbrev pub table_of : List ℕ → LineTable
  table_of b = (M.raster (F.device b)).table

  -- call c on block b leaves its length and its table
  pub record Keeps (c : F.Call) (b : List ℕ) : Type 0 where
    pub version : length (F.called c b).block ≡ length b
    pub table : table_of (F.called c b).block ≡ table_of b

  -- call c, which names table n: accepted, it leaves the length, and the device has that table; refused, the block stays
  pub record Makes (c : F.Call) (n : ℕ) (b : List ℕ) : Type 0 where
    pub version : (F.called c b).word ≡ 0 → length (F.called c b).block ≡ length b
    pub table : (F.called c b).word ≡ 0 → table_of (F.called c b).block ≡ line_table_from n
    pub stays : ((F.called c b).word ≡ 0 → ⊥) → (F.called c b).block ≡ b

-- ---- of a handheld's block b, whatever its bytes
-- where call c repairs, block b is well formed
abbrev pub FormedFor : FaceCall → List ℕ → Type 0
FormedFor c b = repairs c ≡ true → well_formed b ≡ true

pub record TableKept (b : List ℕ) : Type 0 where
  -- every call but those that make a device leaves its version and its table; a repair does where the block is well formed
  pub kept : (c : FaceCall) → makes face c ≡ false → FormedFor c b → Keeps face c b
  pub made : (n : ℕ) → Makes face (vdp_new_table n) n b
  -- a table byte above 1, which only a malformed block has, is mended: it becomes 0
  pub mends : sized (length b) ≡ true → 1 < at b 219 → table_of face (mended b) ≡ Steps261

-- ---- of a home block b, whatever its bytes
pub record HomeTableKept (b : List ℕ) : Type 0 where
  pub kept : (c : HomeCall) → makes home_face c ≡ false → Keeps home_face c b
  pub made : (n : ℕ) → Makes home_face (vdp_home_new_table n) n b
