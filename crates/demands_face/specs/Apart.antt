-- R21.3: a handheld's block is malformed for the home machine's calls, and a home block for the handheld's.
-- Assumes nothing.
use Rattle.std.specs.Prelude.{◌≡◌, true, false, List, ℕ}
use Rattle.block.specs.Block.{well_formed as handheldFormed}
use Rattle.home_block.specs.HomeBlock.{well_formed as homeFormed}

-- no block is well formed for both
pub record Apart (b : List ℕ) : Type 0 where
  pub not_home : handheldFormed b ≡ true → homeFormed b ≡ false
  pub not_handheld : homeFormed b ≡ true → handheldFormed b ≡ false
