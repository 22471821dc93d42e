-- R17.6: what a repair is good for, of any bytes b of a block's length.
-- Assumes nothing.
use Rattle.std.specs.Prelude.{◌≡◌, ◌≢◌, ◌↔◌, Bool, true, false, ◌&&◌, ◌||◌, List, [], ◌∷◌, ℕ, ◌<◌, eqb, ltb, length}
use Rattle.laws.specs.Lists.{at}
use Rattle.vdp.specs.Refusals.{size}
use Rattle.block.specs.Block.{well_formed, state_of}
use Rattle.block_repair.specs.Repair.{matching, mended, changes}

-- nothing is wrong with a block: it is well formed, its address lies in its memory, and its colours, where they are said to be clean, are the palette's
abbrev pub nothing_wrong : List ℕ → Bool
nothing_wrong b =
    well_formed b && ltb (state_of b).addr (size (state_of b).dest) && ((state_of b).cram_dirty || matching b)

-- k is in the list
abbrev pub among : ℕ → List ℕ → Bool
among k [] = false
among k (x ∷ l) = eqb x k || among k l

pub record Salvaged (b : List ℕ) : Type 0 where
  -- the result has nothing wrong: no call finds it malformed, its address lies in its memory, and clean colours are the palette's
  pub sound : nothing_wrong (mended b) ≡ true
  -- repairing twice changes nothing more
  pub twice : mended (mended b) ≡ mended b
  -- a block stays as it is exactly where nothing is wrong with it, and exactly then the list is empty
  pub stays : (mended b ≡ b) ↔ (nothing_wrong b ≡ true)
  pub empty : (changes b ≡ []) ↔ (nothing_wrong b ≡ true)
  -- the list has exactly the offsets whose bytes differ, each higher than those before it, and so none twice
  pub listed : (k : ℕ) → (among k (changes b) ≡ true) ↔ ((k < length b) × (at (mended b) k ≢ at b k))
  pub rising : (i j : ℕ) → i < j → j < length (changes b) → at (changes b) i < at (changes b) j
