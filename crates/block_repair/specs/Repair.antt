-- R17.1 to R17.5, salvage: a damaged state block b as it is mended, byte by byte, and the offsets that change.
-- Assumes nothing.
use Rattle.std.specs.Prelude.{◌≡◌, Bool, cond, not, ◌&&◌, List, [], ◌∷◌, ◌++◌, ℕ, zero, suc, ◌+◌, ◌*◌, ◌/◌, ◌%◌, eqb, leb, ltb, length, Result, Err}
use Rattle.laws.specs.Bits.{any}
use Rattle.laws.specs.Lists.{at, written}
use Rattle.laws.specs.Table.{table}
use Rattle.colour.specs.Colour.{colours_of}
use Rattle.refusal.specs.declared.Refusal.{Refusal}
use Rattle.refusal.specs.declared.Refusal.TheVariants.{BlockMalformed, ListLength}
use Rattle.vdp.specs.Refusals.{size}
use Rattle.refusal.specs.Refusals.{Line, line, first, under, answered}
use Rattle.fields.specs.Fields.{chosen_from}
use Rattle.block.specs.Block.{block_size, sized, mark_of, state_of}

-- R17.1: a flag, table or choice above the highest that there is becomes 0
abbrev pub within : ℕ → ℕ → ℕ
within high x = cond (leb x high) x 0

-- R17.2: the byte under an empty latch becomes 0
abbrev pub held : ℕ → ℕ → ℕ
held flag byte = cond (eqb flag 0) 0 byte

-- R17.3: the address modulo the size of the memory that is chosen once the choice is mended (with none chosen, that of video memory)
abbrev pub choice : List ℕ → ℕ
choice b = within 2 (at b 20)

unfoldable pub address : List ℕ → ℕ
address b = (at b 17 + 256 * at b 18) % size (chosen_from (choice b))

-- R17.4: colours that are claimed clean and are not the palette's make the dirty flag 1
unfoldable pub matching : List ℕ → Bool
matching b = not (any 32 (λ i. not (eqb (at (state_of b).color_cache i) (at (colours_of (state_of b).cram) i))))

unfoldable pub dirty : List ℕ → ℕ
dirty b = cond (eqb (within 1 (at b 26)) 0 && not (matching b)) 1 (within 1 (at b 26))

-- the mended byte at each offset; the mark goes by the length, and all that is not named here stays
unfoldable pub mended_at : List ℕ → ℕ → ℕ
mended_at b k =
    cond (eqb k 0) 0x56
    (cond (eqb k 1) (mark_of (length b))
    (cond (eqb k 15) (within 1 (at b 15))
    (cond (eqb k 17) (address b % 256)
    (cond (eqb k 18) (address b / 256)
    (cond (eqb k 20) (choice b)
    (cond (eqb k 21) (within 1 (at b 21))
    (cond (eqb k 22) (held (within 1 (at b 21)) (at b 22))
    (cond (eqb k 23) (within 1 (at b 23))
    (cond (eqb k 24) (held (within 1 (at b 23)) (at b 24))
    (cond (eqb k 26) (dirty b)
    (cond (eqb k 219) (within 1 (at b 219))
    (at b k))))))))))))

unfoldable pub mended : List ℕ → List ℕ
mended b = table (length b) (mended_at b)

-- R17.5: the offsets below n at which f and g differ, in rising order, and those at which a block changes
unfoldable pub differing : ℕ → (ℕ → ℕ) → (ℕ → ℕ) → List ℕ
differing zero f g = []
differing (suc n) f g = differing n f g ++ cond (eqb (f n) (g n)) [] (n ∷ [])

abbrev pub changes : List ℕ → List ℕ
changes b = differing (length b) (at b) (mended_at b)

-- ---- the call, on block b and a list buffer of so many bytes
abbrev pub repair_lines : List ℕ → ℕ → List Line
repair_lines b room = line (not (sized (length b))) (Err BlockMalformed) ∷ line (ltb room block_size) (Err ListLength) ∷ []

-- What it promises of its answer r, how many offsets changed or why it was refused, and of the block and the list after it: refused, both are as they were.
pub record RepairLeaves (b l : List ℕ) (r : Result ℕ Refusal) (b' l' : List ℕ) : Type 0 where
  pub answer : r ≡ answered (length (changes b)) (first (repair_lines b (length l)))
  pub block : b' ≡ under (repair_lines b (length l)) (λ f. b) (mended b)
  pub list : l' ≡ under (repair_lines b (length l)) (λ f. l) (written l 0 (changes b))
