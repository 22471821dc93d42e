-- R7.4: what a call of the C face answers and leaves, on either machine's block.
-- Assumes nothing.
use Rattle.std.specs.Prelude.{◌≡◌, ◌≢◌, Bool, cond, not, ◌&&◌, List, [], ◌∷◌, ℕ, ◌<◌, leb, set, Err}
use Rattle.refusal.specs.declared.Refusal.TheVariants.{BlockMalformed, UnknownArea}
use Rattle.refusal.specs.Refusals.{refusal_number, Line, line, Outcome}
use Rattle.word.specs.Word.{refusal_in}

-- What a call answers and leaves: its word, the block, and the bytes of the one other buffer that it may write (video memory of a port write, pixels of a
-- step or a dump; none of the others).
pub record Called : Type 0 where
  pub word : ℕ
  pub block : List ℕ
  pub lent : List ℕ

-- What a call promises: its answer r, and what the block and the other buffer hold after it, b' and x'.
pub record Leaves (c : Called) (r : ℕ) (b' x' : List ℕ) : Type 0 where
  pub word : r ≡ c.word
  pub block : b' ≡ c.block
  pub lent : x' ≡ c.lent

-- ---- R2.4, its beginning: first the block b is read; x is the buffer that a refusal leaves as it was
abbrev pub refused : Outcome → List ℕ → List ℕ → Called
refused r b x = record { word = refusal_number r; block = b; lent = x }

-- a call on the device d of a block, where it is well formed
abbrev pub on_device : {D : Type 0} → Bool → D → List ℕ → List ℕ → (D → Called) → Called
on_device good d b x call = cond good (call d) (refused (Err BlockMalformed) b x)

-- R2.1: and then the area's number, of a call that asks for one: there are areas 0 to 2
abbrev pub asked_lines : Bool → ℕ → List Line
asked_lines good n = line (not good) (Err BlockMalformed) ∷ line (not (leb n 2)) (Err UnknownArea) ∷ []

-- ---- R2.2, of the block: 3 to 7 leave the command latch empty, which stands in bytes 21 and 22; the others leave all as it was
abbrev pub block_left : ℕ → List ℕ → List ℕ
block_left outcome b = cond (leb 3 outcome && leb outcome 7) (set (set b 21 0) 22 0) b

-- R2.3: what a refused call on block b leaves, x its other buffer. It gives no byte, interrupt, report or row:
-- its word is the refusal alone.
pub record LeftBehind (b x : List ℕ) (c : Called) : Type 0 where
  pub word : refusal_in c.word ≢ 0 → c.word < 256
  pub block : refusal_in c.word ≢ 0 → c.block ≡ block_left (refusal_in c.word) b
  pub lent : refusal_in c.word ≢ 0 → c.lent ≡ x
