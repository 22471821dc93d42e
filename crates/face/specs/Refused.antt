-- R2.1 to R2.4 of the calls of the C face, and so R13.1: when each is refused.
-- Assumes nothing.
use Rattle.std.specs.Prelude.{not, ◌&&◌, List, [], ◌∷◌, ℕ, leb, length, Err}
use Rattle.refusal.specs.declared.Refusal.TheVariants.{BlockMalformed, UnknownArea}
use Rattle.refusal.specs.Refusals.{Line, line}
use Rattle.vdp.specs.Refusals.{write_lines, read_lines}
use Rattle.raster.specs.Raster.{line_table_from}
use Rattle.block.specs.Block.{fits, well_formed, state_of}
use Rattle.dump.specs.Sheet.{dump_lines}
-- what a refusal leaves of a block is said of either machine's
pub use Rattle.word.specs.Word.{refusal_in}
pub use Rattle.word.specs.Called.{block_left, LeftBehind}

-- ---- R2.4: the block, the area, and then the tests of the port or the step
abbrev pub malformed : List ℕ → Line
malformed b = line (not (well_formed b)) (Err BlockMalformed)

abbrev pub new_lines : List ℕ → ℕ → List Line
new_lines b t = line (not (leb t 1 && fits (line_table_from t) (length b))) (Err BlockMalformed) ∷ []

abbrev pub out_lines : List ℕ → List ℕ → ℕ → ℕ → List Line
out_lines b m p v = malformed b ∷ write_lines (state_of b) m p v

abbrev pub input_lines : List ℕ → List ℕ → ℕ → List Line
input_lines b m p = malformed b ∷ read_lines (state_of b) m p

-- a step of area number n whose own lines are `lines`, and a dump
abbrev pub step_call_lines : List ℕ → ℕ → List Line → List Line
step_call_lines b n lines = malformed b ∷ line (not (leb n 2)) (Err UnknownArea) ∷ lines

abbrev pub dump_call_lines : List ℕ → List ℕ → ℕ → List Line
dump_call_lines b m size = malformed b ∷ dump_lines m size
