-- R21.1, R2.4: when each call on the home machine's block is refused: the block first, and then the tests of the port, the step or the dump.
-- Assumes nothing.
use Rattle.std.specs.Prelude.{not, ◌&&◌, List, [], ◌∷◌, ℕ, leb, eqb, length, Err}
use Rattle.refusal.specs.declared.Refusal.TheVariants.{BlockMalformed}
use Rattle.refusal.specs.Refusals.{Line, line}
use Rattle.home.specs.Ports.{write_lines, read_lines}
use Rattle.home_block.specs.HomeBlock.{block_size, well_formed, state_of}

-- the block, and then the lines of the call's own
abbrev pub call_lines : List ℕ → List Line → List Line
call_lines b lines = line (not (well_formed b)) (Err BlockMalformed) ∷ lines

abbrev pub new_lines : List ℕ → ℕ → List Line
new_lines b t = line (not (leb t 1 && eqb (length b) block_size)) (Err BlockMalformed) ∷ []

abbrev pub out_lines : List ℕ → List ℕ → ℕ → ℕ → List Line
out_lines b m p v = call_lines b (write_lines (state_of b) m p v)

abbrev pub input_lines : List ℕ → List ℕ → ℕ → List Line
input_lines b m p = call_lines b (read_lines (state_of b) m p)
