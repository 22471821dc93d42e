-- R21.1: what each call of the C face answers and leaves on the home machine's block.
-- Assumes nothing.
use Rattle.std.specs.Prelude.{cond, ◌&&◌, List, [], ℕ, leb, eqb, length, Err, Ok}
use Rattle.raster.specs.Raster.{line_table_from}
use Rattle.refusal.specs.declared.Refusal.TheVariants.{BlockMalformed}
use Rattle.refusal.specs.Refusals.{refusal_number, outcome_of, byte_given}
use Rattle.dump.specs.Sheet.{dump_refusal, sheet_after}
use Rattle.word.specs.Word.{answer_word, byte_word}
use Rattle.word.specs.Called.{Called, refused, on_device}
use Rattle.home.specs.declared.HomeState.{HomeState}
use Rattle.points.specs.declared.Stepped.{Stepped}
use Rattle.home.specs.Home.{made}
use Rattle.home.specs.Ports.{port_write, port_read}
use Rattle.home.specs.Step.{row_step_of, frame_step_of, row_after, frame_after}
use Rattle.home_block.specs.HomeBlock.{block_size, block_of, state_of, well_formed}

-- R2.4, its beginning: first the block b is read; x is the buffer that a refusal leaves as it was
abbrev pub on_block : List ℕ → List ℕ → (HomeState → Called) → Called
on_block b x call = on_device (well_formed b) (state_of b) b x call

-- ---- a fresh block of table t: what the bytes were does not matter, only how many they are
unfoldable pub new_table_call : List ℕ → ℕ → Called
new_table_call b t =
    cond (leb t 1 && eqb (length b) block_size)
    (record { word = refusal_number (Ok tt); block = block_of (made (line_table_from t)); lent = [] })
    (refused (Err BlockMalformed) b [])

-- with no table named, table 1
abbrev pub new_call : List ℕ → Called
new_call b = new_table_call b 1

-- ---- the ports
abbrev pub out_on : List ℕ → ℕ → ℕ → HomeState → Called
out_on m p v h =
    let a = port_write h m p v in
    record { word = refusal_number a.answer.outcome; block = block_of a.answer.device; lent = a.vram }

unfoldable pub out_call : List ℕ → List ℕ → ℕ → ℕ → Called
out_call b m p v = on_block b m (out_on m p v)

abbrev pub input_on : List ℕ → ℕ → HomeState → Called
input_on m p h =
    let a = port_read h m p in
    record { word = byte_word (outcome_of a.byte) (byte_given a.byte); block = block_of a.device; lent = [] }

unfoldable pub input_call : List ℕ → List ℕ → ℕ → Called
input_call b m p = on_block b [] (input_on m p)

-- ---- the steps: a step's answer, and what it leaves in the pixels
abbrev pub step_word : Stepped HomeState → ℕ
step_word s = answer_word s.outcome s.interrupt s.report s.row

abbrev pub stepped_to : Stepped HomeState → List ℕ → Called
stepped_to s pixels = record { word = step_word s; block = block_of s.device; lent = pixels }

abbrev pub step_on : List ℕ → List ℕ → HomeState → Called
step_on m frame h = stepped_to (frame_step_of m (length frame) h) (frame_after m h frame)

unfoldable pub step_call : List ℕ → List ℕ → List ℕ → Called
step_call b m frame = on_block b frame (step_on m frame)

abbrev pub row_step_on : List ℕ → List ℕ → HomeState → Called
row_step_on m row h = stepped_to (row_step_of m (length row) h) (row_after m h row)

unfoldable pub row_step_call : List ℕ → List ℕ → List ℕ → Called
row_step_call b m row = on_block b row (row_step_on m row)

-- ---- the dump only reads the block
abbrev pub dump_on : List ℕ → List ℕ → List ℕ → HomeState → Called
dump_on b m pixels h = record { word = refusal_number (dump_refusal m (length pixels)); block = b; lent = sheet_after h.front.reg h.color_cache m pixels }

unfoldable pub dump_call : List ℕ → List ℕ → List ℕ → Called
dump_call b m pixels = on_block b pixels (dump_on b m pixels)
