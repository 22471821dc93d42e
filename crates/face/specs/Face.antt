-- R7.4: what each call of the C face answers and leaves, over a state block; it goes by numbers and byte slices alone.
-- Assumes nothing.
use Rattle.std.specs.Prelude.{cond, ◌&&◌, List, [], ℕ, ◌*◌, leb, length, Result, Err, Ok}
use Rattle.picture.specs.declared.RenderArea.{RenderArea}
use Rattle.picture.specs.Area.{area_from}
use Rattle.raster.specs.Raster.{line_table_from}
use Rattle.vdp.specs.declared.VdpState.{VdpState}
use Rattle.front.specs.declared.ReadBack.{ReadBack}
use Rattle.refusal.specs.declared.Refusal.{Refusal}
use Rattle.refusal.specs.declared.Refusal.TheVariants.{BlockMalformed, UnknownArea}
use Rattle.vdp.specs.Device.{made}
use Rattle.refusal.specs.Refusals.{refusal_number, outcome_of, byte_given}
use Rattle.vdp.specs.Ports.{port_write, port_read}
use Rattle.block.specs.Block.{fits, well_formed, state_of, block_of}
use Rattle.word.specs.Word.{answer_word, byte_word}
use Rattle.points.specs.declared.Stepped.{Stepped}
use Rattle.step.specs.Step.{row_step_of, frame_step_of}
use Rattle.dump.specs.Sheet.{dump_refusal, sheet_after}
use Rattle.step.specs.Frame.{row_after, frame_after}
-- what a call answers and leaves, and what it promises, is said of either machine's block
pub use Rattle.word.specs.Called.{Called, Leaves, refused, on_device}

-- ---- R7.7, the answer words
abbrev pub read_word : ReadBack VdpState → ℕ
read_word a = byte_word (outcome_of a.byte) (byte_given a.byte)

abbrev pub step_word : Stepped VdpState → ℕ
step_word s = answer_word s.outcome s.interrupt s.report s.row

-- of a call that counts: how many from bit 8 on, or the refusal
abbrev pub counted_word : Result ℕ Refusal → ℕ
counted_word (Ok n) = 256 * n
counted_word (Err r) = refusal_number (Err r)

-- ---- R2.4, its beginning: first the block b is read, then the area number n; x is the buffer that a refusal leaves as it was
abbrev pub on_block : List ℕ → List ℕ → (VdpState → Called) → Called
on_block b x call = on_device (well_formed b) (state_of b) b x call

-- R2.1, refusal 11: there are areas 0 to 2
abbrev pub on_area : ℕ → List ℕ → List ℕ → (RenderArea → Called) → Called
on_area n b x call = cond (leb n 2) (call (area_from n)) (refused (Err UnknownArea) b x)

-- ---- the calls. A fresh block of table t: what the bytes were does not matter, only whether so many have room for it
unfoldable pub new_table_call : List ℕ → ℕ → Called
new_table_call b t =
    cond (leb t 1 && fits (line_table_from t) (length b))
    (record { word = refusal_number (Ok tt); block = block_of (length b) (made (line_table_from t)); lent = [] })
    (refused (Err BlockMalformed) b [])

-- R4.8: with no table named, the chart's, and so into a block of the second version alone
abbrev pub new_call : List ℕ → Called
new_call b = new_table_call b 1

-- the other calls leave a block in its own version, that of its length k
abbrev pub out_on : List ℕ → ℕ → ℕ → ℕ → VdpState → Called
out_on m p v k s =
    let a = port_write s m p v in
    record { word = refusal_number a.answer.outcome; block = block_of k a.answer.device; lent = a.vram }

unfoldable pub out_call : List ℕ → List ℕ → ℕ → ℕ → Called
out_call b m p v = on_block b m (out_on m p v (length b))

abbrev pub input_on : List ℕ → ℕ → ℕ → VdpState → Called
input_on m p k s =
    let a = port_read s m p in
    record { word = read_word a; block = block_of k a.device; lent = [] }

unfoldable pub input_call : List ℕ → List ℕ → ℕ → Called
input_call b m p = on_block b [] (input_on m p (length b))

-- a step's answer, and what it leaves in the pixels
abbrev pub stepped_to : ℕ → Stepped VdpState → List ℕ → Called
stepped_to k r pixels = record { word = step_word r; block = block_of k r.device; lent = pixels }

abbrev pub step_on : List ℕ → List ℕ → ℕ → VdpState → RenderArea → Called
step_on m frame k s a = stepped_to k (frame_step_of a m (length frame) s) (frame_after a m s frame)

unfoldable pub step_call : List ℕ → List ℕ → List ℕ → ℕ → Called
step_call b m frame n = on_block b frame (λ s. on_area n b frame (step_on m frame (length b) s))

abbrev pub row_step_on : List ℕ → List ℕ → ℕ → VdpState → RenderArea → Called
row_step_on m row k s a = stepped_to k (row_step_of a m (length row) s) (row_after a m s row)

unfoldable pub row_step_call : List ℕ → List ℕ → List ℕ → ℕ → Called
row_step_call b m row n = on_block b row (λ s. on_area n b row (row_step_on m row (length b) s))

-- the dump only reads the block
abbrev pub dump_on : List ℕ → List ℕ → List ℕ → VdpState → Called
dump_on b m pixels s = record { word = refusal_number (dump_refusal m (length pixels)); block = b; lent = sheet_after s.reg s.color_cache m pixels }

unfoldable pub dump_call : List ℕ → List ℕ → List ℕ → Called
dump_call b m pixels = on_block b pixels (dump_on b m pixels)
