-- Each call on the home machine's block is refused by the first line of its table that holds.
-- Assumes nothing.
use mathlib.Core.Path.{◌≡◌, ap, ◌∙◌}
use mathlib.Core.Bool.{◌&&◌}
use mathlib.Core.List.{List}
use Prim.Native.Nat.{ℕ}
use lib.Dec.{leb, eqb}
use lib.ListN.{length}
use Rattle.laws.proofs.Tests.{split}
use Rattle.picture.specs.declared.Screen.TheVariants.{Home}
use Rattle.refusal.specs.Refusals.{refusal_number, Line, first, whole, outcome_of, byte_given}
use Rattle.points.specs.Points.{row_lines, frame_lines}
use Rattle.dump.specs.Sheet.{dump_refusal, dump_lines}
use Rattle.word.specs.Word.{refusal_in}
use Rattle.word.proofs.Words.{low_byte, alone, answer_byte}
use Rattle.home.specs.declared.HomeState.{HomeState}
use Rattle.points.specs.declared.Stepped.{Stepped}
use Rattle.home.specs.Ports.{port_write, port_read}
use Rattle.home.specs.Step.{step_with}
use Rattle.home.proofs.Exact.{write_exact, read_exact}
use Rattle.home.proofs.Laws as Steps
use Rattle.home_block.specs.HomeBlock.{block_size, state_of, well_formed}
use Rattle.face.specs.Home.{new_table_call, out_call, input_call, step_word, step_call, row_step_call, dump_call}
use Rattle.face.specs.HomeLayers.{layer_lines, layer_call}
use Rattle.face.specs.HomeRefused.{call_lines, new_lines, out_lines, input_lines}

pub new_exact : (b : List ℕ) (t : ℕ) → refusal_in (new_table_call b t).word ≡ refusal_number (first (new_lines b t))
unfolding new_table_call
new_exact b t = split (leb t 1 && eqb (length b) block_size) (λ e. simp e) (λ e. simp e)

module _ (b m : List ℕ) where
  pub out_exact : (p v : ℕ) → refusal_in (out_call b m p v).word ≡ refusal_number (first (out_lines b m p v))
  unfolding out_call
  out_exact p v =
      split (well_formed b)
      (λ e. simp e (alone (port_write (state_of b) m p v).answer.outcome ∙ ap refusal_number (write_exact (state_of b) m p v)))
      (λ e. simp e)

  pub input_exact : (p : ℕ) → refusal_in (input_call b m p).word ≡ refusal_number (first (input_lines b m p))
  unfolding input_call
  input_exact p =
      split (well_formed b)
      (λ e. simp e (low_byte (outcome_of (port_read (state_of b) m p).byte) (byte_given (port_read (state_of b) m p).byte)
      ∙ ap refusal_number (read_exact (state_of b) m p)))
      (λ e. simp e)

  -- a step's word, whatever the lines that it can meet
  pub step_byte : (ls : List Line) (h : HomeState) → refusal_in (step_word (step_with ls m h)) ≡ refusal_number (first ls)
  step_byte ls h =
      let s : Stepped HomeState = step_with ls m h in
      answer_byte s.outcome s.interrupt s.report s.row ∙ ap refusal_number (Steps.step_exact ls m h)

  pub step_exact : (frame : List ℕ) → refusal_in (step_call b m frame).word ≡ refusal_number (first (call_lines b (frame_lines Home m (length frame))))
  unfolding step_call
  step_exact frame = split (well_formed b) (λ e. simp e (step_byte (frame_lines Home m (length frame)) (state_of b))) (λ e. simp e)

  pub row_exact : (row : List ℕ) → refusal_in (row_step_call b m row).word ≡ refusal_number (first (call_lines b (row_lines Home m (length row))))
  unfolding row_step_call
  row_exact row = split (well_formed b) (λ e. simp e (step_byte (row_lines Home m (length row)) (state_of b))) (λ e. simp e)

  pub layer_exact : (lines : List Line) (filled : HomeState → List ℕ) (x layers : List ℕ)
      → refusal_in (layer_call lines filled b m x layers).word ≡ refusal_number (first (call_lines b (layer_lines lines layers)))
  unfolding layer_call
  layer_exact lines filled x layers = split (well_formed b) (λ e. simp e (step_byte (layer_lines lines layers) (state_of b))) (λ e. simp e)

  pub dump_exact : (pixels : List ℕ) → refusal_in (dump_call b m pixels).word ≡ refusal_number (first (call_lines b (dump_lines m (length pixels))))
  unfolding dump_call dump_refusal
  dump_exact pixels =
      split (well_formed b)
      (λ e. split (whole m) (λ f. split (eqb (length pixels) 131072) (λ g. simp (e, f, g)) (λ g. simp (e, f, g))) (λ f. simp (e, f)))
      (λ e. simp e)
