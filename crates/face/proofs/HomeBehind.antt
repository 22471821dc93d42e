-- What a refused call on the home machine's block leaves: the block as R2.2 has it, its other buffer, and no more than the refusal in its word.
-- Assumes nothing.
use Rattle.std.specs.Prelude.{Err}
use mathlib.Core.Path.{◌≡◌, refl, sym, ap, ◌∙◌}
use mathlib.Core.Logic.{◌≢◌}
use mathlib.Core.Bool.{true, ◌&&◌}
use mathlib.Core.List.{List, [], ◌∷◌}
use Prim.Native.Nat.{ℕ, ◌<◌}
use native.Mathlib.Omega.{arith}
use lib.Dec.{eqb, leb}
use lib.ListN.{length, set}
use Rattle.laws.specs.Lists.{at}
use Rattle.laws.proofs.Parts.{set_past}
use Rattle.laws.proofs.Tests.{split, either}
use Rattle.picture.specs.declared.Screen.TheVariants.{Home}
use Rattle.refusal.specs.declared.Refusal.TheVariants.{VramLength, PixelLength, BlockMalformed}
use Rattle.refusal.specs.Refusals.{refusal_number, Line, under, whole, Outcome, outcome_of, byte_given}
use Rattle.refusal.proofs.Tables.{under_refused}
use Rattle.front.specs.declared.Front.{Front}
use Rattle.front.specs.Front.{emptied}
use Rattle.points.specs.Points.{row_lines, frame_lines}
use Rattle.dump.specs.Sheet.{dump_refusal, sheet_after}
use Rattle.word.specs.Word.{answer_word, refusal_in}
use Rattle.word.specs.Called.{block_left, LeftBehind}
use Rattle.word.proofs.Words.{number_low, alone, low_byte, answer_byte, not_accepted}
use Rattle.word.proofs.Calls.{left_block, whole-refused}
use Rattle.home.specs.declared.HomeState.{HomeState}
use Rattle.home.specs.Home.{with_front}
use Rattle.home.specs.Ports.{port_write, port_read, device_left}
use Rattle.home.specs.Step.{stepped, refused_step, step_with, row_after, frame_after}
use Rattle.home.proofs.Exact.{write_behind, read_behind}
use Rattle.home.proofs.Laws.{stepped_refusal}
use Rattle.home_block.specs.HomeBlock.{block_size, head, small, block_of, state_of, well_formed, Sized}
use Rattle.home_block.proofs.Whole.{said}
use Rattle.home_block.proofs.Stores.{sized_state}
use Rattle.home_block.proofs.RoundTrip.{block_back}
use Rattle.face.specs.Home.{new_table_call, out_call, input_call, step_word, stepped_to, step_call, row_step_call, dump_call}
use Rattle.face.specs.HomeLayers.{layer_lines, layer_call, layers_left}
use Rattle.face.proofs.HomeExact.{step_byte}

unlatched_block : (h : HomeState) → Sized h → block_of (with_front h (emptied h.front)) ≡ set (set (block_of h) 21 0) 22 0
unfolding block_of head small
unlatched_block h g = sym (rw (set_past h.front.reg _ 11 7 _ g.registers, set_past h.front.reg _ 11 8 _ g.registers))

module _ (b : List ℕ) (bytes : (i : ℕ) → at b i < 256) where
  -- R2.2 of a device and of its block
  left_by : well_formed b ≡ true → (r : Outcome) {n : ℕ} → n ≡ refusal_number r → block_of (device_left r (state_of b)) ≡ block_left n b
  left_by w r e =
      let h : HomeState = state_of b in
      left_block (λ (f : Front). block_of (with_front h f)) h.front (block_back b w bytes)
      (unlatched_block h (sized_state b (said b w).long) ∙ ap (λ (l : List ℕ). set (set l 21 0) 22 0) (block_back b w bytes)) r e

  pub new_behind : (t : ℕ) → LeftBehind b [] (new_table_call b t)
  unfolding new_table_call
  new_behind t =
      either (LeftBehind b []) (leb t 1 && eqb (length b) block_size)
      (λ _. record { word = λ h. absurd (h refl); block = λ h. absurd (h refl); lent = λ _. refl })
      (λ _. whole-refused b (Err BlockMalformed) [] refl)

  pub out_behind : (m : List ℕ) (p v : ℕ) → LeftBehind b m (out_call b m p v)
  unfolding out_call
  out_behind m p v =
      either (LeftBehind b m) (well_formed b)
      (λ w.
      let a = port_write (state_of b) m p v in
      let r = a.answer.outcome in
      let l = write_behind (state_of b) m p v in
      record {
        word = λ _. omega (arith, number_low r);
        block = λ h. ap block_of (l.device (not_accepted r (alone r) h)) ∙ left_by w r (alone r);
        lent = λ h. l.memory (not_accepted r (alone r) h);
      })
      (λ _. whole-refused b (Err BlockMalformed) m refl)

  pub input_behind : (m : List ℕ) (p : ℕ) → LeftBehind b [] (input_call b m p)
  unfolding input_call
  input_behind m p =
      either (LeftBehind b []) (well_formed b)
      (λ w.
      let a = port_read (state_of b) m p in
      let r = outcome_of a.byte in
      let k = byte_given a.byte in
      let l = read_behind (state_of b) m p in
      record {
        word = λ h. omega (arith, number_low r, l.zero (not_accepted r (low_byte r k) h));
        block = λ h. ap block_of (l.device (not_accepted r (low_byte r k) h)) ∙ left_by w r (low_byte r k);
        lent = λ _. refl;
      })
      (λ _. whole-refused b (Err BlockMalformed) [] refl)

  -- a step on the device of the block, with x its buffer and x' what an accepted one leaves there; no line of its table is one that empties the latch
  abbrev Keeping : List Line → Type 0
  Keeping [] = Unit {0}
  Keeping (l ∷ ls) = (b ≡ block_left (refusal_number l.outcome) b) × Keeping ls

  unstepped : well_formed b ≡ true → (r : Outcome) (x : List ℕ) → b ≡ block_left (refusal_number r) b
      → LeftBehind b x (stepped_to (refused_step r (state_of b)) x)
  unfolding answer_word
  unstepped w r x e =
      let s = refused_step r (state_of b) in
      record {
        word = λ _. omega (arith, number_low r);
        block = λ _. block_back b w bytes ∙ e ∙ ap (λ (n : ℕ). block_left n b) (sym (answer_byte r s.interrupt s.report s.row));
        lent = λ _. refl;
      }

  step_left : (w : well_formed b ≡ true) (ls : List Line) (m x x' : List ℕ) → Keeping ls
      → LeftBehind b x (stepped_to (step_with ls m (state_of b)) (under ls (λ r. x) x'))
  unfolding step_with
  step_left w [] m x x' k =
      let s = stepped m (state_of b) in
      let well : refusal_in (step_word s) ≡ 0 = answer_byte s.outcome s.interrupt s.report s.row ∙ ap refusal_number
      (stepped_refusal m (state_of b)) in
      record { word = λ h. absurd (h well); block = λ h. absurd (h well); lent = λ h. absurd (h well) }
  step_left w (l ∷ ls) m x x' k =
      split l.holds (λ e. simp e (unstepped w l.outcome x k.0)) (λ e. simp e (step_left w ls m x x' k.1))

  pub step_behind : (m frame : List ℕ) → LeftBehind b frame (step_call b m frame)
  unfolding step_call frame_after
  step_behind m frame =
      either (LeftBehind b frame) (well_formed b) (λ w. step_left w (frame_lines Home m (length frame)) m frame _ (refl, (refl, (refl, tt))))
      (λ _. whole-refused b (Err BlockMalformed) frame refl)

  pub row_behind : (m row : List ℕ) → LeftBehind b row (row_step_call b m row)
  unfolding row_step_call row_after
  row_behind m row =
      either (LeftBehind b row) (well_formed b) (λ w. step_left w (row_lines Home m (length row)) m row _ (refl, (refl, tt)))
      (λ _. whole-refused b (Err BlockMalformed) row refl)

  -- a step with layers: block and pixels, and the layer buffer too
  layer_behind : (lines : List Line) (filled : HomeState → List ℕ) (m x layers : List ℕ) → Keeping (layer_lines lines layers)
      → LeftBehind b x (layer_call lines filled b m x layers)
  unfolding layer_call
  layer_behind lines filled m x layers k =
      either (LeftBehind b x) (well_formed b) (λ w. step_left w (layer_lines lines layers) m x _ k) (λ _. whole-refused b (Err BlockMalformed) x refl)

  pub layer_row_behind : (filled : HomeState → List ℕ) (m row layers : List ℕ)
      → LeftBehind b row (layer_call (row_lines Home m (length row)) filled b m row layers)
  layer_row_behind filled m row layers = layer_behind (row_lines Home m (length row)) filled m row layers (refl, (refl, (refl, tt)))

  pub layer_frame_behind : (filled : HomeState → List ℕ) (m frame layers : List ℕ)
      → LeftBehind b frame (layer_call (frame_lines Home m (length frame)) filled b m frame layers)
  layer_frame_behind filled m frame layers = layer_behind (frame_lines Home m (length frame)) filled m frame layers (refl, (refl, (refl, (refl, tt))))

  pub layers_behind : (lines : List Line) (filled : HomeState → List ℕ) (m x layers : List ℕ)
      → refusal_in (layer_call lines filled b m x layers).word ≢ 0 → layers_left lines b m layers ≡ layers
  unfolding layer_call layers_left
  layers_behind lines filled m x layers =
      split (well_formed b)
      (λ e. simp e
      (λ h.
      let ls = layer_lines lines layers in
      under_refused ls (λ r. layers) _ (λ k. h (step_byte b m ls (state_of b) ∙ ap refusal_number k))))
      (λ e. simp e (λ h. refl))

  pub dump_behind : (m pixels : List ℕ) → LeftBehind b pixels (dump_call b m pixels)
  unfolding dump_call dump_refusal sheet_after
  dump_behind m pixels =
      either (LeftBehind b pixels) (well_formed b)
      (λ _. split (whole m)
      (λ e. split (eqb (length pixels) 131072)
      (λ f. simp (e, f) (record { word = λ h. absurd (h refl); block = λ h. absurd (h refl); lent = λ h. absurd (h refl) }))
      (λ f. simp (e, f) (whole-refused b (Err PixelLength) pixels refl)))
      (λ e. simp e (whole-refused b (Err VramLength) pixels refl)))
      (λ _. whole-refused b (Err BlockMalformed) pixels refl)
