-- What a refused call of the C face leaves: the block byte for byte as it was, or without its command latch, and the other buffer as it was.
-- Assumes nothing.
use Rattle.std.specs.Prelude.{Err}
use mathlib.Core.Path.{◌≡◌, refl, sym, ap, ◌∙◌}
use mathlib.Core.Logic.{◌≢◌}
use mathlib.Core.Bool.{true, ◌&&◌}
use mathlib.Core.List.{List, [], ◌∷◌}
use Prim.Native.Nat.{ℕ, ◌<◌}
use native.Mathlib.Omega.{arith}
use lib.Dec.{eqb, leb}
use lib.ListN.{length, set}
use Rattle.laws.specs.Lists.{at}
use Rattle.laws.proofs.Parts.{set_past}
use Rattle.laws.proofs.Tests.{split, either}
use Rattle.picture.specs.declared.RenderArea.{RenderArea}
use Rattle.raster.specs.Raster.{line_table_from}
use Rattle.vdp.specs.declared.VdpState.{VdpState}
use Rattle.refusal.specs.declared.Refusal.TheVariants.{VramLength, PixelLength, BlockMalformed, UnknownArea}
use Rattle.front.specs.declared.Front.{Front}
use Rattle.vdp.specs.Device.{front_of, with_front, unlatched}
use Rattle.refusal.specs.Refusals.{refusal_number, Line, under, whole, Outcome, outcome_of, byte_given}
use Rattle.vdp.specs.Refusals.{device_left}
use Rattle.vdp.specs.Ports.{port_write, port_read}
use Rattle.vdp.proofs.Behind.{write_behind, read_behind}
use Rattle.block.specs.Block.{fits, well_formed, state_of, head, small, last, block_of}
use Rattle.block.proofs.Whole.{long}
use Rattle.block.proofs.Stores.{sized_state}
use Rattle.block.proofs.RoundTrip.{block_back}
use Rattle.step.specs.Step.{stepped, refused_step, row_lines, frame_lines, step_with}
use Rattle.dump.specs.Sheet.{dump_refusal, sheet_after}
use Rattle.step.specs.Frame.{row_after, frame_after}
use Rattle.picture.specs.Area.{area_from}
use Rattle.refusal.proofs.Tables.{under_refused}
use Rattle.step.specs.Layers.{layers_after}
use Rattle.step.proofs.Laws as Steps
use Rattle.face.specs.Layers.{layer_lines, layer_call, layers_left}
use Rattle.word.specs.Word.{answer_word}
use Rattle.word.proofs.Words.{number_low, alone, low_byte, not_accepted}
use Rattle.word.proofs.Calls.{left_block, whole-refused}
use Rattle.face.specs.Face.{step_word, new_table_call, out_call, input_call, stepped_to, step_call, row_step_call, dump_call}
use Rattle.face.specs.Refused.{refusal_in, block_left, LeftBehind}
use Rattle.face.proofs.Exact.{step_byte}

-- the block of a device without its command latch
unlatched_block : (k : ℕ) (s : VdpState) → length s.reg ≡ 11 → block_of k (unlatched s) ≡ set (set (block_of k s) 21 0) 22 0
unfolding block_of head small last
unlatched_block k s e = sym (rw (set_past s.reg _ 11 7 _ e, set_past s.reg _ 11 8 _ e))

-- an accepted step has refusal 0 in its word
all_well : (a : RenderArea) (m : List ℕ) (s : VdpState) → refusal_in (step_word (stepped a m s)) ≡ 0
all_well a m s = step_byte (stepped a m s) ∙ ap refusal_number (Steps.stepped_refusal a m s)

module _ (b : List ℕ) (bytes : (i : ℕ) → at b i < 256) where
  -- R2.2 of a device and of its block
  left_by : well_formed b ≡ true → (r : Outcome) {n : ℕ} → n ≡ refusal_number r → block_of (length b) (device_left r (state_of b)) ≡ block_left n b
  left_by w r e =
      let s : VdpState = state_of b in
      left_block (λ (f : Front). block_of (length b) (with_front s f)) (front_of s) (block_back b w bytes)
      (unlatched_block (length b) s (sized_state b (long b w)).registers ∙ ap (λ (l : List ℕ). set (set l 21 0) 22 0) (block_back b w bytes)) r e

  -- the same of a step that the device refuses
  unstepped : well_formed b ≡ true → (r : Outcome) (x : List ℕ) → b ≡ block_left (refusal_number r) b → LeftBehind b x
      (stepped_to (length b) (refused_step r (state_of b)) x)
  unfolding answer_word
  unstepped w r x e =
      record {
        word = λ _. omega (arith, number_low r);
        block = λ _. block_back b w bytes ∙ e ∙ ap (λ (n : ℕ). block_left n b) (sym (step_byte (refused_step r (state_of b))));
        lent = λ _. refl;
      }

  pub new_behind : (t : ℕ) → LeftBehind b [] (new_table_call b t)
  unfolding new_table_call
  new_behind t =
      either (LeftBehind b []) (leb t 1 && fits (line_table_from t) (length b))
      (λ _. record { word = λ h. absurd (h refl); block = λ h. absurd (h refl); lent = λ _. refl })
      (λ _. whole-refused b (Err BlockMalformed) [] refl)

  pub out_behind : (m : List ℕ) (p v : ℕ) → LeftBehind b m (out_call b m p v)
  unfolding out_call
  out_behind m p v =
      either (LeftBehind b m) (well_formed b)
      (λ w.
      let a = port_write (state_of b) m p v in
      let r = a.answer.outcome in
      let l = write_behind (state_of b) m p v in
      record {
        word = λ _. omega (arith, number_low r);
        block = λ h. ap (block_of (length b)) (l.device (not_accepted r (alone r) h)) ∙ left_by w r (alone r);
        lent = λ h. l.memory (not_accepted r (alone r) h);
      })
      (λ _. whole-refused b (Err BlockMalformed) m refl)

  pub input_behind : (m : List ℕ) (p : ℕ) → LeftBehind b [] (input_call b m p)
  unfolding input_call
  input_behind m p =
      either (LeftBehind b []) (well_formed b)
      (λ w.
      let a = port_read (state_of b) m p in
      let r = outcome_of a.byte in
      let k = byte_given a.byte in
      let l = read_behind (state_of b) m p in
      record {
        word = λ h. omega (arith, number_low r, l.zero (not_accepted r (low_byte r k) h));
        block = λ h. ap (block_of (length b)) (l.device (not_accepted r (low_byte r k) h)) ∙ left_by w r (low_byte r k);
        lent = λ _. refl;
      })
      (λ _. whole-refused b (Err BlockMalformed) [] refl)

  -- a step on the device of the block, with x its buffer and x' what an accepted one leaves there
  -- no line of its table is one that empties the latch
  abbrev Keeping : List Line → Type 0
  Keeping [] = Unit {0}
  Keeping (l ∷ ls) = (b ≡ block_left (refusal_number l.outcome) b) × Keeping ls

  step_left :
      (w : well_formed b ≡ true) (ls : List Line) (a : RenderArea) (m x x' : List ℕ) → Keeping ls
      → LeftBehind b x (stepped_to (length b) (step_with ls a m (state_of b)) (under ls (λ r. x) x'))
  unfolding step_with
  step_left w [] a m x x' k =
      let s = state_of b in
      record { word = λ h. absurd (h (all_well a m s)); block = λ h. absurd (h (all_well a m s)); lent = λ h. absurd (h (all_well a m s)) }
  step_left w (l ∷ ls) a m x x' k =
      split l.holds (λ e. simp e (unstepped w l.outcome x k.0)) (λ e. simp e (step_left w ls a m x x' k.1))

  pub step_behind : (m frame : List ℕ) (n : ℕ) → LeftBehind b frame (step_call b m frame n)
  unfolding step_call frame_after
  step_behind m frame n =
      either (LeftBehind b frame) (well_formed b)
      (λ w. either (LeftBehind b frame) (leb n 2)
      (λ _. step_left w (frame_lines (area_from n) m (length frame)) (area_from n) m frame _ (refl, (refl, (refl, tt))))
      (λ _. whole-refused b (Err UnknownArea) frame refl))
      (λ _. whole-refused b (Err BlockMalformed) frame refl)

  pub row_behind : (m row : List ℕ) (n : ℕ) → LeftBehind b row (row_step_call b m row n)
  unfolding row_step_call row_after
  row_behind m row n =
      either (LeftBehind b row) (well_formed b)
      (λ w. either (LeftBehind b row) (leb n 2)
      (λ _. step_left w (row_lines (area_from n) m (length row)) (area_from n) m row _ (refl, (refl, tt)))
      (λ _. whole-refused b (Err UnknownArea) row refl))
      (λ _. whole-refused b (Err BlockMalformed) row refl)

  -- a step with layers: block and pixels, and the layer buffer too
  layer_behind :
      (lines : RenderArea → List Line) (filled : VdpState → RenderArea → List ℕ) (m x layers : List ℕ) (n : ℕ) → Keeping
      (layer_lines lines layers (area_from n))
      → LeftBehind b x (layer_call lines filled b m x layers n)
  unfolding layer_call
  layer_behind lines filled m x layers n k =
      either (LeftBehind b x) (well_formed b)
      (λ w. either (LeftBehind b x) (leb n 2)
      (λ _. step_left w (layer_lines lines layers (area_from n)) (area_from n) m x _ k)
      (λ _. whole-refused b (Err UnknownArea) x refl))
      (λ _. whole-refused b (Err BlockMalformed) x refl)

  pub layer_row_behind : (filled : VdpState → RenderArea → List ℕ) (m row layers : List ℕ) (n : ℕ) → LeftBehind b row
      (layer_call (λ a. row_lines a m (length row)) filled b m row layers n)
  layer_row_behind filled m row layers n = layer_behind (λ a. row_lines a m (length row)) filled m row layers n (refl, (refl, (refl, tt)))

  pub layer_frame_behind : (filled : VdpState → RenderArea → List ℕ) (m frame layers : List ℕ) (n : ℕ) → LeftBehind b frame
      (layer_call (λ a. frame_lines a m (length frame)) filled b m frame layers n)
  layer_frame_behind filled m frame layers n = layer_behind (λ a. frame_lines a m (length frame)) filled m frame layers n
      (refl, (refl, (refl, (refl, tt))))

  pub layers_behind :
      (lines : RenderArea → List Line) (filled : VdpState → RenderArea → List ℕ) (m x layers : List ℕ) (n : ℕ)
      → refusal_in (layer_call lines filled b m x layers n).word ≢ 0 → layers_left lines b m layers n ≡ layers
  unfolding layer_call layers_left layers_after
  layers_behind lines filled m x layers n =
      split (well_formed b)
      (λ e. split (leb n 2)
      (λ f.
      simp (e, f)
      (λ h.
      let ls = layer_lines lines layers (area_from n) in
      let s = step_with ls (area_from n) m (state_of b) in
      under_refused ls (λ r. layers) _ (λ k. h (step_byte s ∙ ap refusal_number (Steps.step_exact ls (area_from n) m (state_of b) ∙ k)))))
      (λ f. simp (e, f) (λ h. refl)))
      (λ e. simp e (λ h. refl))

  pub dump_behind : (m pixels : List ℕ) → LeftBehind b pixels (dump_call b m pixels)
  unfolding dump_call dump_refusal sheet_after
  dump_behind m pixels =
      either (LeftBehind b pixels) (well_formed b)
      (λ _. split (whole m)
      (λ e. split (eqb (length pixels) 131072)
      (λ f. simp (e, f) (record { word = λ h. absurd (h refl); block = λ h. absurd (h refl); lent = λ h. absurd (h refl) }))
      (λ f. simp (e, f) (whole-refused b (Err PixelLength) pixels refl)))
      (λ e. simp e (whole-refused b (Err VramLength) pixels refl)))
      (λ _. whole-refused b (Err BlockMalformed) pixels refl)
