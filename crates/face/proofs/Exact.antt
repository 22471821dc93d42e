-- A call of the C face is refused by the first line of its table that holds: 10 exactly where the block is malformed, 11 exactly where it is
-- well formed and the area number is above 2.
-- Assumes nothing.
use Rattle.std.specs.Prelude.{Err}
use mathlib.Core.Path.{◌≡◌, refl, sym, ap, ◌∙◌}
use mathlib.Core.Logic.{◌≢◌, ◌↔◌}
use mathlib.Core.Bool.{Bool, true, false, cond, not, ◌&&◌}
use mathlib.Core.List.{List, [], ◌∷◌}
use Prim.Native.Nat.{ℕ, ◌<◌}
use native.Mathlib.Omega.{arith}
use borrow.Author.Tests.{eqb-false, leb-true, leb-false, not-true}
use lib.Dec.{eqb, leb}
use lib.ListN.{length}
use Rattle.laws.proofs.Tests.{split, both, clash}
use Rattle.raster.specs.Raster.{line_table_from}
use Rattle.refusal.specs.declared.Refusal.TheVariants.{UnknownArea}
use Rattle.picture.specs.declared.RenderArea.{RenderArea}
use Rattle.vdp.specs.declared.VdpState.{VdpState}
use Rattle.refusal.specs.Refusals.{refusal_number, Line, first, line, Outcome, outcome_of, byte_given}
use Rattle.vdp.specs.Refusals.{write_lines, read_lines}
use Rattle.vdp.specs.Ports.{port_write, port_read}
use Rattle.vdp.proofs.Exact.{write_exact, read_exact}
use Rattle.block.specs.Block.{fits, well_formed, state_of}
use Rattle.points.specs.declared.Stepped.{Stepped}
use Rattle.dump.specs.Sheet.{dump_refusal, dump_lines}
use Rattle.dump.proofs.Sheets as Sheets
use Rattle.step.specs.Step.{row_lines, frame_lines, step_with, row_step_of, frame_step_of}
use Rattle.step.proofs.Laws as Steps
use Rattle.picture.specs.Area.{area_from}
use Rattle.face.specs.Layers.{layer_lines, layer_call}
use Rattle.word.proofs.Words.{low_byte, alone, answer_byte}
use Rattle.face.specs.Face.{step_word, new_table_call, out_call, input_call, step_call, row_step_call, dump_call}
use Rattle.face.specs.Refused.{refusal_in, malformed, new_lines, out_lines, input_lines, step_call_lines, dump_call_lines}

pub new_exact : (b : List ℕ) (t : ℕ) → refusal_in (new_table_call b t).word ≡ refusal_number (first (new_lines b t))
unfolding new_table_call
new_exact b t = split (leb t 1 && fits (line_table_from t) (length b)) (λ e. simp e) (λ e. simp e)

pub out_exact : (b m : List ℕ) (p v : ℕ) → refusal_in (out_call b m p v).word ≡ refusal_number (first (out_lines b m p v))
unfolding out_call
out_exact b m p v =
    split (well_formed b)
    (λ e. simp e (alone (port_write (state_of b) m p v).answer.outcome ∙ ap refusal_number (write_exact (state_of b) m p v)))
    (λ e. simp e)

pub input_exact : (b m : List ℕ) (p : ℕ) → refusal_in (input_call b m p).word ≡ refusal_number (first (input_lines b m p))
unfolding input_call
input_exact b m p =
    split (well_formed b)
    (λ e. simp e (low_byte (outcome_of (port_read (state_of b) m p).byte) (byte_given (port_read (state_of b) m p).byte)
    ∙ ap refusal_number (read_exact (state_of b) m p)))
    (λ e. simp e)

-- a step's word
pub step_byte : (s : Stepped VdpState) → refusal_in (step_word s) ≡ refusal_number s.outcome
step_byte s = answer_byte s.outcome s.interrupt s.report s.row

pub step_exact :
    (b m frame : List ℕ) (n : ℕ)
    → refusal_in (step_call b m frame n).word ≡ refusal_number (first (step_call_lines b n (frame_lines (area_from n) m (length frame))))
unfolding step_call
step_exact b m frame n =
    split (well_formed b)
    (λ e. split (leb n 2)
    (λ f.
    let s = frame_step_of (area_from n) m (length frame) (state_of b) in
    simp (e, f) (step_byte s ∙ ap refusal_number (Steps.step_exact (frame_lines (area_from n) m (length frame)) (area_from n) m (state_of b))))
    (λ f. simp (e, f)))
    (λ e. simp e)

pub row_exact :
    (b m row : List ℕ) (n : ℕ) → refusal_in (row_step_call b m row n).word ≡ refusal_number
    (first (step_call_lines b n (row_lines (area_from n) m (length row))))
unfolding row_step_call
row_exact b m row n =
    split (well_formed b)
    (λ e. split (leb n 2)
    (λ f.
    let s = row_step_of (area_from n) m (length row) (state_of b) in
    simp (e, f) (step_byte s ∙ ap refusal_number (Steps.step_exact (row_lines (area_from n) m (length row)) (area_from n) m (state_of b))))
    (λ f. simp (e, f)))
    (λ e. simp e)

-- a step with layers, whatever its lines without them
pub layer_exact :
    (lines : RenderArea → List Line) (filled : VdpState → RenderArea → List ℕ) (b m x layers : List ℕ) (n : ℕ)
    → refusal_in (layer_call lines filled b m x layers n).word ≡ refusal_number (first (step_call_lines b n (layer_lines lines layers (area_from n))))
unfolding layer_call
layer_exact lines filled b m x layers n =
    split (well_formed b)
    (λ e. split (leb n 2)
    (λ f.
    let s = step_with (layer_lines lines layers (area_from n)) (area_from n) m (state_of b) in
    simp (e, f) (step_byte s ∙ ap refusal_number (Steps.step_exact (layer_lines lines layers (area_from n)) (area_from n) m (state_of b))))
    (λ f. simp (e, f)))
    (λ e. simp e)

pub dump_exact : (b m pixels : List ℕ) → refusal_in (dump_call b m pixels).word ≡ refusal_number (first (dump_call_lines b m (length pixels)))
unfolding dump_call
dump_exact b m pixels =
    split (well_formed b)
    (λ e. simp e (alone (dump_refusal m (length pixels)) ∙ ap refusal_number (Sheets.dump_exact m (length pixels))))
    (λ e. simp e)

-- ---- 10 exactly where the block is malformed
-- none of the lines gives number n
abbrev pub none : ℕ → List Line → Bool
none n [] = true
none n (l ∷ ls) = not (eqb (refusal_number l.outcome) n) && none n ls

by_test : (t : Bool) (r q : Outcome) (n : ℕ) → not (eqb (refusal_number r) n) ≡ true → refusal_number q ≢ n → refusal_number (cond t r q) ≢ n
by_test true r q n h k = eqb-false (refusal_number r) n (not-true (eqb (refusal_number r) n) h)
by_test false r q n h k = k

pub never : (n : ℕ) (ls : List Line) → 0 ≢ n → none n ls ≡ true → refusal_number (first ls) ≢ n
never n [] z h = z
never n (l ∷ ls) z h =
    let t = both (not (eqb (refusal_number l.outcome) n)) (none n ls) h in
    by_test l.holds l.outcome (first ls) n t.0 (never n ls z t.1)

ten_exactly :
    (b : List ℕ) (ls : List Line) (w : ℕ) → none 10 ls ≡ true → refusal_in w ≡ refusal_number (first (malformed b ∷ ls)) → (refusal_in w ≡ 10) ↔
    (well_formed b ≡ false)
ten_exactly b ls w h e =
    split (well_formed b)
    (λ t. (λ q. absurd (never 10 ls (λ z. omega arith) h (sym (simp t at e) ∙ q)), λ f. clash (sym t ∙ f)))
    (λ f. (λ q. f, λ q. simp f at e))

pub out_ten : (b m : List ℕ) (p v : ℕ) → (refusal_in (out_call b m p v).word ≡ 10) ↔ (well_formed b ≡ false)
out_ten b m p v = ten_exactly b (write_lines (state_of b) m p v) (out_call b m p v).word refl (out_exact b m p v)

pub input_ten : (b m : List ℕ) (p : ℕ) → (refusal_in (input_call b m p).word ≡ 10) ↔ (well_formed b ≡ false)
input_ten b m p = ten_exactly b (read_lines (state_of b) m p) (input_call b m p).word refl (input_exact b m p)

-- ---- 11 exactly where the block is well formed and the area number is above 2
eleven_exactly :
    (b : List ℕ) (ls : List Line) (n w : ℕ) → none 11 ls ≡ true → refusal_in w ≡ refusal_number (first (step_call_lines b n ls)) →
    (refusal_in w ≡ 11) ↔ ((well_formed b ≡ true) × (2 < n))
eleven_exactly b ls n w h e =
    split (well_formed b)
    (λ t. split (leb n 2)
    (λ l. (
      λ q. absurd (never 11 ls (λ z. omega arith) h (sym (simp (t, l) at e) ∙ q)),
      λ k. let low = leb-true n 2 l in absurd (omega (arith, k.1)),
    ))
    (λ l. (λ q. (t, leb-false n 2 l), λ k. simp (t, l) at e)))
    (λ f. (λ q. absurd (let k = simp f at e in omega (arith, k, q)), λ k. clash (sym k.0 ∙ f)))

pub step_ten : (b m frame : List ℕ) (n : ℕ) → (refusal_in (step_call b m frame n).word ≡ 10) ↔ (well_formed b ≡ false)
step_ten b m frame n =
    ten_exactly b (line (not (leb n 2)) (Err UnknownArea) ∷ frame_lines (area_from n) m (length frame)) (step_call b m frame n).word refl
    (step_exact b m frame n)

pub row_ten : (b m row : List ℕ) (n : ℕ) → (refusal_in (row_step_call b m row n).word ≡ 10) ↔ (well_formed b ≡ false)
row_ten b m row n =
    ten_exactly b (line (not (leb n 2)) (Err UnknownArea) ∷ row_lines (area_from n) m (length row)) (row_step_call b m row n).word refl (row_exact b m row n)

pub step_eleven : (b m frame : List ℕ) (n : ℕ) → (refusal_in (step_call b m frame n).word ≡ 11) ↔ ((well_formed b ≡ true) × (2 < n))
step_eleven b m frame n = eleven_exactly b (frame_lines (area_from n) m (length frame)) n (step_call b m frame n).word refl (step_exact b m frame n)

pub row_eleven : (b m row : List ℕ) (n : ℕ) → (refusal_in (row_step_call b m row n).word ≡ 11) ↔ ((well_formed b ≡ true) × (2 < n))
row_eleven b m row n = eleven_exactly b (row_lines (area_from n) m (length row)) n (row_step_call b m row n).word refl (row_exact b m row n)

pub dump_ten : (b m pixels : List ℕ) → (refusal_in (dump_call b m pixels).word ≡ 10) ↔ (well_formed b ≡ false)
dump_ten b m pixels = ten_exactly b (dump_lines m (length pixels)) (dump_call b m pixels).word refl (dump_exact b m pixels)
