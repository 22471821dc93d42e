-- The word of an accepted step tells what the step answers, on either machine; and what its layers tell.
-- Assumes nothing.
use Rattle.std.specs.Prelude.{None, Option, Some, ℕ, Err, Ok}
use mathlib.Core.Path.{◌≡◌, refl, sym, ◌∙◌, ap, subst}
use mathlib.Core.Bool.{cond}
use mathlib.Core.List.{List, [], ◌∷◌}
use Prim.Native.Nat.{ℕ, ◌+◌, ◌*◌, ◌≤◌, ◌<◌}
use native.Mathlib.Omega.{arith}
use lib.Dec.{eqb, ltb}
use lib.ListN.{length}
use borrow.Author.Tests.{ltb-false}
use Rattle.laws.proofs.Tests.{split}
use Rattle.picture.specs.Screen.{rows}
use Rattle.refusal.specs.declared.Refusal.TheVariants.{UnknownPort, HorizontalCounter, HighRegister, NothingChosen, PaletteRead}
use Rattle.refusal.specs.declared.Refusal.TheVariants.{NoPaletteByte, OutsideMemory, VramLength, PixelLength, BlockMalformed, UnknownArea}
use Rattle.refusal.specs.declared.Refusal.TheVariants.{FrameTooLong, UnknownTile, CodesLength, HighCode, LayerLength, ListLength, RecordRoom}
use Rattle.refusal.specs.Refusals.{refusal_number, Line, first, Outcome}
use Rattle.refusal.proofs.Tables.{Refusing}
use Rattle.points.specs.declared.VdpInt.{VdpInt}
use Rattle.points.specs.declared.VdpInt.TheVariants.{InterruptGenerated, NoInterrupt}
use Rattle.points.specs.declared.DisplayRefresh.{DisplayRefresh}
use Rattle.points.specs.declared.DisplayRefresh.TheVariants.{NoDisplay, ScreenDone, ScreenDoneNoRefresh}
use Rattle.points.specs.Points.{interrupt_number, report_number}
use Rattle.points.specs.Bytes.{also_layers}
use Rattle.points.proofs.Rows.{row_low}
use Rattle.word.specs.Word.{row_bits, answer_word}
use Rattle.word.specs.Called.{Called}
use Rattle.passes.specs.Machine.{Told, Machine}
use Rattle.passes.proofs.Counter.{line}
use Rattle.passes.proofs.Lawful.{Lawful}
use Rattle.demands_face.specs.Face.{Way, Face, interrupt_part, report_part, row_part, drawn_part, told_by}
use Rattle.demands_face.proofs.Lawful.{Steps}

interrupt_low : (v : VdpInt) → interrupt_number v ≤ 1
interrupt_low NoInterrupt = omega arith
interrupt_low InterruptGenerated = omega arith

report_low : (v : DisplayRefresh) → report_number v ≤ 2
report_low NoDisplay = omega arith
report_low ScreenDone = omega arith
report_low ScreenDoneNoRefresh = omega arith

interrupt_back : (v : VdpInt) → cond (eqb (interrupt_number v) 1) InterruptGenerated NoInterrupt ≡ v
interrupt_back NoInterrupt = refl
interrupt_back InterruptGenerated = refl

report_back : (v : DisplayRefresh) → cond (eqb (report_number v) 0) NoDisplay (cond (eqb (report_number v) 1) ScreenDone ScreenDoneNoRefresh) ≡ v
report_back NoDisplay = refl
report_back ScreenDone = refl
report_back ScreenDoneNoRefresh = refl

-- the row fits its byte
abbrev Low : Option ℕ → Type 0
Low row = (y : ℕ) → row ≡ Some y → y < 256

-- the parts of a word that has an interrupt i, a report p and a row
abbrev word_of : ℕ → ℕ → Option ℕ → ℕ
word_of i p row = 0 + 256 * i + 512 * p + row_bits row

interrupt_in : (i p : ℕ) (row : Option ℕ) → i ≤ 1 → p ≤ 2 → interrupt_part (word_of i p row) ≡ i
interrupt_in i p None h k = omega arith
interrupt_in i p (Some y) h k = omega arith

report_in : (i p : ℕ) (row : Option ℕ) → i ≤ 1 → p ≤ 2 → report_part (word_of i p row) ≡ p
report_in i p None h k = omega arith
report_in i p (Some y) h k = omega arith

row_in : (i p : ℕ) (row : Option ℕ) → i ≤ 1 → p ≤ 2 → Low row → cond (eqb (drawn_part (word_of i p row)) 1) (Some (row_part (word_of i p row))) None ≡
    row
row_in i p None h k l = let z : drawn_part (word_of i p None) ≡ 0 = omega arith in rw z
row_in i p (Some y) h k l =
    let y-low : y < 256 = l y refl in
    let one : drawn_part (word_of i p (Some y)) ≡ 1 = omega arith in
    let row : row_part (word_of i p (Some y)) ≡ y = omega arith in
    rw (one, row)

-- an answer's word
abbrev pub told_word : {D : Type 0} → Told D → ℕ
told_word s = answer_word s.outcome s.interrupt s.report s.row

told_back : {D : Type 0} (s : Told D) (d : D) → s.outcome ≡ (Ok tt) → Low s.row → d ≡ s.device → told_by (told_word s) d ≡ s
unfolding answer_word
told_back s d e l f =
    let i : ℕ = interrupt_number s.interrupt in
    let p : ℕ = report_number s.report in
    let w : told_word s ≡ word_of i p s.row = ap (λ (n : ℕ). n + 256 * i + 512 * p + row_bits s.row) (ap refusal_number e) in
    let at-interrupt = ap interrupt_part w ∙ interrupt_in i p s.row (interrupt_low s.interrupt) (report_low s.report) in
    let at-report = ap report_part w ∙ report_in i p s.row (interrupt_low s.interrupt) (report_low s.report) in
    let interrupt-is = ap (λ (n : ℕ). cond (eqb n 1) InterruptGenerated NoInterrupt) at-interrupt ∙ interrupt_back s.interrupt in
    let report_is =
    ap (λ (n : ℕ). cond (eqb n 0) NoDisplay (cond (eqb n 1) ScreenDone ScreenDoneNoRefresh)) at-report ∙ report_back s.report in
    let row_is =
    ap (λ (n : ℕ). cond (eqb (drawn_part n) 1) (Some (row_part n)) None) w
    ∙ row_in i p s.row (interrupt_low s.interrupt) (report_low s.report) l in
    λ j. record { outcome = sym e j; interrupt = interrupt-is j; report = report_is j; row = row_is j; device = f j }

-- the number 0 is that of an accepted call, and of no other
pub accepted_0 : (r : Outcome) → refusal_number r ≡ 0 → r ≡ (Ok tt)
accepted_0 (Ok tt) e = refl
accepted_0 (Err UnknownPort) e = absurd (omega arith)
accepted_0 (Err HorizontalCounter) e = absurd (omega arith)
accepted_0 (Err HighRegister) e = absurd (omega arith)
accepted_0 (Err NothingChosen) e = absurd (omega arith)
accepted_0 (Err PaletteRead) e = absurd (omega arith)
accepted_0 (Err NoPaletteByte) e = absurd (omega arith)
accepted_0 (Err OutsideMemory) e = absurd (omega arith)
accepted_0 (Err VramLength) e = absurd (omega arith)
accepted_0 (Err PixelLength) e = absurd (omega arith)
accepted_0 (Err BlockMalformed) e = absurd (omega arith)
accepted_0 (Err UnknownArea) e = absurd (omega arith)
accepted_0 (Err FrameTooLong) e = absurd (omega arith)
accepted_0 (Err UnknownTile) e = absurd (omega arith)
accepted_0 (Err CodesLength) e = absurd (omega arith)
accepted_0 (Err HighCode) e = absurd (omega arith)
accepted_0 (Err LayerLength) e = absurd (omega arith)
accepted_0 (Err ListLength) e = absurd (omega arith)
accepted_0 (Err RecordRoom) e = absurd (omega arith)

-- a call that answers and leaves what the machine's step on a frame does, where that is accepted, whatever the device
pub by_step :
    {M : Machine} (ok : Lawful M) (F : Face M) (S : List ℕ → M.Device → Type 0) (a : M.Area) → rows (M.screen a) ≤ 256 →
    (w : Way) (m x b b' : List ℕ) (d : M.Device) →
    F.called (F.on_frame_lem a w m x) b ≡ record { word = told_word (M.frame_step_of a m (length x) d); block = b'; lent = M.frame_after a m d x } →
    S b' (M.frame_step_of a m (length x) d).device → F.device b' ≡ (M.frame_step_of a m (length x) d).device →
    ((d' : M.Device) → (M.frame_step_of a m (length x) d').outcome ≡ (Ok tt)) →
    Steps F S a w m x b d
by_step {M} ok F S a few w m x b b' d e s held accepted =
    let step : Told M.Device = M.frame_step_of a m (length x) d in
    let row = ok.frame_row a m (length x) d (accepted d) in
    record {
      accepted = accepted;
      told =
          ap (λ (c : Called). told_by c.word (F.device c.block)) e
          ∙ told_back step (F.device b') (accepted d) (λ y r. omega (arith, few, row_low (M.screen a) (line (M.raster d)) y (sym row ∙ r))) held;
      stands = subst (λ (c : Called). S c.block step.device) (sym e) s;
      lent = ap (λ (c : Called). c.lent) e;
    }

-- a step with layers that is accepted has room for them
pub layers_fit : (least size : ℕ) (ls : List Line) → Refusing ls → first (also_layers least size ls) ≡ (Ok tt) → least ≤ size
layers_fit least size [] q e =
    split (ltb size least) (λ t. absurd (let z : refusal_number (Err LayerLength) ≡ refusal_number (Ok tt) = ap refusal_number (rw t at e) in omega arith))
    (λ t. ltb-false size least t)
layers_fit least size (l ∷ ls) q e = split l.holds (λ t. absurd (q.0 (rw t at e))) (λ t. layers_fit least size ls q.1 (rw t at e))
