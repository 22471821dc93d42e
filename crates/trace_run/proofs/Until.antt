-- To read the records of a recording until one is no call, bad or the end, and to take a turn for each of its bytes come to the same: at a record that
-- is no call a turn changes nothing.
-- Assumes nothing.
use Rattle.std.specs.Prelude.{None}
use mathlib.Core.Path.{◌≡◌, refl, sym, ap, ◌∙◌}
use mathlib.Core.Bool.{Bool, true, false}
use mathlib.Core.List.{List, [], ◌++◌, append_assoc, append-nil}
use Prim.Native.Nat.{ℕ, zero, suc, ◌+◌, ◌-◌, ◌*◌, ◌≤◌}
use native.Mathlib.Omega.{arith}
use borrow.Author.Tests.{le-leb}
use lib.Dec.{ltb, leb, eqb}
use lib.ListN.{length}
use Rattle.laws.specs.Lists.{at}
use Rattle.laws.proofs.Tests.{either, split, clash}
use Rattle.picture.specs.declared.RenderArea.{RenderArea}
use Rattle.picture.specs.Area.{area_from}
use Rattle.trace_record.specs.declared.Record.{Record}
use Rattle.trace_record.specs.declared.Record.TheVariants.{Write, Read, Step, Bad, End}
use Rattle.trace_run.specs.declared.Run.{Run}
use Rattle.trace_record.specs.Record.{record_at, marked}
use Rattle.trace_record.specs.Reader.{is_call}
use Rattle.trace_text.specs.Text.{line_of, end_line, bad_line}
use Rattle.trace_record.specs.Machine.{has_area, taken_by, record_on}
use Rattle.trace_run.specs.Run.{World, Turn, row_turn, turn_by, turn_of, after, lines, ran}
use Rattle.trace_text.specs.End.{last_line}
use Rattle.trace_run.specs.Output.{text}
use Rattle.trace_run.proofs.Runs.{Moves, row_moves}

-- the record where the run stands, and whether it is a call
abbrev pub here : List ℕ → Run → Record
here s run = record_on run.device.machine s run.at

abbrev pub calls : List ℕ → World → Bool
calls s w = is_call (here s w.run)

-- From w, reading records of s until one is no call: where that ends, and the lines on the way.
pub data Reads (step : RenderArea → World → Turn) (s : List ℕ) : World → World → List ℕ → Type 0 where
  stop : {w : World} → calls s w ≡ false → Reads step s w w []
  go :
      {w e : World} {t : List ℕ} → calls s w ≡ true → Reads step s (turn_of step s w).world e t
      → Reads step s w e (line_of (turn_of step s w).answer ++ t)

module _ (step : RenderArea → World → Turn) (s : List ℕ) where
  -- there is one such end, and one text
  pub one_end : {w e e' : World} {t t' : List ℕ} → Reads step s w e t → Reads step s w e' t' → (e ≡ e') × (t ≡ t')
  one_end (stop p) (stop q) = (refl, refl)
  one_end (stop p) (go q r) = clash (sym q ∙ p)
  one_end (go p r) (stop q) = clash (sym p ∙ q)
  one_end {w} (go p r) (go q r') =
      let h = one_end r r' in
      (h.0, ap (λ (l : List ℕ). line_of (turn_of step s w).answer ++ l) h.1)

  -- a turn at a record that is no call changes nothing
  still_by : (x : Record) (w : World) → is_call x ≡ false → turn_by x step w ≡ record { answer = None; world = w }
  unfolding turn_by
  still_by (Write p v) w e = clash e
  still_by (Read p) w e = clash e
  still_by (Step a) w e = clash e
  still_by Bad w e = refl
  still_by End w e = refl

  pub still : (w : World) → calls s w ≡ false → turn_of step s w ≡ record { answer = None; world = w }
  unfolding turn_of
  still w e = still_by (here s w.run) w e

  pub stays : (n : ℕ) (w : World) → calls s w ≡ false → after step n s w ≡ w
  unfolding after
  stays zero w e = refl
  stays (suc n) w e = ap (λ (x : World). (turn_of step s x).world) (stays n w e) ∙ ap (λ (t : Turn). t.world) (still w e)

  pub silent : (n : ℕ) (w : World) → calls s w ≡ false → lines step n s w ≡ []
  unfolding lines line_of
  silent zero w e = refl
  silent (suc n) w e =
      ap (λ (l : List ℕ). l ++ line_of (turn_of step s (after step n s w)).answer) (silent n w e)
      ∙ ap (λ (x : World). line_of (turn_of step s x).answer) (stays n w e)
      ∙ ap (λ (t : Turn). line_of t.answer) (still w e)

  -- the first turn apart from the others
  pub after_first : (n : ℕ) (w : World) → after step (suc n) s w ≡ after step n s (turn_of step s w).world
  unfolding after
  after_first zero w = refl
  after_first (suc n) w = ap (λ (x : World). (turn_of step s x).world) (after_first n w)

  pub lines_first : (n : ℕ) (w : World) → lines step (suc n) s w ≡ line_of (turn_of step s w).answer ++ lines step n s (turn_of step s w).world
  unfolding after lines
  lines_first zero w = sym (append-nil (line_of (turn_of step s w).answer))
  lines_first (suc n) w =
      let a = line_of (turn_of step s w).answer in
      let v = (turn_of step s w).world in
      ap (λ (l : List ℕ). l ++ line_of (turn_of step s (after step (suc n) s w)).answer) (lines_first n w)
      ∙ ap (λ (x : World). (a ++ lines step n s v) ++ line_of (turn_of step s x).answer) (after_first n w)
      ∙ append_assoc a (lines step n s v) (line_of (turn_of step s (after step n s v)).answer)

-- a call takes at least one byte of the recording
module _ {step : RenderArea → World → Turn} (moves : Moves step) (s : List ℕ) where
  place_by : (x : Record) (w : World) → is_call x ≡ true → w.run.at + 3 ≤ (turn_by x step w).world.run.at
  unfolding turn_by
  place_by (Write p v) w e = omega arith
  place_by (Read p) w e = omega arith
  place_by (Step a) w e = omega (arith, (moves a w).place)
  place_by Bad w e = clash (sym e)
  place_by End w e = clash (sym e)

  further : (w : World) → calls s w ≡ true → w.run.at + 3 ≤ (turn_of step s w).world.run.at
  unfolding turn_of
  further w e = place_by (here s w.run) w e

  over : (w : World) → length s ≤ w.run.at → calls s w ≡ false
  unfolding record_at
  over w h = rw (le-leb (length s) w.run.at h)

  reads_by : (n : ℕ) (w : World) → length s - w.run.at ≤ n → Reads step s w (after step n s w) (lines step n s w)
  reads_by zero w h =
      let e = over w (omega arith) in
      rw (stays step s zero w e, silent step s zero w e) (stop e)
  reads_by (suc n) w h =
      split (calls s w)
      (λ e.
      rw (after_first step s n w, lines_first step s n w)
      (go e (reads_by n (turn_of step s w).world (omega (arith, further w e)))))
      (λ e. rw (stays step s (suc n) w e, silent step s (suc n) w e) (stop e))

  -- one turn for each byte of the recording reads it to its end
  pub reads_all : (w : World) → Reads step s w (ran step s w) (lines step (length s) s w)
  unfolding ran
  reads_all w = reads_by (length s) w (omega arith)

-- ---- the last line, by the record that is no call
abbrev pub closing : Record → Run → List ℕ
closing End run = end_line run.count
closing Bad run = bad_line run.at
closing (Write p v) run = []
closing (Read p) run = []
closing (Step a) run = []

-- a record that is no call, and not the end, is bad
abbrev Inside : Run → Record → Type 0
Inside run x =
    let y = taken_by run.device.machine x in
    is_call y ≡ false → bad_line run.at ≡ closing y run

step_bad : (run : Run) (a : RenderArea) → Inside run (Step a)
step_bad run a =
    either (λ (y : Record). is_call y ≡ false → bad_line run.at ≡ closing y run) (has_area run.device.machine a) (λ _ e. clash e) (λ _ _. refl)

marked_bad : (s : List ℕ) (k n m : ℕ) (run : Run) → Inside run (marked s k n m)
unfolding marked
marked_bad s k n m run =
    let P : Record → Type 0 = Inside run in
    either P (eqb m 0x5057) (λ _. either P (ltb n 4) (λ _ _. refl) (λ _ e. clash e))
    (λ _.
    either P (eqb m 0x5052) (λ _ e. clash e)
    (λ _. either P (eqb m 0x4C53) (λ _. either P (ltb 2 (at s (k + 2))) (λ _ _. refl) (λ _. step_bad run (area_from (at s (k + 2))))) (λ _ _. refl)))

pub last_is : (s : List ℕ) (run : Run) → is_call (here s run) ≡ false → last_line s run.at run.count ≡ closing (here s run) run
unfolding last_line record_at
last_is s run =
    let k = run.at in
    let n = length s - k in
    let m = 256 * at s k + at s (k + 1) in
    split (leb (length s) k) (λ t. rw t (λ _. refl)) (λ t. rw t (either (Inside run) (ltb n 3) (λ _ _. refl) (λ _. marked_bad s k n m run)))

-- The text of a trace: the lines of its calls, read until there is none, and the line of what stands there.
pub text_reads :
    (s : List ℕ) (w : World) {e : World} {t : List ℕ} → Reads row_turn s w e t → text s w ≡ t ++ closing (here s e.run) e.run
unfolding text
text_reads s w {e} {t} r =
    let h = one_end row_turn s (reads_all row_moves s w) r in
    let c = stopped r in
    ap (λ (l : List ℕ). l ++ last_line s (ran row_turn s w).run.at (ran row_turn s w).run.count) h.1
    ∙ ap (λ (x : World). t ++ last_line s x.run.at x.run.count) h.0
    ∙ ap (λ (l : List ℕ). t ++ l) (last_is s e.run c)
  where
    stopped : {w e : World} {t : List ℕ} → Reads row_turn s w e t → calls s e ≡ false
    stopped (stop p) = p
    stopped (go p r) = stopped r
