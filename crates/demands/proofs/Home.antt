-- The home machine is a lawful machine, and what the demands say of it.
-- Assumes nothing.
use Rattle.std.specs.Prelude.{Some, Ok}
use mathlib.Core.Path.{◌≡◌, refl, sym, ◌∙◌, ap, subst}
use mathlib.Core.Logic.{◌↔◌, ◌≢◌}
use mathlib.Core.Bool.{true, false}
use mathlib.Core.List.{List}
use Prim.Native.Nat.{ℕ, suc, ◌+◌, ◌≤◌, ◌<◌}
use native.Mathlib.Omega.{arith}
use lib.Dec.{ltb}
use lib.ListN.{length, set, get_or-eq_default}
use lib.Seq.{get_or-set_other}
use borrow.Author.Tests.{ltb-true, ltb-false}
use Rattle.laws.specs.Bits.{bit}
use Rattle.laws.specs.Lists.{at, row_of}
use Rattle.laws.proofs.Tests.{split}
use Rattle.colour.specs.Home.{home_colour, home_colours_of}
use Rattle.colour.proofs.Laws.{home_colours_at, length-home_colours}
use Rattle.picture.specs.declared.Screen.TheVariants.{Home}
use Rattle.picture.specs.Screen.{columns, rows, first_line, row_size, picture_of, row_bytes}
use Rattle.raster.specs.declared.LineTable.{LineTable}
use Rattle.raster.specs.Raster.{jump_to, advanced, line_interrupt, ticked}
use Rattle.refusal.specs.Refusals.{refusal_number, Line, first}
use Rattle.refusal.proofs.Tables.{Refusing}
use Rattle.points.specs.declared.VdpInt.TheVariants.{InterruptGenerated}
use Rattle.points.specs.declared.DisplayRefresh.{DisplayRefresh}
use Rattle.points.specs.declared.DisplayRefresh.TheVariants.{NoDisplay}
use Rattle.points.specs.Points.{row_on, row_lines, frame_lines}
use Rattle.dump.specs.Sheet.{dump_lines}
use Rattle.points.proofs.Laws.{row_refusing, frame_refusing}
use Rattle.dump.proofs.Sheets.{dump_exact}
use Rattle.home.specs.declared.HomeState.{HomeState}
use Rattle.points.specs.declared.Stepped.{Stepped}
use Rattle.home.specs.Home.{made}
use Rattle.home.specs.Ports.{read_lines}
use Rattle.home.specs.Step.{register, line_of, counter_up, stepped, step_with, row_step_of, frame_step_of, frame_after, FrameStepLeaves}
use Rattle.home.proofs.Exact.{read_exact, never_six, outside_only}
use Rattle.home.proofs.Kept.{write_keeps, read_keeps}
use Rattle.home.proofs.Laws.{step_exact, step_either, is_stepped, refused_raster, frame-fits, frame_memory, stepped_row, stepped_report, stepped_raster}
use Rattle.home.proofs.Laws.{stepped_aimed, stepped_clean, stepped_interrupt, colours_now_lem, frame_step_length, frame_step_other, frame_step_here}
use Rattle.tile_codes.specs.Calls.{read_tile_lines, write_tile_lines, read_tile_refusal, write_tile_refusal}
use Rattle.face.proofs.Exact.{none, never}
use Rattle.passes.specs.Machine.{Told}
use Rattle.demands.specs.Home.{Call, out, input, frame_step, row_step, dump_tileset, write_tile, read_tile, after, refusal_of, told, Steps, home, NeverSix}
use Rattle.passes.specs.Pass.{History, NoStepOn, Run, watched, pass, ready, answer, frame_at, Demand3}
use Rattle.passes.specs.Chart.{TableKept, Charted}
use Rattle.passes.specs.Rows.{RowsDrawn}
use Rattle.passes.specs.Interrupts.{FromLine0, FirstPass}
use Rattle.passes.specs.Split.{Moment, NewRows, Split, ColourSplit, OnlyColour, Twins, Changed}
use Rattle.passes.specs.Shows.{SameUntil, WriteShows}
use Rattle.passes.proofs.Counter.{line}
use Rattle.passes.proofs.Lawful.{stays, ticks, Clean, Left, Lawful}
use Rattle.demands.proofs.Answers.{NotSeven, without, line_alone, end_line_lem}
use Rattle.passes.proofs.Sound.{table_kept}
use Rattle.passes.proofs.Interrupts.{from-line_0, first_pass}
use Rattle.passes.proofs.Demand3.{same_length, rows_drawn, demand3}
use Rattle.passes.proofs.Chart.{charted}
use Rattle.passes.proofs.Split.{new_rows_lem, colour_split, changed}
use Rattle.passes.proofs.Shows.{write_shows}

-- ---- a call
-- what only reads the device leaves it
unmoved : (h : HomeState) → Left home h h
unmoved h = record { moved = stays refl; clean = λ k. k; aimed = λ k. k }

step_left : (ls : List Line) (vram : List ℕ) (h : HomeState) → Left home h (step_with ls vram h).device
step_left ls vram h =
    step_either ls vram h (Left home h) (unmoved h)
    (λ _. record { moved = ticks (stepped_raster vram h); clean = stepped_clean vram h; aimed = stepped_aimed vram h })

left : (c : Call) (h : HomeState) → Left home h (after c h)
unfolding after
left (out p v m) h =
    let k = write_keeps h m p v in
    record { moved = stays k.raster; clean = k.clean; aimed = k.aimed }
left (input p m) h =
    let k = read_keeps h m p in
    record { moved = stays k.raster; clean = k.clean; aimed = k.aimed }
left (frame_step vram n) h = step_left (frame_lines Home vram n) vram h
left (row_step vram n) h = step_left (row_lines Home vram n) vram h
left (dump_tileset vram n) h = unmoved h
left (write_tile vram n codes) h = unmoved h
left (read_tile vram n k) h = unmoved h

quiet : (c : Call) (h : HomeState) → NoStepOn home h c → (after c h).raster ≡ h.raster
unfolding after
quiet (out p v m) h n = (write_keeps h m p v).raster
quiet (input p m) h n = (read_keeps h m p).raster
quiet (frame_step vram k) h n = refused_raster (frame_lines Home vram k) vram h (λ e. n (told (frame_step_of vram k h)) (refl, e))
quiet (row_step vram k) h n = refused_raster (row_lines Home vram k) vram h (λ e. n (told (row_step_of vram k h)) (refl, e))
quiet (dump_tileset vram k) h n = refl
quiet (write_tile vram k codes) h n = refl
quiet (read_tile vram k l) h n = refl

-- ---- an accepted step is one of the definition, with some video memory
record Is (h : HomeState) (s : Told HomeState) : Type 0 where
  vram : List ℕ
  is : s ≡ told (stepped vram h)

accepted :
    (ls : List Line) (vram : List ℕ) (h : HomeState) (s : Told HomeState) → Refusing ls → s ≡ told (step_with ls vram h) → s.outcome ≡ (Ok tt) → Is
    h s
accepted ls vram h s q e ok =
    record { vram = vram; is = e ∙ ap told (is_stepped ls vram h q (sym (ap (λ (x : Told HomeState). x.outcome) e) ∙ ok)) }

is_step : (c : Call) (h : HomeState) (s : Told HomeState) → Steps c h s → Is h s
is_step (out p v m) h s e = absurd e
is_step (input p m) h s e = absurd e
is_step (frame_step vram n) h s e = accepted (frame_lines Home vram n) vram h s (frame_refusing Home vram n) e.0 e.1
is_step (row_step vram n) h s e = accepted (row_lines Home vram n) vram h s (row_refusing Home vram n) e.0 e.1
is_step (dump_tileset vram n) h s e = absurd e
is_step (write_tile vram n codes) h s e = absurd e
is_step (read_tile vram n k) h s e = absurd e

raster_by : (h : HomeState) (s : Told HomeState) → Is h s → s.device.raster ≡ ticked (register h) h.raster
raster_by h s i = ap (λ (x : Told HomeState). x.device.raster) i.is ∙ stepped_raster i.vram h

interrupt_by_lem :
    (h : HomeState) (s : Told HomeState) → Is h s → bit (register h 1) 5 ≡ false →
    (s.interrupt ≡ InterruptGenerated) ↔ (line_interrupt (register h) (advanced (register h) h.raster) ≡ true)
interrupt_by_lem h s i off =
    subst (λ (x : Told HomeState). (x.interrupt ≡ InterruptGenerated) ↔ (line_interrupt (register h) (advanced (register h) h.raster) ≡ true))
    (sym i.is)
    (rw (stepped_interrupt i.vram h) (line_alone (bit (register h 1) 5) (bit (stepped i.vram h).device.front.status 7) _ off))

-- ---- refusals
step_not : (ls : List Line) (vram : List ℕ) (h : HomeState) → none 7 ls ≡ true → NotSeven (step_with ls vram h).outcome
step_not ls vram h e = rw (step_exact ls vram h) (without ls e)

not_seven : (c : Call) (h : HomeState) → home.addr h < home.room h → NotSeven (refusal_of c h)
unfolding refusal_of read_tile_refusal write_tile_refusal
not_seven (out p v m) h k = outside_only.write h m p v k
not_seven (input p m) h k = outside_only.read h m p k
not_seven (frame_step vram n) h k = step_not (frame_lines Home vram n) vram h refl
not_seven (row_step vram n) h k = step_not (row_lines Home vram n) vram h refl
not_seven (dump_tileset vram n) h k = rw (dump_exact vram n) (without (dump_lines vram n) refl)
not_seven (write_tile vram n codes) h k = without (write_tile_lines vram n codes) refl
not_seven (read_tile vram n k) h l = without (read_tile_lines vram n k) refl

-- ---- the step on a frame
module _ (vram : List ℕ) (n : ℕ) (h : HomeState) (ok : (frame_step_of vram n h).outcome ≡ (Ok tt)) where
  took : frame_step_of vram n h ≡ stepped vram h
  took = is_stepped (frame_lines Home vram n) vram h (frame_refusing Home vram n) ok

  row_is : (frame_step_of vram n h).row ≡ row_on Home (line h.raster)
  unfolding advanced
  row_is = ap (λ (s : Stepped HomeState). s.row) took ∙ stepped_row vram h refl

  report_is : (line h.raster ≡ 193) ↔ ((frame_step_of vram n h).report ≢ NoDisplay)
  unfolding advanced
  report_is =
      subst (λ (x : DisplayRefresh). (line h.raster ≡ 193) ↔ (x ≢ NoDisplay))
      (sym (ap (λ (s : Stepped HomeState). s.report) took ∙ stepped_report vram h))
      (end_line_lem h.front.reg (line_of (counter_up h)))

module _ (vram : List ℕ) (h : HomeState) (frame : List ℕ) (y : ℕ) where
  other : row_on Home (line h.raster) ≢ Some y → row_of (row_size Home) y (frame_after vram h frame) ≡ row_of (row_size Home) y frame
  unfolding advanced
  other n = frame_step_other vram h frame y n

  own_row :
      (frame_step_of vram (length frame) h).outcome ≡ (Ok tt) → Clean home h → row_on Home (line h.raster) ≡ Some y →
      row_of (row_size Home) y (frame_after vram h frame)
      ≡ row_bytes (home_colours_of h.cram) (columns Home)
      (picture_of Home h.front.reg (advanced (register h) h.raster).vertical_scroll vram y)
  unfolding advanced
  own_row ok k e =
      frame_step_here vram h frame y (frame_memory vram (length frame) h ok) (frame-fits vram (length frame) h ok) e ∙ rw
      (colours_now_lem (counter_up h) k)

pub home_lawful : Lawful home
unfolding after
home_lawful =
    record {
      made_raster = λ t. refl;
      made_dirty = λ t. refl;
      made_aimed = λ t. omega arith;
      left = left;
      quiet = quiet;
      step_raster = λ c h s e. raster_by h s (is_step c h s e);
      step_interrupt = λ c h s e. interrupt_by_lem h s (is_step c h s e);
      no_seven = not_seven;
      frame_is = λ _ vram n h ok. (refl, ok);
      frame_left_lem = λ _ vram n h. refl;
      frame_row = λ _. row_is;
      frame_report = λ _. report_is;
      frame_size_lem = λ _ vram n h ok. frame-fits vram n h ok;
      frame_length = λ _. frame_step_length;
      frame_other = λ _. other;
      frame_here = λ _. own_row;
    }

-- ---- R20.3: refusal 6 never comes, of whatever record
no_six : (ls : List Line) → none 6 ls ≡ true → refusal_number (first ls) ≢ 6
no_six ls e = never 6 ls (λ z. omega arith) e

pub never_six_home : NeverSix
unfolding refusal_of read_tile_refusal write_tile_refusal
never_six_home (out p v m) h = never_six h m p v
never_six_home (input p m) h = rw (read_exact h m p) (no_six (read_lines h m p) refl)
never_six_home (frame_step vram n) h = rw (step_exact (frame_lines Home vram n) vram h) (no_six (frame_lines Home vram n) refl)
never_six_home (row_step vram n) h = rw (step_exact (row_lines Home vram n) vram h) (no_six (row_lines Home vram n) refl)
never_six_home (dump_tileset vram n) h = rw (dump_exact vram n) (no_six (dump_lines vram n) refl)
never_six_home (write_tile vram n codes) h = no_six (write_tile_lines vram n codes) refl
never_six_home (read_tile vram n k) h = no_six (read_tile_lines vram n k) refl

-- ---- what the demands say of it
-- each step of a run is one of the definition
pub steps_home : (r : Run home tt) (i : ℕ) → answer r i ≡ told (stepped (r.vram i) (ready r i))
unfolding answer
steps_home r i = ap told (took (r.vram i) (length r.frame) (ready r i) (r.accepted i (ready r i)))

-- what the frame step's contract says of each step of a run
pub by_contract_home :
    (r : Run home tt) (i : ℕ) (s : Stepped HomeState) → FrameStepLeaves (r.vram i) (ready r i) (frame_at r i) s (frame_at r (suc i)) → told s ≡ answer r i
unfolding answer
by_contract_home r i s leaves = ap told leaves.answer ∙ ap (λ (n : ℕ). told (frame_step_of (r.vram i) n (ready r i))) (same_length home_lawful r i)

-- 192 rows of 1,024 bytes, from line 0
home_once : first_line Home + rows Home ≤ jump_to
home_once = omega arith

pub demand3_home : (r : Run home tt) → Demand3 (watched r)
demand3_home r = demand3 home_lawful r home_once

pub rows_home : (r : Run home tt) → RowsDrawn (watched r)
rows_home r = rows_drawn home_lawful r

-- which rows a change at any place of any pass reaches; from line 0, and from line 1
pub new_rows_home : (t : LineTable) → NewRows t Home
new_rows_home t = new_rows_lem t Home home_once

pub colour_split-home : (r : Run home tt) {L : ℕ} {old new : List ℕ} (s : Split (watched r) L old new) → ColourSplit s
colour_split-home r s = colour_split home_lawful r s home_once

pub changed_home :
    (r r₀ : Run home tt) {L : ℕ} {old new : List ℕ} → Twins (watched r) (watched r₀) → (s : Split (watched r) L old new) →
    ((i : ℕ) → i < pass (watched r) → (ready r₀ i).cram ≡ old) →
    (c : ℕ) → OnlyColour home c old new → Changed s (watched r₀) c
changed_home r r₀ t s kept c only = changed home_lawful r r₀ t home_once s kept c only

-- a write
pub write_shows-home : (r : Run home tt) {L : ℕ} (m : Moment (watched r) L) (r₀ : Run home tt) → SameUntil (watched r) (watched r₀) m.step →
    WriteShows m (watched r₀)
write_shows-home r m r₀ same = write_shows home_lawful r m r₀ same home_once

-- no call changes its table, and its counter goes by the chart
pub table_kept_home : TableKept home
table_kept_home = table_kept home_lawful

pub charted_home : (t : LineTable) (h : History home) → Charted home t h
charted_home = charted home_lawful

-- the line interrupts over any calls, and those of the first pass
pub from-line_0_home : (N : ℕ) (start : HomeState) (reads : line_of start ≡ 0xFF) → FromLine0 home N start reads
from-line_0_home = from-line_0 home_lawful

pub first_pass_home : (N : ℕ) (t : LineTable) (start : HomeState) (unstepped : start.raster ≡ (made t).raster) → FirstPass home N t start unstepped
first_pass_home = first_pass home_lawful

-- ---- colours
-- the palette byte of colour c makes no other colour
past_colours : (p : List ℕ) (n : ℕ) → 32 ≤ n → at (home_colours_of p) n ≡ 0
past_colours p n h = get_or-eq_default (home_colours_of p) 0 (omega (arith, length-home_colours p))

pub other_colours_home : (c : ℕ) (p : List ℕ) (v : ℕ) → OnlyColour home c p (set p c v)
other_colours_home c p v n d =
    split (ltb n 32)
    (λ t.
    let h : n < 32 = ltb-true n 32 t in
    home_colours_at (set p c v) n h ∙ ap home_colour (get_or-set_other p c n v 0 d) ∙ sym (home_colours_at p n h))
    (λ t.
    let h : 32 ≤ n = ltb-false n 32 t in
    past_colours (set p c v) n h ∙ sym (past_colours p n h))
