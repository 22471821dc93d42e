-- The handheld is a lawful machine, and what the demands say of it.
-- Assumes nothing.
use Rattle.std.specs.Prelude.{Some, Err, Ok}
use mathlib.Core.Path.{◌≡◌, refl, sym, ◌∙◌, ap, subst}
use mathlib.Core.Logic.{◌↔◌, ◌≢◌, inl, inr, ⊎_elim}
use mathlib.Core.Bool.{Bool, true, false, not, ◌&&◌}
use mathlib.Core.List.{List, [], ◌∷◌}
use Prim.Native.Nat.{ℕ, suc, ◌+◌, ◌*◌, ◌%◌, ◌≤◌, ◌<◌}
use native.Mathlib.Omega.{arith}
use lib.Dec.{eqb, ltb}
use lib.ListN.{length, set, get_or-eq_default}
use lib.Seq.{get_or-set_other}
use borrow.Author.Tests.{lt-ltb, ltb-true, ltb-false}
use Rattle.laws.specs.Bits.{bit}
use Rattle.laws.specs.Lists.{at, row_of}
use Rattle.laws.proofs.Tests.{split}
use Rattle.colour.specs.Colour.{colour, colours_of}
use Rattle.colour.proofs.Laws.{colours_at_lem, length_colours}
use Rattle.picture.specs.declared.RenderArea.{RenderArea}
use Rattle.picture.specs.declared.RenderArea.TheVariants.{VisibleOnly, EffectiveArea, TrueEdges}
use Rattle.picture.specs.Area.{screen_of, columns, rows, first_line, row_size, picture_of, row_bytes}
use Rattle.raster.specs.declared.LineTable.{LineTable}
use Rattle.raster.specs.declared.LineTable.TheVariants.{Steps261, Steps262}
use Rattle.raster.specs.Raster.{jump_line, jump_to, advanced, line_interrupt, ticked}
use Rattle.raster.proofs.Tables.{jump_back, pass_is}
use Rattle.vdp.specs.declared.VdpState.{VdpState}
use Rattle.refusal.specs.declared.Refusal.TheVariants.{NoPaletteByte, LayerLength}
use Rattle.vdp.specs.Device.{front_of}
use Rattle.refusal.specs.Refusals.{Line, line as refusalLine, outcome_of}
use Rattle.front.specs.Lines.{is_port, is_palette, is_empty}
use Rattle.vdp.specs.Ports.{port_write, port_read}
use Rattle.vdp.proofs.Exact.{write_exact, read_exact}
use Rattle.vdp.proofs.Invariant.{Aimed, write_aimed, read_aimed}
use Rattle.front.proofs.Invariant.{front_write_inside, front_read_inside}
use Rattle.refusal.proofs.Tables.{Refusing, refuses, under_either}
use Rattle.pixel.specs.Pixel.{pixel_lines}
use Rattle.points.specs.declared.Stepped.{Stepped}
use Rattle.points.specs.declared.VdpInt.TheVariants.{InterruptGenerated}
use Rattle.points.specs.declared.DisplayRefresh.{DisplayRefresh}
use Rattle.points.specs.declared.DisplayRefresh.TheVariants.{NoDisplay}
use Rattle.step.specs.Step.{register, line_of, reading_of, counter_up, row_on, stepped, refused_step, row_lines, frame_lines, step_with, row_step_of}
use Rattle.step.specs.Step.{frame_step_of}
use Rattle.step.specs.Frame.{frame_after, FrameStepLeaves}
use Rattle.points.specs.Bytes.{also_layers}
use Rattle.dump.specs.Sheet.{dump_lines}
use Rattle.dump.proofs.Sheets.{dump_exact}
use Rattle.step.proofs.Kept.{write_keeps, read_keeps}
use Rattle.step.proofs.Laws.{stepped_row, stepped_report, stepped_raster, stepped_addr, stepped_dest, stepped_interrupt, step_accepted, step_exact}
use Rattle.step.proofs.Laws.{frame_step_length, frame_step_other, frame_step_here}
use Rattle.points.proofs.Laws.{row_refusing, frame_refusing, frame-fits, frame_memory}
use Rattle.pixel.proofs.Spots.{pixel_exact}
use Rattle.face.proofs.Exact.{none}
use Rattle.tile_codes.specs.Calls.{read_tile_lines, write_tile_lines, read_tile_refusal, write_tile_refusal}
use Rattle.passes.specs.Machine.{Told}
use Rattle.demands.specs.Handheld.{Call, out, input, frame_step, row_step, layer_frame_step_lem, layer_row_step_lem, dump_tileset, pixel_at, write_tile}
use Rattle.demands.specs.Handheld.{read_tile, layer_frame_step, layer_row_step, after, refusal_of, told, Steps, handheld}
use Rattle.passes.specs.Pass.{History, NoStepOn, Run, watched, pass, ready, answer, line_set, frame_at, row_at_end, picture_at, Demand3}
use Rattle.passes.specs.Chart.{chart_line, Charted, comes_at, place_set}
use Rattle.demands.specs.Numbers.{last_twice, EffectiveRows, Ninety}
use Rattle.passes.specs.Split.{Moment, NewRows, Split, ColourSplit, OnlyColour, Twins, Changed}
use Rattle.passes.specs.Shows.{SameUntil, WriteShows}
use Rattle.passes.proofs.Counter.{line}
use Rattle.passes.proofs.Lines.{line_next}
use Rattle.passes.proofs.Lawful.{stays, ticks, Clean, Left, Lawful}
use Rattle.demands.proofs.Answers.{NotSeven, without, line_alone, end_line_lem}
use Rattle.passes.proofs.Demand3.{line_of_lem, same_length, rows_drawn, demand3}
use Rattle.passes.proofs.Chart.{charted, in_chart, order, own_place, in_order}
use Rattle.passes.proofs.Split.{set_row, later, drawn_later, new_rows_lem, colour_split, changed}
use Rattle.passes.proofs.Shows.{write_shows}
use Rattle.demands.proofs.Steps.{colours_now_lem, stepped_clean, is_stepped, refused_raster, frame_taken}

-- ---- a call
-- what only reads the device leaves it
unmoved : (d : VdpState) → Left handheld d d
unmoved d = record { moved = stays refl; clean = λ k. k; aimed = λ k. k }

step_left : (ls : List Line) (a : RenderArea) (vram : List ℕ) (d : VdpState) → Left handheld d (step_with ls a vram d).device
unfolding step_with
step_left ls a vram d = under_either LeftBy ls (λ r. refused_step r d) (stepped a vram d) (λ _. unmoved d) (λ _. took)
  where
    LeftBy : Stepped VdpState → Type 0
    LeftBy s = Left handheld d s.device

    took : Left handheld d (stepped a vram d).device
    took =
        record {
          moved = ticks (stepped_raster a vram d);
          clean = stepped_clean a vram d;
          aimed = λ k. rw (stepped_addr a vram d, stepped_dest a vram d) k;
        }

left : (c : Call) (d : VdpState) → Left handheld d (after c d)
unfolding after
left (out p v m) d =
    let k = write_keeps d m p v in
    record { moved = stays k.raster; clean = k.clean; aimed = write_aimed d m p v }
left (input p m) d =
    let k = read_keeps d m p in
    record { moved = stays k.raster; clean = k.clean; aimed = read_aimed d m p }
left (frame_step a vram n) d = step_left (frame_lines a vram n) a vram d
left (row_step a vram n) d = step_left (row_lines a vram n) a vram d
left (layer_frame_step_lem a vram n l) d = step_left (also_layers (columns a) l (frame_lines a vram n)) a vram d
left (layer_row_step_lem a vram n l) d = step_left (also_layers (columns a) l (row_lines a vram n)) a vram d
left (dump_tileset vram n) d = unmoved d
left (pixel_at a vram y x) d = unmoved d
left (write_tile vram n codes) d = unmoved d
left (read_tile vram n k) d = unmoved d

quiet : (c : Call) (d : VdpState) → NoStepOn handheld d c → (after c d).raster ≡ d.raster
unfolding after
quiet (out p v m) d n = (write_keeps d m p v).raster
quiet (input p m) d n = (read_keeps d m p).raster
quiet (frame_step a vram k) d n = refused_raster (frame_lines a vram k) a vram d (λ e. n (told (frame_step_of a vram k d)) (refl, e))
quiet (row_step a vram k) d n = refused_raster (row_lines a vram k) a vram d (λ e. n (told (row_step_of a vram k d)) (refl, e))
quiet (layer_frame_step_lem a vram k l) d n =
    refused_raster (also_layers (columns a) l (frame_lines a vram k)) a vram d (λ e. n (told (layer_frame_step a vram k l d)) (refl, e))
quiet (layer_row_step_lem a vram k l) d n =
    refused_raster (also_layers (columns a) l (row_lines a vram k)) a vram d (λ e. n (told (layer_row_step a vram k l d)) (refl, e))
quiet (dump_tileset vram k) d n = refl
quiet (pixel_at a vram y x) d n = refl
quiet (write_tile vram k codes) d n = refl
quiet (read_tile vram k l) d n = refl

-- ---- an accepted step is one of the definition, in some area and with some video memory
record Is (d : VdpState) (s : Told VdpState) : Type 0 where
  area : RenderArea
  vram : List ℕ
  is : s ≡ told (stepped area vram d)

accepted :
    (ls : List Line) (a : RenderArea) (vram : List ℕ) (d : VdpState) (s : Told VdpState) → Refusing ls → s ≡ told (step_with ls a vram d) → s.outcome
    ≡ (Ok tt) → Is d s
accepted ls a vram d s q e ok =
    record { area = a; vram = vram; is = e ∙ ap told (is_stepped ls a vram d q (sym (ap (λ (x : Told VdpState). x.outcome) e) ∙ ok)) }

-- the line of the layers refuses too
also_refusing : (least size : ℕ) (ls : List Line) → Refusing ls → Refusing (also_layers least size ls)
also_refusing least size [] q = (refuses (Err LayerLength) (λ z. omega arith), tt)
also_refusing least size (l ∷ ls) q = (q.0, also_refusing least size ls q.1)

is_step : (c : Call) (d : VdpState) (s : Told VdpState) → Steps c d s → Is d s
is_step (out p v m) d s e = absurd e
is_step (input p m) d s e = absurd e
is_step (frame_step a vram n) d s e = accepted (frame_lines a vram n) a vram d s (frame_refusing (screen_of a) vram n) e.0 e.1
is_step (row_step a vram n) d s e = accepted (row_lines a vram n) a vram d s (row_refusing (screen_of a) vram n) e.0 e.1
is_step (layer_frame_step_lem a vram n l) d s e =
    accepted (also_layers (columns a) l (frame_lines a vram n)) a vram d s
    (also_refusing (columns a) l (frame_lines a vram n) (frame_refusing (screen_of a) vram n)) e.0 e.1
is_step (layer_row_step_lem a vram n l) d s e =
    accepted (also_layers (columns a) l (row_lines a vram n)) a vram d s
    (also_refusing (columns a) l (row_lines a vram n) (row_refusing (screen_of a) vram n)) e.0 e.1
is_step (dump_tileset vram n) d s e = absurd e
is_step (pixel_at a vram y x) d s e = absurd e
is_step (write_tile vram n codes) d s e = absurd e
is_step (read_tile vram n k) d s e = absurd e

raster_by : (d : VdpState) (s : Told VdpState) → Is d s → s.device.raster ≡ ticked (register d) d.raster
raster_by d s i = ap (λ (x : Told VdpState). x.device.raster) i.is ∙ stepped_raster i.area i.vram d

interrupt_by_lem :
    (d : VdpState) (s : Told VdpState) → Is d s → bit (register d 1) 5 ≡ false →
    (s.interrupt ≡ InterruptGenerated) ↔ (line_interrupt (register d) (advanced (register d) d.raster) ≡ true)
interrupt_by_lem d s i off =
    subst (λ (x : Told VdpState). (x.interrupt ≡ InterruptGenerated) ↔ (line_interrupt (register d) (advanced (register d) d.raster) ≡ true))
    (sym i.is)
    (rw (stepped_interrupt i.area i.vram d) (line_alone (bit (register d 1) 5) (bit (stepped i.area i.vram d).device.status 7) _ off))

-- ---- refusal 7
module _ (d : VdpState) (m : List ℕ) (p : ℕ) (aimed : Aimed d) where
  write_not : (v : ℕ) → NotSeven (port_write d m p v).answer.outcome
  write_not v =
      let own : Bool = is_port 0xBE p && is_palette d.dest && not (eqb (d.addr % 2) 0) && is_empty d.cram_byte1 in
      rw (write_exact d m p v) (front_write_inside 64 (front_of d) m p aimed v (refusalLine own (Err NoPaletteByte) ∷ []) (λ _. omega arith, tt))

  read_not : NotSeven (outcome_of (port_read d m p).byte)
  read_not = rw (read_exact d m p) (front_read_inside 64 (front_of d) m p aimed)

step_not : (ls : List Line) (a : RenderArea) (vram : List ℕ) (d : VdpState) → none 7 ls ≡ true → NotSeven (step_with ls a vram d).outcome
step_not ls a vram d h = rw (step_exact ls a vram d) (without ls h)

pub not_seven : (c : Call) (d : VdpState) → Aimed d → NotSeven (refusal_of c d)
unfolding refusal_of read_tile_refusal write_tile_refusal
not_seven (out p v m) d h = write_not d m p h v
not_seven (input p m) d h = read_not d m p h
not_seven (frame_step a vram n) d h = step_not (frame_lines a vram n) a vram d refl
not_seven (row_step a vram n) d h = step_not (row_lines a vram n) a vram d refl
not_seven (layer_frame_step_lem a vram n l) d h = step_not (also_layers (columns a) l (frame_lines a vram n)) a vram d refl
not_seven (layer_row_step_lem a vram n l) d h = step_not (also_layers (columns a) l (row_lines a vram n)) a vram d refl
not_seven (dump_tileset vram n) d h = rw (dump_exact vram n) (without (dump_lines vram n) refl)
not_seven (pixel_at a vram y x) d h = rw (pixel_exact (screen_of a) vram (reading_of d) y x) (without (pixel_lines vram) refl)
not_seven (write_tile vram n codes) d h = without (write_tile_lines vram n codes) refl
not_seven (read_tile vram n k) d h = without (read_tile_lines vram n k) refl

-- ---- the step on a frame
module _ (a : RenderArea) (vram : List ℕ) (n : ℕ) (d : VdpState) (ok : (frame_step_of a vram n d).outcome ≡ (Ok tt)) where
  took : frame_step_of a vram n d ≡ stepped a vram d
  took = step_accepted (frame_lines a vram n) a vram d (frame_taken a vram n d ok)

  row_is : (frame_step_of a vram n d).row ≡ row_on a (line d.raster)
  unfolding advanced
  row_is = ap (λ (s : Stepped VdpState). s.row) took ∙ stepped_row a vram d refl

  report_is : (line d.raster ≡ 193) ↔ ((frame_step_of a vram n d).report ≢ NoDisplay)
  unfolding advanced
  report_is =
      subst (λ (x : DisplayRefresh). (line d.raster ≡ 193) ↔ (x ≢ NoDisplay))
      (sym (ap (λ (s : Stepped VdpState). s.report) took ∙ stepped_report a vram d))
      (end_line_lem d.reg (line_of (counter_up d)))

module _ (a : RenderArea) (vram : List ℕ) (d : VdpState) (frame : List ℕ) (y : ℕ) where
  other : row_on a (line d.raster) ≢ Some y → row_of (row_size a) y (frame_after a vram d frame) ≡ row_of (row_size a) y frame
  unfolding advanced
  other n = frame_step_other a vram d frame y n

  own_row :
      (frame_step_of a vram (length frame) d).outcome ≡ (Ok tt) → Clean handheld d → row_on a (line d.raster) ≡ Some y →
      row_of (row_size a) y (frame_after a vram d frame)
      ≡ row_bytes (colours_of d.cram) (columns a) (picture_of a d.reg (advanced (register d) d.raster).vertical_scroll vram y)
  unfolding advanced
  own_row ok k e =
      let p = frame_taken a vram (length frame) d ok in
      frame_step_here a vram d frame y (frame_memory (screen_of a) vram (length frame) p) (frame-fits (screen_of a) vram (length frame) p) e
      ∙ rw (colours_now_lem (counter_up d) k)

pub handheld_lawful : Lawful handheld
unfolding after
handheld_lawful =
    record {
      made_raster = λ t. refl;
      made_dirty = λ t. refl;
      made_aimed = λ t. omega arith;
      left = left;
      quiet = quiet;
      step_raster = λ c d s e. raster_by d s (is_step c d s e);
      step_interrupt = λ c d s e. interrupt_by_lem d s (is_step c d s e);
      no_seven = not_seven;
      frame_is = λ a vram n d ok. (refl, ok);
      frame_left_lem = λ a vram n d. refl;
      frame_row = row_is;
      frame_report = report_is;
      frame_size_lem = λ a vram n d ok. frame-fits (screen_of a) vram n (frame_taken a vram n d ok);
      frame_length = frame_step_length;
      frame_other = other;
      frame_here = own_row;
    }

-- ---- what the demands say of it
-- each step of a run is one of the definition
pub steps : {a : RenderArea} (r : Run handheld a) (i : ℕ) → answer r i ≡ told (stepped a (r.vram i) (ready r i))
unfolding answer
steps {a} r i = ap told (took a (r.vram i) (length r.frame) (ready r i) (r.accepted i (ready r i)))

-- what the frame step's contract says of each step of a run
pub by_contract :
    {a : RenderArea} (r : Run handheld a) (i : ℕ) (s : Stepped VdpState) → FrameStepLeaves a (r.vram i) (ready r i) (frame_at r i) s (frame_at r (suc i)) →
    told s ≡ answer r i
unfolding answer
by_contract {a} r i s leaves =
    ap told leaves.answer ∙ ap (λ (n : ℕ). told (frame_step_of a (r.vram i) n (ready r i))) (same_length handheld_lawful r i)

-- its counter goes by the chart
pub charted_handheld : (t : LineTable) (h : History handheld) → Charted handheld t h
charted_handheld = charted handheld_lawful

-- the visible area: 144 rows of 640 bytes, from line 24
pub demand3_visible : (r : Run handheld VisibleOnly) → Demand3 (watched r)
demand3_visible r = demand3 handheld_lawful r (omega arith)

-- the same with true edges
pub demand3_edges : (r : Run handheld TrueEdges) → Demand3 (watched r)
demand3_edges r = demand3 handheld_lawful r (omega arith)

-- the effective area: rows 213 to 217 or to 218 twice, every other once
pub effective_rows : (r : Run handheld EffectiveArea) → EffectiveRows (watched r)
effective_rows r =
    record {
      twice = λ y l u. (rows_drawn handheld_lawful r).twice y (omega (arith, to_jump r.table)) (omega arith) (omega (arith, to_jump r.table));
      once = λ y h out. (rows_drawn handheld_lawful r).once y h (⊎_elim (λ l. inl (omega arith)) (λ l. inr (omega (arith, to_jump r.table))) out);
    }
  where
    to_jump : (t : LineTable) → (suc (last_twice t) ≡ jump_line t) × (last_twice t < 224)
    to_jump Steps261 = (refl, omega arith)
    to_jump Steps262 = (refl, omega arith)

visible_once : first_line VisibleOnly + rows VisibleOnly ≤ jump_to
visible_once = omega arith

-- which rows a change at any place of any pass reaches
pub new_rows_visible : (t : LineTable) → NewRows t (screen_of VisibleOnly)
new_rows_visible t = new_rows_lem t (screen_of VisibleOnly) visible_once

pub new_rows_edges : (t : LineTable) → NewRows t (screen_of TrueEdges)
new_rows_edges t = new_rows_lem t (screen_of TrueEdges) visible_once

pub colour_split-visible : (r : Run handheld VisibleOnly) {L : ℕ} {old new : List ℕ} (s : Split (watched r) L old new) → ColourSplit s
colour_split-visible r s = colour_split handheld_lawful r s visible_once

pub changed_visible :
    (r r₀ : Run handheld VisibleOnly) {L : ℕ} {old new : List ℕ} → Twins (watched r) (watched r₀) → (s : Split (watched r) L old new) →
    ((i : ℕ) → i < pass (watched r) → (ready r₀ i).cram ≡ old) →
    (c : ℕ) → OnlyColour handheld c old new → Changed s (watched r₀) c
changed_visible r r₀ t s kept c only = changed handheld_lawful r r₀ t visible_once s kept c only

-- the same with true edges
pub colour_split_edges : (r : Run handheld TrueEdges) {L : ℕ} {old new : List ℕ} (s : Split (watched r) L old new) → ColourSplit s
colour_split_edges r s = colour_split handheld_lawful r s visible_once

pub changed_edges :
    (r r₀ : Run handheld TrueEdges) {L : ℕ} {old new : List ℕ} → Twins (watched r) (watched r₀) → (s : Split (watched r) L old new) →
    ((i : ℕ) → i < pass (watched r) → (ready r₀ i).cram ≡ old) →
    (c : ℕ) → OnlyColour handheld c old new → Changed s (watched r₀) c
changed_edges r r₀ t s kept c only = changed handheld_lawful r r₀ t visible_once s kept c only

-- the author's own line
pub ninety : (r : Run handheld VisibleOnly) {old new : List ℕ} (s : Split (watched r) 90 old new) → Ninety s
ninety r {old} {new} s = record { row_66 = row_66; row_67 = row_67 }
  where
    c : ColourSplit s
    c = colour_split-visible r s

    drew : (answer r s.moment.step).row ≡ Some 66
    drew = set_row handheld_lawful r s.moment.step 66 (omega arith) s.moment.sets

    row_66 : row_at_end (watched r) 66 ≡ row_bytes (colours_of old) 160 (picture_at (watched r) s.moment.step 66)
    row_66 =
        c.keeps s.moment.step 66 s.moment.in_pass drew
        (λ n. omega (arith, later handheld_lawful r s.moment visible_once s.moment.step 66 s.moment.in_pass drew n))

    -- the pass goes on to line 91, unless it began with it
    goes_on : line_set (watched r) 0 ≢ 91 → suc s.moment.step < pass (watched r)
    goes_on begins =
        let t = r.table in
        let b : ℕ = place_set (watched r) 0 in
        let at-90 : place_set (watched r) s.moment.step ≡ 90 = own_place handheld_lawful r s.moment.step 90 (omega arith) s.moment.sets in
        let comes : comes_at t b 90 ≡ s.moment.step =
        subst (λ (p : ℕ). comes_at t b p ≡ s.moment.step) at-90 (order handheld_lawful r s.moment.step s.moment.in_pass) in
        let not-91 : b ≢ 91 = λ e.
        begins ((in_order handheld_lawful r).line 0 ∙ ap (chart_line t) e ∙ rw (lt-ltb 91 (jump_line t) (omega (arith, jump_back t)))) in
        let long : 91 < pass (watched r) = omega (arith, pass_is t, jump_back t) in
        let within : b < pass (watched r) = in_chart handheld_lawful r 0 in
        split (ltb 90 b)
        (λ f. let e = rw f at comes in omega (arith, e, ltb-true 90 b f))
        (λ f. let e = rw f at comes in omega (arith, e, ltb-false 90 b f))

    row_67 : line_set (watched r) 0 ≢ 91 → row_at_end (watched r) 67 ≡ row_bytes (colours_of new) 160 (picture_at (watched r) (suc s.moment.step) 67)
    row_67 begins =
        let n = goes_on begins in
        let next : line_set (watched r) (suc s.moment.step) ≡ 91 =
        line_of_lem handheld_lawful r (suc s.moment.step) ∙ line_next (ready r (suc s.moment.step)).raster 90 c.reads (omega arith) in
        let drawn = set_row handheld_lawful r (suc s.moment.step) 67 (omega arith) next in
        c.changes (suc s.moment.step) 67 n drawn (drawn_later handheld_lawful r s.moment visible_once (suc s.moment.step) 67 n drawn
        (omega arith))

-- a write
pub write_shows-visible : (r : Run handheld VisibleOnly) {L : ℕ} (m : Moment (watched r) L) (r₀ : Run handheld VisibleOnly) → SameUntil (watched r)
    (watched r₀) m.step → WriteShows m (watched r₀)
write_shows-visible r m r₀ same = write_shows handheld_lawful r m r₀ same (omega arith)

-- ---- colours
-- the two palette bytes of colour c make no other colour
past_colours : (p : List ℕ) (n : ℕ) → 32 ≤ n → at (colours_of p) n ≡ 0
past_colours p n h = get_or-eq_default (colours_of p) 0 (omega (arith, length_colours p))

pub other_colours : (c : ℕ) (p : List ℕ) (low high : ℕ) → OnlyColour handheld c p (set (set p (2 * c) low) (2 * c + 1) high)
other_colours c p low high n d =
    split (ltb n 32)
    (λ t.
    let h : n < 32 = ltb-true n 32 t in
    colours_at_lem new n h
    ∙ ap (λ (b : ℕ). colour b (at new (2 * n + 1))) (same (2 * n) (λ e. omega arith) (λ e. omega arith))
    ∙ ap (λ (b : ℕ). colour (at p (2 * n)) b) (same (2 * n + 1) (λ e. omega arith) (λ e. omega arith))
    ∙ sym (colours_at_lem p n h))
    (λ t.
    let h : 32 ≤ n = ltb-false n 32 t in
    past_colours new n h ∙ sym (past_colours p n h))
  where
    new : List ℕ
    new = set (set p (2 * c) low) (2 * c + 1) high

    same : (k : ℕ) → k ≢ 2 * c → k ≢ 2 * c + 1 → at new k ≡ at p k
    same k a b = get_or-set_other (set p (2 * c) low) (2 * c + 1) k high 0 b ∙ get_or-set_other p (2 * c) k low 0 a
