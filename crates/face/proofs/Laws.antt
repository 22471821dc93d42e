-- A call of the C face, from what its parts give.
-- Assumes nothing.
use Rattle.refusal.specs.declared.Refusal.{Refusal}
use Rattle.std.specs.Prelude.{None, Option, Some, ℕ, Result}
use mathlib.Core.Path.{◌≡◌, refl, sym, ap, ◌∙◌}
use mathlib.Core.Bool.{Bool, true}
use mathlib.Core.Logic.{◌≢◌}
use mathlib.Core.List.{List, []}
use Prim.Native.Nat.{ℕ, ◌+◌, ◌<◌, ◌≤◌}
use native.Mathlib.Omega.{arith}
use borrow.Author.Tests.{le-leb, eqb-false}
use lib.Dec.{eqb}
use lib.ListN.{length}
use lib.Seq.{take_at}
use Rattle.laws.specs.Lists.{at}
use Rattle.laws.proofs.Parts.{at_past}
use Rattle.laws.proofs.Tests.{split}
use Rattle.picture.specs.declared.RenderArea.{RenderArea}
use Rattle.picture.specs.declared.Screen.{Screen}
use Rattle.raster.specs.declared.Raster.{Raster}
use Rattle.vdp.specs.declared.VdpState.{VdpState}
use Rattle.vdp.specs.Device.{with_status, with_raster, with_cache}
use Rattle.refusal.specs.Refusals.{refusal_number, Line, first, Outcome, outcome_of, byte_given}
use Rattle.fields.specs.Stored.{front_end}
use Rattle.block_parts.specs.Parts.{registers_in}
use Rattle.block.specs.Block.{old_size, well_formed, head, small, last, state_of, block_of, Sized}
use Rattle.block.proofs.Whole.{long}
use Rattle.block_ports.specs.InPlace.{OutInPlace, InputInPlace}
use Rattle.block.proofs.RoundTrip.{block_back}
use Rattle.block.proofs.Stores.{sized_state, raster_stored_lem, cache_stored_lem}
use Rattle.points.specs.declared.Stepped.{Stepped}
use Rattle.points.specs.declared.Points.{Points}
use Rattle.points.specs.declared.Due.{Due}
use Rattle.points.specs.Points.{bits_of}
use Rattle.points.specs.Bytes.{layers_by}
use Rattle.points.specs.Due.{due_of, due_picture, due_layers, points_by}
use Rattle.step.specs.Step.{colours_now, reading_of, cleaned, joined, step_with}
use Rattle.step.proofs.Laws.{step_table}
use Rattle.step.proofs.Steps.{joined_with}
use Rattle.dump.specs.Sheet.{SheetLeaves}
use Rattle.picture.specs.Area.{area_from, screen_of}
use Rattle.word.specs.Word.{points_word, byte_word}
use Rattle.word.specs.Called.{asked_lines}
use Rattle.word.proofs.Calls.{along, on, asked_both, asked_refused}
use Rattle.face.specs.Face.{Called, Leaves, step_word, on_block, on_area, out_on, out_call, input_on, input_call, stepped_to}
use Rattle.face.specs.Face.{dump_on, dump_call}
use Rattle.face.specs.Steps.{points_in, colours_stored, points_stored}
use Rattle.face.specs.declared.target.Target.{Target}
use Rattle.face.specs.Target.{target_lines, drawn}
use Rattle.face.specs.Stepped.{target_on, TargetLeaves}
use Rattle.face.proofs.Steps.{answer_by, row_due_by, target_by, layers_by_lem}

-- ---- a call that is taken has a block of its size, with room for what a step leaves
module _ (b : List ℕ) (n : ℕ) {q : ℕ} (eq : q ≡ refusal_number (first (asked_lines (well_formed b) n))) (zero : q ≡ 0) where
  pub room : old_size ≤ length b
  room = long b (asked_both (well_formed b) n eq zero).0

  -- at the places of a step
  pub colours_room : (26 < length b) × (91 + 128 ≤ length b)
  colours_room = (omega (arith, room), omega (arith, room))

  pub points_room : (b₁ : List ℕ) → length b₁ ≡ length b → (front_end ≤ length b₁) × (25 < length b₁)
  points_room b₁ e = (omega (arith, room), omega (arith, room))

-- ---- the block is tested first
module _ (b : List ℕ) {q : ℕ} (eq : q ≡ refusal_number (first (asked_lines (well_formed b) 0))) where
  -- taken, it is well formed
  pub whole : q ≡ 0 → well_formed b ≡ true
  whole z = (asked_both (well_formed b) 0 eq z).0

  module _ (h : q ≢ 0) where
    pub out_refused : (m : List ℕ) (p v : ℕ) → Leaves (out_call b m p v) q b m
    unfolding out_call
    out_refused m p v = asked_refused (well_formed b) 0 eq (state_of b) b m (out_on m p v (length b)) h

    pub input_refused : (m : List ℕ) (p : ℕ) → Leaves (input_call b m p) q b []
    unfolding input_call
    input_refused m p = asked_refused (well_formed b) 0 eq (state_of b) b [] (input_on m p (length b)) h

    pub dump_refused : (m pixels : List ℕ) → Leaves (dump_call b m pixels) q b pixels
    unfolding dump_call
    dump_refused m pixels = asked_refused (well_formed b) 0 eq (state_of b) b pixels (dump_on b m pixels) h

  module _ (z : q ≡ 0) where
    pub out_done : (m : List ℕ) (p v : ℕ) {r : Outcome} {b' m' : List ℕ} {n : ℕ} → OutInPlace b m p v r b' m' → n ≡ refusal_number r
        → Leaves (out_call b m p v) n b' m'
    unfolding out_call
    out_done m p v l en =
        along (on (state_of b) b m (out_on m p v (length b)) (whole z))
        (record { word = en ∙ ap refusal_number l.outcome; block = l.block; lent = l.memory })

    pub input_done : (m : List ℕ) (p : ℕ) {r : Result ℕ Refusal} {b' : List ℕ} {n : ℕ} → InputInPlace b m p r b' →
        n ≡ byte_word (outcome_of r) (byte_given r) → Leaves (input_call b m p) n b' []
    unfolding input_call
    input_done m p {r} l en =
        along (on (state_of b) b [] (input_on m p (length b)) (whole z))
        (record {
          word = en ∙ ap (λ (x : Result ℕ Refusal). byte_word (outcome_of x) (byte_given x)) l.byte;
          block = l.block;
          lent = refl;
        })

    pub dump_done :
        (m pixels : List ℕ) {reg cache : List ℕ} {r : Outcome} {pixels' : List ℕ} {n : ℕ} → reg ≡ (state_of b).reg → cache ≡ (state_of b).color_cache
        → SheetLeaves reg cache m pixels r pixels' → n ≡ refusal_number r → Leaves (dump_call b m pixels) n b pixels'
    unfolding dump_call
    dump_done m pixels er ec l en =
        along (on (state_of b) b pixels (dump_on b m pixels) (whole z))
        (record { word = en ∙ ap refusal_number l.outcome; block = refl; lent = rw (er, ec) at l.bytes })

-- a step's colours keep the sizes
cleaned_sized : (r : Option ℕ) (s : VdpState) (colours : List ℕ) → Sized s → Sized (cleaned r s colours)
cleaned_sized None s colours g = g
cleaned_sized (Some y) s colours g = record { registers = g.registers; palette = g.palette }

-- and the table
cleaned_table : (r : Option ℕ) (s : VdpState) (colours : List ℕ) → (cleaned r s colours).raster.table ≡ s.raster.table
cleaned_table None s colours = refl
cleaned_table (Some y) s colours = refl

-- a block whose colours are clean has them already
clean_kept : (n : ℕ) (s : VdpState) → Sized s → at (block_of n s) 26 ≢ 1 → block_of n s ≡ block_of n (with_cache s (colours_now s))
unfolding block_of head small last
clean_kept n s g h =
    split s.cram_dirty (λ t. absurd (h (at_past s.reg _ 11 12 g.registers ∙ rw t))) (λ t. rw t)

-- the colours of a step, stored in the block of a device
colours_stored_lem :
    (k : ℕ) (s : VdpState) → Sized s → {b colours : List ℕ} → b ≡ block_of k s → (r : Option ℕ) → ((y : ℕ) → r ≡ Some y → colours ≡ colours_now s)
    → colours_stored 26 91 r colours b ≡ block_of k (cleaned r s (colours_now s))
colours_stored_lem k s g e None q = e
colours_stored_lem k s g {b} {colours} e (Some y) q =
    split (eqb (at b 26) 1)
    (λ f. rw f (cache_stored_lem k s g b colours e ∙ ap (λ (c : List ℕ). block_of k (with_cache s c)) (q y refl)))
    (λ f. rw f (e ∙ clean_kept k s g (λ z. eqb-false (at b 26) 1 f (ap (λ (c : List ℕ). at c 26) e ∙ z))))

-- and its status byte and registers, which they leave
cleaned_status : (k : ℕ) (r : Option ℕ) (s : VdpState) (colours : List ℕ) → at (block_of k (cleaned r s colours)) 2 ≡ s.status
unfolding block_of head
cleaned_status k None s colours = refl
cleaned_status k (Some y) s colours = refl

cleaned_registers : (k : ℕ) (r : Option ℕ) (s : VdpState) (colours : List ℕ) → Sized s → registers_in (block_of k (cleaned r s colours)) ≡ s.reg
unfolding block_of head
cleaned_registers k None s colours g = take_at s.reg _ 11 g.registers
cleaned_registers k (Some y) s colours g = take_at s.reg _ 11 g.registers

-- ---- a step: the block is tested, the area number, and then the block's parts are read each by itself
taken : (b x : List ℕ) (n : ℕ) (call : VdpState → RenderArea → Called) {q : ℕ} → q ≡ refusal_number (first (asked_lines (well_formed b) n)) → q ≡ 0
    → call (state_of b) (area_from n) ≡ on_block b x (λ s. on_area n b x (call s))
taken b x n call eq zero = let t = asked_both (well_formed b) n eq zero in sym (rw (t.0, le-leb n 2 t.1))

-- taken, it is that step, from what its parts give: b₁ is the block with the colours
module _ (b m x : List ℕ) (n : ℕ) {q : ℕ} (eq : q ≡ refusal_number (first (asked_lines (well_formed b) n))) (zero : q ≡ 0) (bytes : (i : ℕ) → at b i < 256)
    (d : Due) {z : Screen} {reg : List ℕ} {raster : Raster} {colours : List ℕ} {bits : ℕ} {b₁ b' : List ℕ} {r : ℕ} (ez : z ≡ screen_of (area_from n))
    (eg : reg ≡ (state_of b).reg) (et : raster ≡ (state_of b).raster) (ec : (y : ℕ) → d.row ≡ Some y → colours ≡ colours_now (state_of b))
    (ei : bits ≡ bits_of d.row (due_picture z m reg d)) (eb : b₁ ≡ colours_stored 26 91 d.row colours b)
    (er : r ≡ points_word (points_in b₁ bits d)) (es : b' ≡ points_stored 25 (points_in b₁ bits d) b₁) where
  whole_block : well_formed b ≡ true
  whole_block = (asked_both (well_formed b) n eq zero).0

  device_sized : Sized (state_of b)
  device_sized = sized_state b (long b whole_block)

  coloured : b₁ ≡ block_of (length b) (cleaned d.row (state_of b) (colours_now (state_of b)))
  coloured = eb ∙ colours_stored_lem (length b) (state_of b) device_sized (sym (block_back b whole_block bytes)) d.row ec

  eu : at b₁ 2 ≡ (state_of b).status
  eu = ap (λ (l : List ℕ). at l 2) coloured ∙ cleaned_status (length b) d.row (state_of b) (colours_now (state_of b))

  eg₁ : registers_in b₁ ≡ reg
  eg₁ = ap registers_in coloured ∙ cleaned_registers (length b) d.row (state_of b) (colours_now (state_of b)) device_sized ∙ sym eg

  ep : points_in b₁ bits d ≡ points_by reg (at b₁ 2) (bits_of d.row (due_picture z m reg d)) d
  ep = ap (λ (g : List ℕ). points_by g (at b₁ 2) bits d) eg₁ ∙ ap (λ (i : ℕ). points_by reg (at b₁ 2) i d) ei

  -- under any lines, which may go by the screen
  under_lines : (lines : Screen → List Line) {x' y : List ℕ} → d ≡ due_of (lines z) z reg raster → x' ≡ y
      → Leaves (stepped_to (length b) (step_with (lines (screen_of (area_from n))) (area_from n) m (state_of b)) y) r b' x'
  under_lines lines ed ex =
      let s : VdpState = state_of b in
      let a : RenderArea = area_from n in
      let ls : List Line = lines (screen_of a) in
      let p : Points = points_in b₁ bits d in
      let k = reading_of s in
      let t : joined s p ≡ step_with ls a m s = ap (λ (v : Points). joined s v) (rw ez at (answer_by (lines z) z m k eg et eu ec ep ed))
      ∙ joined_with ls a m s in
      record {
        word = er ∙ ap step_word t;
        block =
            es
            ∙ raster_stored_lem (length b) (cleaned d.row s (colours_now s)) (cleaned_sized d.row s (colours_now s) device_sized) b₁ p.status p.raster
            (ap (λ (v : Stepped VdpState). v.device.raster.table) t ∙ step_table ls a m s ∙ sym (cleaned_table d.row s (colours_now s))) coloured
            ∙ ap (λ (w : Option ℕ). block_of (length b) (with_raster (with_status (cleaned w s (colours_now s)) p.status) p.raster))
            (sym (row_due_by (lines z) z m k eg et eu ec ep ed))
            ∙ ap (λ (v : Stepped VdpState). block_of (length b) v.device) t;
        lent = ex;
      }

  pub kept :
      (t : Target) (told : Bool) (layers : List ℕ) {x' layers' : List ℕ} → d ≡ due_of (target_lines t told m (length x) (length layers) z) z reg raster
      → x' ≡ drawn t d.row z colours (due_picture z m reg d) x → layers' ≡ layers_by d.row z (due_layers z m reg d) layers
      → TargetLeaves t told b m x layers n r b' x' layers'
  kept t told layers ed ex eo =
      let ls : Screen → List Line = λ s. target_lines t told m (length x) (length layers) s in
      let k = reading_of (state_of b) in
      let g = asked_both (well_formed b) n eq zero in
      record {
        call = along (taken b x n (target_on t told m x layers (length b)) eq zero)
            (under_lines ls ed (rw ez at (target_by (ls z) z m k eg et eu ec ep ed x t ex)));
        owners = (rw ez at (layers_by_lem (ls z) z m k eg et eu ec ep ed layers eo)) ∙ rw (g.0, le-leb n 2 g.1);
      }
