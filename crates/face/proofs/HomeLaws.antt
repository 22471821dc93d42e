-- A call on the home machine's block, from what its parts give.
-- Assumes nothing.
use Rattle.refusal.specs.declared.Refusal.{Refusal}
use Rattle.std.specs.Prelude.{None, Option, Some, ℕ, Result}
use mathlib.Core.Path.{◌≡◌, refl, sym, ap, ◌∙◌}
use mathlib.Core.Bool.{Bool, true}
use mathlib.Core.Logic.{◌≢◌}
use mathlib.Core.List.{List, []}
use Prim.Native.Nat.{ℕ, ◌+◌, ◌<◌, ◌≤◌}
use native.Mathlib.Omega.{arith}
use borrow.Author.Tests.{eqb-false}
use lib.Dec.{eqb}
use lib.ListN.{length}
use lib.Seq.{take_at}
use Rattle.laws.specs.Lists.{at}
use Rattle.laws.proofs.Parts.{at_past}
use Rattle.laws.proofs.Tests.{split}
use Rattle.picture.specs.declared.Screen.TheVariants.{Home}
use Rattle.picture.specs.Screen.{columns}
use Rattle.raster.specs.declared.Raster.{Raster}
use Rattle.refusal.specs.Refusals.{refusal_number, Line, first, under, Outcome, outcome_of, byte_given}
use Rattle.points.specs.declared.Points.{Points}
use Rattle.points.specs.declared.Due.{Due}
use Rattle.points.specs.Points.{bits_of, row_lines, frame_lines}
use Rattle.points.specs.Bytes.{layers_by, row_filled, frame_filled}
use Rattle.points.specs.Due.{due_of, due_picture, due_layers, points_by}
use Rattle.points.proofs.Order.{under_also}
use Rattle.dump.specs.Sheet.{SheetLeaves}
use Rattle.word.specs.Word.{points_word, byte_word}
use Rattle.word.specs.Called.{Leaves, asked_lines}
use Rattle.word.proofs.Calls.{along, on, asked_both, asked_refused}
use Rattle.home.specs.declared.HomeState.{HomeState}
use Rattle.points.specs.declared.Stepped.{Stepped}
use Rattle.home.specs.Home.{with_status, with_raster, with_cache}
use Rattle.home.specs.Step.{colours_now, reading_of, cleaned, joined, refused_step, stepped, step_with, row_after, frame_after}
use Rattle.home.proofs.Laws.{step_either, stepped_table}
use Rattle.home.proofs.Steps.{joined_with}
use Rattle.fields.specs.Stored.{front_end}
use Rattle.block_parts.specs.Parts.{registers_in}
use Rattle.home_block.specs.HomeBlock.{block_size, head, small, block_of, state_of, well_formed, Sized}
use Rattle.home_block.specs.InPlace.{OutInPlace, InputInPlace}
use Rattle.home_block.proofs.Whole.{said}
use Rattle.home_block.proofs.Stores.{sized_state, raster_stored_lem, cache_stored_lem}
use Rattle.home_block.proofs.RoundTrip.{block_back}
use Rattle.face.specs.Home.{on_block, out_on, out_call, input_on, input_call, step_word, stepped_to, step_call}
use Rattle.face.specs.Home.{row_step_call, dump_on, dump_call}
use Rattle.face.specs.HomeLayers.{layer_call}
use Rattle.face.specs.Steps.{points_in, colours_stored, points_stored}
use Rattle.face.specs.declared.target.Target.{Target}
use Rattle.face.specs.Target.{drawn}
use Rattle.face.specs.HomeStepped.{lines_of, target_on, TargetLeaves}
use Rattle.face.proofs.Steps.{answer_by, row_due_by, target_by, layers_by_lem}

-- ---- a call that is taken has a block of its size, with room for what a step leaves
module _ (b : List ℕ) {q : ℕ} (eq : q ≡ refusal_number (first (asked_lines (well_formed b) 0))) where
  -- well formed
  pub whole : q ≡ 0 → well_formed b ≡ true
  whole z = (asked_both (well_formed b) 0 eq z).0

  pub room : q ≡ 0 → length b ≡ block_size
  room z = (said b (whole z)).long

  -- at the places of a step
  pub colours_room : q ≡ 0 → (24 < length b) × (58 + 128 ≤ length b)
  colours_room z = (omega (arith, room z), omega (arith, room z))

  pub points_room : q ≡ 0 → (b₁ : List ℕ) → length b₁ ≡ length b → (front_end ≤ length b₁) × (23 < length b₁)
  points_room z b₁ e = (omega (arith, room z), omega (arith, room z))

  -- ---- the block is tested first
  module _ (h : q ≢ 0) where
    pub out_refused : (m : List ℕ) (p v : ℕ) → Leaves (out_call b m p v) q b m
    unfolding out_call
    out_refused m p v = asked_refused (well_formed b) 0 eq (state_of b) b m (out_on m p v) h

    pub input_refused : (m : List ℕ) (p : ℕ) → Leaves (input_call b m p) q b []
    unfolding input_call
    input_refused m p = asked_refused (well_formed b) 0 eq (state_of b) b [] (input_on m p) h

    pub dump_refused : (m pixels : List ℕ) → Leaves (dump_call b m pixels) q b pixels
    unfolding dump_call
    dump_refused m pixels = asked_refused (well_formed b) 0 eq (state_of b) b pixels (dump_on b m pixels) h

  module _ (z : q ≡ 0) where
    pub out_done : (m : List ℕ) (p v : ℕ) {r : Outcome} {b' m' : List ℕ} {n : ℕ} → OutInPlace b m p v r b' m' → n ≡ refusal_number r
        → Leaves (out_call b m p v) n b' m'
    unfolding out_call
    out_done m p v l en =
        along (on (state_of b) b m (out_on m p v) (whole z)) (record { word = en ∙ ap refusal_number l.outcome; block = l.block; lent = l.memory })

    pub input_done : (m : List ℕ) (p : ℕ) {r : Result ℕ Refusal} {b' : List ℕ} {n : ℕ} → InputInPlace b m p r b' →
        n ≡ byte_word (outcome_of r) (byte_given r) → Leaves (input_call b m p) n b' []
    unfolding input_call
    input_done m p {r} l en =
        along (on (state_of b) b [] (input_on m p) (whole z))
        (record {
          word = en ∙ ap (λ (x : Result ℕ Refusal). byte_word (outcome_of x) (byte_given x)) l.byte;
          block = l.block;
          lent = refl;
        })

    pub dump_done :
        (m pixels : List ℕ) {reg cache : List ℕ} {r : Outcome} {pixels' : List ℕ} {n : ℕ} → reg ≡ (state_of b).front.reg → cache ≡ (state_of b).color_cache
        → SheetLeaves reg cache m pixels r pixels' → n ≡ refusal_number r → Leaves (dump_call b m pixels) n b pixels'
    unfolding dump_call
    dump_done m pixels er ec l en =
        along (on (state_of b) b pixels (dump_on b m pixels) (whole z))
        (record { word = en ∙ ap refusal_number l.outcome; block = refl; lent = rw (er, ec) at l.bytes })

-- no step changes the table, refused or not
pub step_table : (ls : List Line) (m : List ℕ) (h : HomeState) → (step_with ls m h).device.raster.table ≡ h.raster.table
step_table ls m h = step_either ls m h (λ (s : HomeState). s.raster.table ≡ h.raster.table) refl (λ _. stepped_table m h)

-- a step's colours keep the sizes, and the table
cleaned_sized : (r : Option ℕ) (h : HomeState) (colours : List ℕ) → Sized h → Sized (cleaned r h colours)
cleaned_sized None h colours g = g
cleaned_sized (Some y) h colours g = record { registers = g.registers; palette = g.palette }

cleaned_table : (r : Option ℕ) (h : HomeState) (colours : List ℕ) → (cleaned r h colours).raster.table ≡ h.raster.table
cleaned_table None h colours = refl
cleaned_table (Some y) h colours = refl

-- a block whose colours are clean has them already
clean_kept : (h : HomeState) → Sized h → at (block_of h) 24 ≢ 1 → block_of h ≡ block_of (with_cache h (colours_now h))
unfolding block_of head small
clean_kept h g n =
    split h.cram_dirty (λ t. absurd (n (at_past h.front.reg _ 11 10 g.registers ∙ rw t))) (λ t. rw t)

-- the colours of a step, stored in the block of a device
colours_stored_lem :
    (h : HomeState) → Sized h → {b colours : List ℕ} → b ≡ block_of h → (r : Option ℕ) → ((y : ℕ) → r ≡ Some y → colours ≡ colours_now h)
    → colours_stored 24 58 r colours b ≡ block_of (cleaned r h (colours_now h))
colours_stored_lem h g e None q = e
colours_stored_lem h g {b} {colours} e (Some y) q =
    split (eqb (at b 24) 1)
    (λ f. rw f (cache_stored_lem h g b colours e ∙ ap (λ (c : List ℕ). block_of (with_cache h c)) (q y refl)))
    (λ f. rw f (e ∙ clean_kept h g (λ z. eqb-false (at b 24) 1 f (ap (λ (c : List ℕ). at c 24) e ∙ z))))

-- and its status byte and registers, which they leave
cleaned_status : (r : Option ℕ) (h : HomeState) (colours : List ℕ) → at (block_of (cleaned r h colours)) 2 ≡ h.front.status
unfolding block_of head
cleaned_status None h colours = refl
cleaned_status (Some y) h colours = refl

cleaned_registers : (r : Option ℕ) (h : HomeState) (colours : List ℕ) → Sized h → registers_in (block_of (cleaned r h colours)) ≡ h.front.reg
unfolding block_of head
cleaned_registers None h colours g = take_at h.front.reg _ 11 g.registers
cleaned_registers (Some y) h colours g = take_at h.front.reg _ 11 g.registers

-- a step that is taken, from what its parts give: b₁ is the block with the colours
module _ (b m x : List ℕ) {q : ℕ} (eq : q ≡ refusal_number (first (asked_lines (well_formed b) 0))) (zero : q ≡ 0) (bytes : (i : ℕ) → at b i < 256)
    (d : Due) {reg : List ℕ} {raster : Raster} {colours : List ℕ} {bits : ℕ} {b₁ b' : List ℕ} {r : ℕ} (eg : reg ≡ (state_of b).front.reg)
    (et : raster ≡ (state_of b).raster) (ec : (y : ℕ) → d.row ≡ Some y → colours ≡ colours_now (state_of b))
    (ei : bits ≡ bits_of d.row (due_picture Home m reg d)) (eb : b₁ ≡ colours_stored 24 58 d.row colours b)
    (er : r ≡ points_word (points_in b₁ bits d)) (es : b' ≡ points_stored 23 (points_in b₁ bits d) b₁) where
  device_sized : Sized (state_of b)
  device_sized = sized_state b (room b eq zero)

  coloured : b₁ ≡ block_of (cleaned d.row (state_of b) (colours_now (state_of b)))
  coloured = eb ∙ colours_stored_lem (state_of b) device_sized (sym (block_back b (whole b eq zero) bytes)) d.row ec

  eu : at b₁ 2 ≡ (state_of b).front.status
  eu = ap (λ (l : List ℕ). at l 2) coloured ∙ cleaned_status d.row (state_of b) (colours_now (state_of b))

  eg₁ : registers_in b₁ ≡ reg
  eg₁ = ap registers_in coloured ∙ cleaned_registers d.row (state_of b) (colours_now (state_of b)) device_sized ∙ sym eg

  ep : points_in b₁ bits d ≡ points_by reg (at b₁ 2) (bits_of d.row (due_picture Home m reg d)) d
  ep = ap (λ (g : List ℕ). points_by g (at b₁ 2) bits d) eg₁ ∙ ap (λ (i : ℕ). points_by reg (at b₁ 2) i d) ei

  -- under any lines
  under_lines : (ls : List Line) {x' y : List ℕ} → d ≡ due_of ls Home reg raster → x' ≡ y → Leaves (stepped_to (step_with ls m (state_of b)) y) r b' x'
  under_lines ls ed ex =
      let h : HomeState = state_of b in
      let p : Points = points_in b₁ bits d in
      let k = reading_of h in
      let t : joined h p ≡ step_with ls m h = ap (λ (v : Points). joined h v) (answer_by ls Home m k eg et eu ec ep ed) ∙ joined_with ls m h in
      record {
        word = er ∙ ap step_word t;
        block =
            es
            ∙ raster_stored_lem (cleaned d.row h (colours_now h)) (cleaned_sized d.row h (colours_now h) device_sized) b₁ p.status p.raster
            (ap (λ (v : Stepped HomeState). v.device.raster.table) t ∙ step_table ls m h ∙ sym (cleaned_table d.row h (colours_now h))) coloured
            ∙ ap (λ (w : Option ℕ). block_of (with_raster (with_status (cleaned w h (colours_now h)) p.status) p.raster))
            (sym (row_due_by ls Home m k eg et eu ec ep ed))
            ∙ ap (λ (v : Stepped HomeState). block_of v.device) t;
        lent = ex;
      }

  pub kept :
      (t : Target) (told : Bool) (layers : List ℕ) {x' layers' : List ℕ} → d ≡ due_of (lines_of t told m x layers) Home reg raster
      → x' ≡ drawn t d.row Home colours (due_picture Home m reg d) x → layers' ≡ layers_by d.row Home (due_layers Home m reg d) layers
      → TargetLeaves t told b m x layers r b' x' layers'
  kept t told layers ed ex eo =
      let ls = lines_of t told m x layers in
      let k = reading_of (state_of b) in
      record {
        call = along (on (state_of b) b x (target_on t told m x layers) (whole b eq zero))
            (under_lines ls ed (target_by ls Home m k eg et eu ec ep ed x t ex));
        owners = layers_by_lem ls Home m k eg et eu ec ep ed layers eo ∙ rw (whole b eq zero);
      }

-- R15.4: with room for its layers, a step with them answers, and leaves of block and pixels, what the step without does
module _ (b m x layers : List ℕ) (room : columns Home ≤ length layers) where
  aside : (lines : List Line) (filled : HomeState → List ℕ)
      → layer_call lines filled b m x layers ≡ on_block b x (λ h. stepped_to (step_with lines m h) (under lines (λ r. x) (filled h)))
  unfolding layer_call step_with
  aside lines filled =
      let w = columns Home in
      let n = length layers in
      λ j. on_block b x
      (λ h. stepped_to (under_also w n lines (λ r. refused_step r h) (stepped m h) room j) (under_also w n lines (λ r. x) (filled h) room j))

  pub row_aside : layer_call (row_lines Home m (length x)) (λ h. row_filled Home m (reading_of h) x) b m x layers ≡ row_step_call b m x
  unfolding row_step_call row_after
  row_aside = aside (row_lines Home m (length x)) (λ h. row_filled Home m (reading_of h) x)

  pub frame_aside : layer_call (frame_lines Home m (length x)) (λ h. frame_filled Home m (reading_of h) x) b m x layers ≡ step_call b m x
  unfolding step_call frame_after
  frame_aside = aside (frame_lines Home m (length x)) (λ h. frame_filled Home m (reading_of h) x)
