-- A block stands for a device, call after call: what each call of the handheld's face does to them.
-- Assumes nothing.
use Rattle.std.specs.Prelude.{None, Option, Some}
use mathlib.Core.Path.{◌≡◌, refl, sym, ap, ◌∙◌, subst}
use mathlib.Core.Logic.{◌≢◌}
use mathlib.Core.Bool.{true, not, ◌&&◌, ◌||◌}
use mathlib.Core.List.{List, ◌++◌}
use Prim.Native.Nat.{ℕ, ◌+◌, ◌*◌, ◌%◌, ◌/◌, ◌≤◌, ◌<◌}
use native.Mathlib.Omega.{arith}
use lib.Dec.{eqb, leb, ltb}
use lib.ListN.{length}
use borrow.Author.Tests.{eq-eqb, lt-ltb}
use Rattle.laws.specs.Lists.{at, written}
use Rattle.laws.proofs.Any.{any_none}
use Rattle.laws.proofs.Parts.{at_past}
use Rattle.laws.proofs.Tests.{either, split, both, clash}
use Rattle.colour.specs.Colour.{colours_of}
use Rattle.picture.specs.declared.RenderArea.{RenderArea}
use Rattle.picture.specs.Area.{area_from}
use Rattle.raster.specs.declared.LineTable.{LineTable}
use Rattle.raster.specs.declared.LineTable.TheVariants.{Steps262}
use Rattle.raster.specs.Raster.{line_table_from}
use Rattle.vdp.specs.declared.VdpState.{VdpState}
use Rattle.front.specs.declared.WriteDest.{WriteDest}
use Rattle.front.specs.declared.WriteDest.TheVariants.{Vram, Cram}
use Rattle.vdp.specs.Device.{made}
use Rattle.refusal.specs.Refusals.{refusal_number, Line}
use Rattle.vdp.specs.Refusals.{size}
use Rattle.refusal.proofs.Tables.{under_either}
use Rattle.block_parts.specs.Parts.{colour_bytes}
use Rattle.block.specs.Block.{fits, head, small, last, block_of, state_of, well_formed, Shape}
use Rattle.block.proofs.RoundTrip.{good_block, state_back}
use Rattle.block.proofs.Shapes.{made_shape, write_shape, read_shape}
use Rattle.block_repair.specs.Repair.{matching, mended, changes, repair_lines}
use Rattle.block_repair.specs.Salvaged.{nothing_wrong}
use Rattle.block_repair.proofs.Salvaged.{stays_so}
use Rattle.step.specs.Step.{row_lines, frame_lines, step_with}
use Rattle.step.proofs.Laws.{step_left}
use Rattle.face.specs.Face.{Called, step_word, refused, on_area, new_table_call, out_on, out_call, input_on, input_call, step_on, step_call, row_step_on}
use Rattle.face.specs.Face.{row_step_call, dump_call}
use Rattle.face.specs.Layers.{layer_lines, layer_on, layer_call, row_table, row_fills, frame_table, frame_fills}
use Rattle.face.specs.Repair.{repair_call}
use Rattle.face.specs.Refused.{refusal_in}
use Rattle.face.proofs.Shapes.{with_shape}
use Rattle.face.proofs.Blocks.{out_on_lem, input_on_lem, step_on_lem, row_on_lem, layer_on_lem}
use Rattle.face.proofs.Exact.{step_byte}
use Rattle.demands.specs.Handheld.{Call, out, input, frame_step, row_step, layer_frame_step_lem, layer_row_step_lem, after, handheld}
use Rattle.passes.proofs.Sound.{table_kept}
use Rattle.demands.proofs.Handheld.{handheld_lawful}
use Rattle.demands_face.specs.Face.{makes, steps, Refused}
use Rattle.demands_face.specs.Calls.{FaceCall, vdp_new, vdp_new_table, vdp_out, vdp_input, vdp_step, vdp_row_step, vdp_layer_step, vdp_layer_row_step}
use Rattle.demands_face.specs.Calls.{vdp_dump_tileset, vdp_pixel, vdp_repair, vdp_write_tile, vdp_read_tile, vdp_record_out, vdp_record_input}
use Rattle.demands_face.specs.Calls.{vdp_record_step, vdp_record_next, vdp_version, called, MadeBlock, by_new, by_new_table, face}
use Rattle.demands_face.proofs.Lawful.{Begun, Fine, Does, stays, does, Quietly, stays_so as leaves, does_so}

-- the size of a memory
pub size_positive : (w : Option WriteDest) → 0 < size w
size_positive None = omega arith
size_positive (Some Vram) = omega arith
size_positive (Some Cram) = omega arith

pub size_top : (w : Option WriteDest) → size w ≤ 16384
size_top None = omega arith
size_top (Some Vram) = omega arith
size_top (Some Cram) = omega arith

-- a block of so many bytes, which have room for the device
pub record Stands (b : List ℕ) (d : VdpState) : Type 0 where
  pub room : ℕ
  pub fitting : fits d.raster.table room ≡ true
  pub shape : Shape d
  pub is : b ≡ block_of room d

pub fresh : (n : ℕ) (t : LineTable) → fits t n ≡ true → Stands (block_of n (made t)) (made t)
fresh n t h = record { room = n; fitting = h; shape = made_shape t; is = refl }

started : (b : List ℕ) (t : ℕ) → (new_table_call b t).word ≡ 0 → Stands (new_table_call b t).block (made (line_table_from t))
unfolding new_table_call
started b t =
    either (λ (c : Called). c.word ≡ 0 → Stands c.block (made (line_table_from t))) (leb t 1 && fits (line_table_from t) (length b))
    (λ e _. fresh (length b) (line_table_from t) (both (leb t 1) (fits (line_table_from t) (length b)) e).1) (λ _ z. absurd (omega arith))

pub made_stands : (t : LineTable) (b : List ℕ) → MadeBlock t b → Stands b (made t)
made_stands t b (by_new x e) = started x 1 e
made_stands t b (by_new_table x n e) = started x n e

-- the device that is in it
pub in_block : {b : List ℕ} {d : VdpState} → Stands b d → state_of b ≡ d
in_block {b} {d} s = ap state_of s.is ∙ state_back s.room d s.shape s.fitting

pub formed : {b : List ℕ} {d : VdpState} → Stands b d → well_formed b ≡ true
formed {b} {d} s = ap well_formed s.is ∙ good_block s.room d s.shape s.fitting

-- where a call that makes a device is refused, the block stays
new_stays : (b : List ℕ) (t : ℕ) → refusal_in (new_table_call b t).word ≢ 0 → (new_table_call b t).block ≡ b
unfolding new_table_call
new_stays b t =
    either (λ (c : Called). refusal_in c.word ≢ 0 → c.block ≡ b) (leb t 1 && fits (line_table_from t) (length b)) (λ _ n. absurd (n refl))
    (λ _ _. refl)

module _ {b : List ℕ} {d : VdpState} (s : Stands b d) where
  -- a call more
  next : (c : Call) → Shape (after c d) → {b' : List ℕ} → b' ≡ block_of s.room (after c d) → Stands b' (after c d)
  next c g e = record { room = s.room; fitting = rw (table_kept handheld_lawful c d) s.fitting; shape = g; is = e }

  -- a port write and a port read
  pub out_is : (m : List ℕ) (p v : ℕ) → out_call b m p v ≡ out_on m p v s.room d
  out_is m p v = ap (λ (x : List ℕ). out_call x m p v) s.is ∙ out_on_lem s.room d s.shape s.fitting m p v

  pub out_stands : (m : List ℕ) (p v : ℕ) → v < 256 → Stands (out_call b m p v).block (after (out p v m) d)
  unfolding after
  out_stands m p v h = next (out p v m) (write_shape v h d m p s.shape) (ap (λ (c : Called). c.block) (out_is m p v))

  pub input_is : (m : List ℕ) (p : ℕ) → input_call b m p ≡ input_on m p s.room d
  input_is m p = ap (λ (x : List ℕ). input_call x m p) s.is ∙ input_on_lem s.room d s.shape s.fitting m p

  input_stands : (m : List ℕ) (p : ℕ) → Stands (input_call b m p).block (after (input p m) d)
  unfolding after
  input_stands m p = next (input p m) (read_shape d m p s.shape) (ap (λ (c : Called). c.block) (input_is m p))

  -- a step, with layers or without, of an area that there is or not
  pub step_is : (m x : List ℕ) (n : ℕ) → step_call b m x n ≡ on_area n b x (step_on m x s.room d)
  step_is m x n = ap (λ (y : List ℕ). step_call y m x n) s.is ∙ step_on_lem s.room d s.shape s.fitting m x n ∙ ap
      (λ (y : List ℕ). on_area n y x (step_on m x s.room d)) (sym s.is)

  row_is : (m x : List ℕ) (n : ℕ) → row_step_call b m x n ≡ on_area n b x (row_step_on m x s.room d)
  row_is m x n = ap (λ (y : List ℕ). row_step_call y m x n) s.is ∙ row_on_lem s.room d s.shape s.fitting m x n ∙ ap
      (λ (y : List ℕ). on_area n y x (row_step_on m x s.room d)) (sym s.is)

  pub layer_is :
      (ls : RenderArea → List Line) (filled : VdpState → RenderArea → List ℕ) (m x layers : List ℕ) (n : ℕ) →
      layer_call ls filled b m x layers n ≡ on_area n b x (layer_on ls filled m x layers s.room d)
  layer_is ls filled m x layers n =
      ap (λ (y : List ℕ). layer_call ls filled y m x layers n) s.is
      ∙ layer_on_lem s.room d s.shape s.fitting ls filled m x layers n
      ∙ ap (λ (y : List ℕ). on_area n y x (layer_on ls filled m x layers s.room d)) (sym s.is)

  module _ (n : ℕ) (x : List ℕ) (call : RenderArea → Called) {c : Called} (e : c ≡ on_area n b x call) where
    -- it does what the machine's call does, or the block stays
    on_area_lem : (of : RenderArea → Call) → ((a : RenderArea) → Stands (call a).block (after (of a) d)) → Does handheld Stands b d c.block
    on_area_lem of f =
        subst (λ (y : Called). Does handheld Stands b d y.block) (sym e)
        (either (λ (y : Called). Does handheld Stands b d y.block) (leb n 2) (λ _. does (of (area_from n)) (f (area_from n))) (λ _. stays refl))

    -- where it is refused the block stays
    refused_stays : ((a : RenderArea) → refusal_in (call a).word ≢ 0 → (call a).block ≡ b) → refusal_in c.word ≢ 0 → c.block ≡ b
    refused_stays f =
        subst (λ (y : Called). refusal_in y.word ≢ 0 → y.block ≡ b) (sym e)
        (either (λ (y : Called). refusal_in y.word ≢ 0 → y.block ≡ b) (leb n 2) (λ _. f (area_from n)) (λ _ _. refl))

  -- a refused step leaves the device, whatever its lines
  step_stays : (ls : List Line) (a : RenderArea) (m : List ℕ) (w : ℕ) → refusal_in w ≡ refusal_number (step_with ls a m d).outcome → refusal_in w ≢ 0 →
      block_of s.room (step_with ls a m d).device ≡ b
  step_stays ls a m w e n = rw (step_left ls a m d (λ f. n (e ∙ ap refusal_number f))) (sym s.is)

  module _ (m x : List ℕ) (n : ℕ) where
    step_does : Does handheld Stands b d (step_call b m x n).block
    unfolding after
    step_does =
        on_area_lem n x (step_on m x s.room d) (step_is m x n) (λ a. frame_step a m (length x))
        (λ a. next (frame_step a m (length x)) (with_shape (frame_lines a m (length x)) a m d s.shape) refl)

    step_quiet : refusal_in (step_call b m x n).word ≢ 0 → (step_call b m x n).block ≡ b
    step_quiet =
        refused_stays n x (step_on m x s.room d) (step_is m x n)
        (λ a. step_stays (frame_lines a m (length x)) a m (step_word (step_with (frame_lines a m (length x)) a m d))
        (step_byte (step_with (frame_lines a m (length x)) a m d)))

    row_does : Does handheld Stands b d (row_step_call b m x n).block
    unfolding after
    row_does =
        on_area_lem n x (row_step_on m x s.room d) (row_is m x n) (λ a. row_step a m (length x))
        (λ a. next (row_step a m (length x)) (with_shape (row_lines a m (length x)) a m d s.shape) refl)

    row_quiet : refusal_in (row_step_call b m x n).word ≢ 0 → (row_step_call b m x n).block ≡ b
    row_quiet =
        refused_stays n x (row_step_on m x s.room d) (row_is m x n)
        (λ a. step_stays (row_lines a m (length x)) a m (step_word (step_with (row_lines a m (length x)) a m d))
        (step_byte (step_with (row_lines a m (length x)) a m d)))

    layer_quiet :
        (ls : RenderArea → List Line) (filled : VdpState → RenderArea → List ℕ) (layers : List ℕ) →
        refusal_in (layer_call ls filled b m x layers n).word ≢ 0 → (layer_call ls filled b m x layers n).block ≡ b
    layer_quiet ls filled layers =
        refused_stays n x (layer_on ls filled m x layers s.room d) (layer_is ls filled m x layers n)
        (λ a. step_stays (layer_lines ls layers a) a m (step_word (step_with (layer_lines ls layers a) a m d))
        (step_byte (step_with (layer_lines ls layers a) a m d)))

    layer_step_does : (layers : List ℕ) → Does handheld Stands b d (layer_call (frame_table m x) (frame_fills m x) b m x layers n).block
    unfolding after
    layer_step_does layers =
        on_area_lem n x (layer_on (frame_table m x) (frame_fills m x) m x layers s.room d) (layer_is (frame_table m x) (frame_fills m x) m x layers n)
        (λ a. layer_frame_step_lem a m (length x) (length layers))
        (λ a. next (layer_frame_step_lem a m (length x) (length layers)) (with_shape (layer_lines (frame_table m x) layers a) a m d s.shape) refl)

    layer_row_does : (layers : List ℕ) → Does handheld Stands b d (layer_call (row_table m x) (row_fills m x) b m x layers n).block
    unfolding after
    layer_row_does layers =
        on_area_lem n x (layer_on (row_table m x) (row_fills m x) m x layers s.room d) (layer_is (row_table m x) (row_fills m x) m x layers n)
        (λ a. layer_row_step_lem a m (length x) (length layers))
        (λ a. next (layer_row_step_lem a m (length x) (length layers)) (with_shape (layer_lines (row_table m x) layers a) a m d s.shape) refl)

  -- what only reads the block
  dump_stays : (m pixels : List ℕ) → (dump_call b m pixels).block ≡ b
  unfolding dump_call
  dump_stays m pixels = either (λ (c : Called). c.block ≡ b) (well_formed b) (λ _. refl) (λ _. refl)

  -- ---- a repair finds nothing wrong
  module _ (k : Fine handheld d) where
    matches : (state_of b).color_cache ≡ colours_of (state_of b).cram → matching b ≡ true
    unfolding matching
    matches e =
        ap not
        (any_none 32 (λ i. not (eqb (at (state_of b).color_cache i) (at (colours_of (state_of b).cram) i)))
        (λ i h. ap not (eq-eqb _ _ (ap (λ (l : List ℕ). at l i) e))))

    there : Fine handheld (state_of b)
    there = subst (Fine handheld) (sym (in_block s)) k

    pub right : nothing_wrong b ≡ true
    right =
        let lies : ltb (state_of b).addr (size (state_of b).dest) ≡ true = lt-ltb _ _ there.aimed in
        let claim : ((state_of b).cram_dirty || matching b) ≡ true = split (state_of b).cram_dirty (λ e. rw e)
        (λ e. rw (e, matches (there.clean e))) in
        rw (formed s, lies, claim)

    -- the two bytes of the address are bytes
    address_at : (at b 17 ≡ d.addr % 256) × (at b 18 ≡ d.addr / 256)
    unfolding block_of head small
    address_at = (ap (λ (l : List ℕ). at l 17) s.is ∙ place 3, ap (λ (l : List ℕ). at l 18) s.is ∙ place 4)
      where
        place : (i : ℕ) → at (d.reg ++ (small d ++ (d.cram ++ (colour_bytes d.color_cache ++ last s.room d)))) (11 + i)
            ≡ at (small d ++ (d.cram ++ (colour_bytes d.color_cache ++ last s.room d))) i
        place i = at_past d.reg (small d ++ (d.cram ++ (colour_bytes d.color_cache ++ last s.room d))) 11 i s.shape.registers

    pub mends_nothing : mended b ≡ b
    mends_nothing =
        let h = k.aimed in
        let t = size_top d.dest in
        stays_so b right (omega (arith, address_at.0)) (omega (arith, address_at.1, h, t))

    repair_stays : (l : List ℕ) → (repair_call b l).block ≡ b
    unfolding repair_call
    repair_stays l =
        under_either (λ (c : Called). c.block ≡ b) (repair_lines b (length l)) (λ r. refused r b l)
        (record { word = 256 * length (changes b); block = mended b; lent = written l 0 (changes b) }) (λ r. refl) (λ _. mends_nothing)

-- ---- each call
pub calls :
    (c : FaceCall) (b : List ℕ) (d : VdpState) → Fine handheld d → Stands b d → (makes face c ≡ true → Refused face c b) →
    Does handheld Stands b d (called c b).block
unfolding called
calls vdp_new b d k s q = stays (new_stays b 1 (q refl))
calls (vdp_new_table t) b d k s q = stays (new_stays b t (q refl))
calls (vdp_out m p v byte) b d k s q = does (out p v m) (out_stands s m p v byte)
calls (vdp_input m p) b d k s q = does (input p m) (input_stands s m p)
calls (vdp_step m x n) b d k s q = step_does s m x n
calls (vdp_row_step m x n) b d k s q = row_does s m x n
calls (vdp_layer_step m x layers n) b d k s q = layer_step_does s m x n layers
calls (vdp_layer_row_step m x layers n) b d k s q = layer_row_does s m x n layers
calls (vdp_dump_tileset m x) b d k s q = stays (dump_stays s m x)
calls (vdp_pixel m n y x) b d k s q = stays refl
calls (vdp_repair l) b d k s q = stays (repair_stays s k l)
calls (vdp_write_tile m n codes) b d k s q = stays refl
calls (vdp_read_tile m n codes) b d k s q = stays refl
calls (vdp_record_out r u p v) b d k s q = stays refl
calls (vdp_record_input r u p) b d k s q = stays refl
calls (vdp_record_step r u n) b d k s q = stays refl
calls (vdp_record_next r u) b d k s q = stays refl
calls vdp_version b d k s q = stays refl

pub quietly :
    (c : FaceCall) (b : List ℕ) (d : VdpState) → Fine handheld d → Stands b d → ((makes face c || steps face c) ≡ true → Refused face c b) →
    Quietly handheld Stands b d (called c b).block
unfolding called
quietly vdp_new b d k s q = leaves (new_stays b 1 (q refl))
quietly (vdp_new_table t) b d k s q = leaves (new_stays b t (q refl))
quietly (vdp_out m p v byte) b d k s q = does_so (record { call = out p v m; no_step = λ d s e. e }) (out_stands s m p v byte)
quietly (vdp_input m p) b d k s q = does_so (record { call = input p m; no_step = λ d s e. e }) (input_stands s m p)
quietly (vdp_step m x n) b d k s q = leaves (step_quiet s m x n (q refl))
quietly (vdp_row_step m x n) b d k s q = leaves (row_quiet s m x n (q refl))
quietly (vdp_layer_step m x layers n) b d k s q = leaves (layer_quiet s m x n (frame_table m x) (frame_fills m x) layers (q refl))
quietly (vdp_layer_row_step m x layers n) b d k s q = leaves (layer_quiet s m x n (row_table m x) (row_fills m x) layers (q refl))
quietly (vdp_dump_tileset m x) b d k s q = leaves (dump_stays s m x)
quietly (vdp_pixel m n y x) b d k s q = leaves refl
quietly (vdp_repair l) b d k s q = leaves (repair_stays s k l)
quietly (vdp_write_tile m n codes) b d k s q = leaves refl
quietly (vdp_read_tile m n codes) b d k s q = leaves refl
quietly (vdp_record_out r u p v) b d k s q = leaves refl
quietly (vdp_record_input r u p) b d k s q = leaves refl
quietly (vdp_record_step r u n) b d k s q = leaves refl
quietly (vdp_record_next r u) b d k s q = leaves refl
quietly vdp_version b d k s q = leaves refl

-- one that makes a device, accepted
new_word : (b : List ℕ) (t : ℕ) → refusal_in (new_table_call b t).word ≡ 0 → (new_table_call b t).word ≡ 0
unfolding new_table_call
new_word b t =
    either (λ (c : Called). refusal_in c.word ≡ 0 → c.word ≡ 0) (leb t 1 && fits (line_table_from t) (length b)) (λ _ _. refl)
    (λ _ z. absurd (omega arith))

pub begun : (c : FaceCall) (b : List ℕ) → makes face c ≡ true → refusal_in (called c b).word ≡ 0 → Begun face (called c b).block
unfolding called
begun vdp_new b e z = record { table = Steps262; made = by_new b (new_word b 1 z) }
begun (vdp_new_table t) b e z = record { table = line_table_from t; made = by_new_table b t (new_word b t z) }
begun (vdp_out m p v byte) b e z = clash (sym e)
begun (vdp_input m p) b e z = clash (sym e)
begun (vdp_step m x n) b e z = clash (sym e)
begun (vdp_row_step m x n) b e z = clash (sym e)
begun (vdp_layer_step m x layers n) b e z = clash (sym e)
begun (vdp_layer_row_step m x layers n) b e z = clash (sym e)
begun (vdp_dump_tileset m x) b e z = clash (sym e)
begun (vdp_pixel m n y x) b e z = clash (sym e)
begun (vdp_repair l) b e z = clash (sym e)
begun (vdp_write_tile m n codes) b e z = clash (sym e)
begun (vdp_read_tile m n codes) b e z = clash (sym e)
begun (vdp_record_out r u p v) b e z = clash (sym e)
begun (vdp_record_input r u p) b e z = clash (sym e)
begun (vdp_record_step r u n) b e z = clash (sym e)
begun (vdp_record_next r u) b e z = clash (sym e)
begun vdp_version b e z = clash (sym e)
