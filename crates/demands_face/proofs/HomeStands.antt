-- A home block stands for a device, call after call: what each call of the home machine's face does to them.
-- Assumes nothing.
use Rattle.std.specs.Prelude.{None, Option, Some, ℕ, Ok}
use mathlib.Core.Path.{◌≡◌, refl, sym, ap, ◌∙◌, subst}
use mathlib.Core.Logic.{◌≢◌}
use mathlib.Core.Bool.{true, ◌&&◌, ◌||◌}
use mathlib.Core.List.{List, []}
use Prim.Native.Nat.{ℕ, ◌≤◌, ◌<◌}
use native.Mathlib.Decide.{dec_lt}
use native.Mathlib.Omega.{arith}
use lib.Dec.{eqb, leb, ltb}
use lib.ListN.{length, get_or-eq_default}
use borrow.Author.Tests.{ltb-true, ltb-false}
use Rattle.laws.specs.Lists.{at}
use Rattle.laws.proofs.Tests.{either, split, clash}
use Rattle.colour.specs.Home.{home_colour, home_colours_of}
use Rattle.colour.proofs.Laws.{home_colours_at, length-home_colours}
use Rattle.picture.specs.declared.Screen.TheVariants.{Home}
use Rattle.picture.specs.Screen.{columns}
use Rattle.raster.specs.declared.LineTable.{LineTable}
use Rattle.raster.specs.declared.LineTable.TheVariants.{Steps262}
use Rattle.raster.specs.Raster.{line_table_from}
use Rattle.refusal.specs.Refusals.{refusal_number, Line}
use Rattle.refusal.proofs.Tables.{Passed, Refusing}
use Rattle.points.specs.Points.{points_of, row_lines, frame_lines}
use Rattle.points.specs.Bytes.{row_filled, frame_filled}
use Rattle.points.proofs.Laws.{row_refusing, frame_refusing}
use Rattle.points.proofs.Order.{under_also}
use Rattle.word.specs.Word.{refusal_in}
use Rattle.word.specs.Called.{Called}
use Rattle.word.proofs.Words.{answer_byte}
use Rattle.home.specs.declared.HomeState.{HomeState}
use Rattle.points.specs.declared.Stepped.{Stepped}
use Rattle.home.specs.Home.{made}
use Rattle.home.specs.Step.{colours_now, reading_of, cleaned, stepped, refused_step, step_with}
use Rattle.home.proofs.Laws.{step_exact, step_accepted, step_either, step_left, stepped_refusal}
use Rattle.home_block.specs.HomeBlock.{block_size, block_of, state_of, well_formed, Shape}
use Rattle.home_block.proofs.RoundTrip.{state_back, good_block}
use Rattle.home_block.proofs.Shapes.{made_shape, write_shape, read_shape, carried}
use Rattle.face.specs.Home.{on_block, new_table_call, out_on, out_call, input_on, input_call, stepped_to, step_on, step_call, row_step_on, row_step_call}
use Rattle.face.specs.Home.{dump_call}
use Rattle.face.specs.HomeLayers.{layer_lines, layer_on, layer_call}
use Rattle.demands.specs.Home.{Call, out, input, frame_step, row_step, after, home}
use Rattle.demands_face.specs.Face.{makes, steps, Refused}
use Rattle.demands_face.specs.HomeCalls.{HomeCall, vdp_home_new, vdp_home_new_table, vdp_home_out, vdp_home_input, vdp_home_step, vdp_home_row_step}
use Rattle.demands_face.specs.HomeCalls.{vdp_home_layer_step, vdp_home_layer_row_step, vdp_home_dump_tileset, vdp_home_pixel, home_called, MadeHomeBlock}
use Rattle.demands_face.specs.HomeCalls.{by_home_new, by_home_new_table, home_face}
use Rattle.demands_face.proofs.Lawful.{Begun, Does, stays, does, Quietly, stays_so as leaves, does_so}
use Rattle.demands_face.proofs.Words.{layers_fit}

-- ---- a step keeps the shape that the block asks of a device
colour_low : (b : ℕ) → home_colour b < 4294967296
unfolding home_colour
colour_low b = omega arith

-- the colours that it draws with
record Coloured (cache : List ℕ) : Type 0 where
  size : length cache ≡ 32
  low : (i : ℕ) → at cache i < 4294967296

colours_low : (p : List ℕ) (i : ℕ) → at (home_colours_of p) i < 4294967296
colours_low p i =
    elim (dec_lt i 32) [
      | yes l ↦ rw (home_colours_at p i l) (colour_low (at p i))
      | no l ↦
          let n : length (home_colours_of p) ≤ i = omega (arith, length-home_colours p) in
          rw (get_or-eq_default (home_colours_of p) 0 n) (omega arith)
    ]

coloured : (h : HomeState) → Shape h → Coloured (colours_now h)
coloured h g =
    either Coloured h.cram_dirty (λ _. record { size = length-home_colours h.cram; low = colours_low h.cram })
    (λ _. record { size = g.cache; low = g.colour })

cleaned_shape : (r : Option ℕ) (h : HomeState) → Shape h → Shape (cleaned r h (colours_now h))
cleaned_shape None h g = g
cleaned_shape (Some y) h g =
    let c = coloured h g in
    record {
      sized = record { registers = g.sized.registers; palette = g.sized.palette };
      cache = c.size;
      byte = g.byte;
      colour = c.low;
    }

step_shape : (m : List ℕ) (h : HomeState) → Shape h → Shape (stepped m h).device
unfolding stepped
step_shape m h g = carried (cleaned_shape (points_of Home m (reading_of h)).row h g) _ _ _ refl

-- with any buffer, refused or not
with_shape : (ls : List Line) (m : List ℕ) (h : HomeState) → Shape h → Shape (step_with ls m h).device
with_shape ls m h g = step_either ls m h Shape g (λ _. step_shape m h g)

pub accepts : (ls : List Line) (m : List ℕ) (h : HomeState) → Passed ls → (step_with ls m h).outcome ≡ (Ok tt)
accepts ls m h p = ap (λ (s : Stepped HomeState). s.outcome) (step_accepted ls m h p) ∙ stepped_refusal m h

-- ---- a block and its device
pub record HomeStands (b : List ℕ) (h : HomeState) : Type 0 where
  pub shape : Shape h
  pub is : b ≡ block_of h

started : (b : List ℕ) (t : ℕ) → (new_table_call b t).word ≡ 0 → HomeStands (new_table_call b t).block (made (line_table_from t))
unfolding new_table_call
started b t =
    either (λ (c : Called). c.word ≡ 0 → HomeStands c.block (made (line_table_from t))) (leb t 1 && eqb (length b) block_size)
    (λ _ _. record { shape = made_shape (line_table_from t); is = refl }) (λ _ z. absurd (omega arith))

pub made_stands : (t : LineTable) (b : List ℕ) → MadeHomeBlock t b → HomeStands b (made t)
made_stands t b (by_home_new x e) = started x 1 e
made_stands t b (by_home_new_table x n e) = started x n e

pub in_block : {b : List ℕ} {h : HomeState} → HomeStands b h → state_of b ≡ h
in_block {b} {h} s = ap state_of s.is ∙ state_back h s.shape

formed : {b : List ℕ} {h : HomeState} → HomeStands b h → well_formed b ≡ true
formed {b} {h} s = ap well_formed s.is ∙ good_block h s.shape

-- where a call that makes a device is refused, the block stays
new_stays : (b : List ℕ) (t : ℕ) → refusal_in (new_table_call b t).word ≢ 0 → (new_table_call b t).block ≡ b
unfolding new_table_call
new_stays b t =
    either (λ (c : Called). refusal_in c.word ≢ 0 → c.block ≡ b) (leb t 1 && eqb (length b) block_size) (λ _ n. absurd (n refl)) (λ _ _. refl)

-- what only reads the block
dump_stays : (b m pixels : List ℕ) → (dump_call b m pixels).block ≡ b
unfolding dump_call
dump_stays b m pixels = either (λ (c : Called). c.block ≡ b) (well_formed b) (λ _. refl) (λ _. refl)

module _ {b : List ℕ} {h : HomeState} (s : HomeStands b h) where
  -- a call on the block is that call on the device
  on : (x : List ℕ) (call : HomeState → Called) → on_block b x call ≡ call h
  on x call = rw (formed s, in_block s)

  out_is : (m : List ℕ) (p v : ℕ) → out_call b m p v ≡ out_on m p v h
  unfolding out_call
  out_is m p v = on m (out_on m p v)

  input_is : (m : List ℕ) (p : ℕ) → input_call b m p ≡ input_on m p h
  unfolding input_call
  input_is m p = on [] (input_on m p)

  pub step_is : (m x : List ℕ) → step_call b m x ≡ step_on m x h
  unfolding step_call
  step_is m x = on x (step_on m x)

  row_is : (m x : List ℕ) → row_step_call b m x ≡ row_step_on m x h
  unfolding row_step_call
  row_is m x = on x (row_step_on m x)

  pub layer_is : (ls : List Line) (filled : HomeState → List ℕ) (m x layers : List ℕ) → layer_call ls filled b m x layers ≡ layer_on ls filled m x layers h
  unfolding layer_call
  layer_is ls filled m x layers = on x (layer_on ls filled m x layers)

  -- ---- the ports
  out_stands : (m : List ℕ) (p v : ℕ) → v < 256 → HomeStands (out_call b m p v).block (after (out p v m) h)
  unfolding after
  out_stands m p v low = record { shape = write_shape h m p v low s.shape; is = ap (λ (c : Called). c.block) (out_is m p v) }

  input_stands : (m : List ℕ) (p : ℕ) → HomeStands (input_call b m p).block (after (input p m) h)
  unfolding after
  input_stands m p = record { shape = read_shape h m p s.shape; is = ap (λ (c : Called). c.block) (input_is m p) }

  -- ---- a step under any lines, that leaves y in its pixels
  module _ (ls : List Line) (m y : List ℕ) {c : Called} (e : c ≡ stepped_to (step_with ls m h) y) where
    pub step_stands : HomeStands c.block (step_with ls m h).device
    step_stands = record { shape = with_shape ls m h s.shape; is = ap (λ (k : Called). k.block) e }

    pub step_byte : refusal_in c.word ≡ refusal_number (step_with ls m h).outcome
    step_byte = let t = step_with ls m h in ap (λ (k : Called). refusal_in k.word) e ∙ answer_byte t.outcome t.interrupt t.report t.row

    refused_stays : (step_with ls m h).outcome ≢ (Ok tt) → c.block ≡ b
    refused_stays n =
        ap (λ (k : Called). k.block) e ∙ ap (λ (t : Stepped HomeState). block_of t.device) (step_left ls m h n) ∙ sym s.is

    step_quiet : refusal_in c.word ≢ 0 → c.block ≡ b
    step_quiet n = refused_stays (λ f. n (step_byte ∙ ap refusal_number f))

  step_does : (m x : List ℕ) → Does home HomeStands b h (step_call b m x).block
  unfolding after
  step_does m x = does (frame_step m (length x)) (step_stands (frame_lines Home m (length x)) m _ (step_is m x))

  row_does : (m x : List ℕ) → Does home HomeStands b h (row_step_call b m x).block
  unfolding after
  row_does m x = does (row_step m (length x)) (step_stands (row_lines Home m (length x)) m _ (row_is m x))

  -- with layers: with room for them it does what the step without does, else it is refused
  module _ (ls : List Line) (q : Refusing ls) (filled : HomeState → List ℕ) (m x layers : List ℕ) where
    abbrev lines : List Line
    lines = layer_lines ls layers

    layer_does : (c : Call) → (step_with ls m h).device ≡ after c h → Does home HomeStands b h (layer_call ls filled b m x layers).block
    unfolding step_with
    layer_does c e =
        split (ltb (length layers) (columns Home))
        (λ t.
        let short : length layers < columns Home = ltb-true (length layers) (columns Home) t in
        stays (refused_stays lines m _ (layer_is ls filled m x layers)
        (λ f. let room = layers_fit (columns Home) (length layers) ls q (sym (step_exact lines m h) ∙ f) in absurd (omega arith))))
        (λ t.
        let room : columns Home ≤ length layers = ltb-false (length layers) (columns Home) t in
        let same : step_with lines m h ≡ step_with ls m h = under_also (columns Home) (length layers) ls (λ r. refused_step r h) (stepped m h) room in
        does c
        (subst (HomeStands (layer_call ls filled b m x layers).block) (ap (λ (t : Stepped HomeState). t.device) same ∙ e)
        (step_stands lines m _ (layer_is ls filled m x layers))))

    layer_quiet : refusal_in (layer_call ls filled b m x layers).word ≢ 0 → (layer_call ls filled b m x layers).block ≡ b
    layer_quiet = step_quiet lines m _ (layer_is ls filled m x layers)

-- ---- each call
pub calls :
    (c : HomeCall) (b : List ℕ) (h : HomeState) → HomeStands b h → (makes home_face c ≡ true → Refused home_face c b) →
    Does home HomeStands b h (home_called c b).block
unfolding home_called after
calls vdp_home_new b h s q = stays (new_stays b 1 (q refl))
calls (vdp_home_new_table t) b h s q = stays (new_stays b t (q refl))
calls (vdp_home_out m p v byte) b h s q = does (out p v m) (out_stands s m p v byte)
calls (vdp_home_input m p) b h s q = does (input p m) (input_stands s m p)
calls (vdp_home_step m x) b h s q = step_does s m x
calls (vdp_home_row_step m x) b h s q = row_does s m x
calls (vdp_home_layer_step m x layers) b h s q =
    layer_does s (frame_lines Home m (length x)) (frame_refusing Home m (length x)) (λ k. frame_filled Home m (reading_of k) x) m x layers
    (frame_step m (length x)) refl
calls (vdp_home_layer_row_step m x layers) b h s q =
    layer_does s (row_lines Home m (length x)) (row_refusing Home m (length x)) (λ k. row_filled Home m (reading_of k) x) m x layers
    (row_step m (length x)) refl
calls (vdp_home_dump_tileset m x) b h s q = stays (dump_stays b m x)
calls (vdp_home_pixel m y x) b h s q = stays refl

pub quietly :
    (c : HomeCall) (b : List ℕ) (h : HomeState) → HomeStands b h → ((makes home_face c || steps home_face c) ≡ true → Refused home_face c b) →
    Quietly home HomeStands b h (home_called c b).block
unfolding home_called
quietly vdp_home_new b h s q = leaves (new_stays b 1 (q refl))
quietly (vdp_home_new_table t) b h s q = leaves (new_stays b t (q refl))
quietly (vdp_home_out m p v byte) b h s q = does_so (record { call = out p v m; no_step = λ d s e. e }) (out_stands s m p v byte)
quietly (vdp_home_input m p) b h s q = does_so (record { call = input p m; no_step = λ d s e. e }) (input_stands s m p)
quietly (vdp_home_step m x) b h s q = leaves (step_quiet s (frame_lines Home m (length x)) m _ (step_is s m x) (q refl))
quietly (vdp_home_row_step m x) b h s q = leaves (step_quiet s (row_lines Home m (length x)) m _ (row_is s m x) (q refl))
quietly (vdp_home_layer_step m x layers) b h s q =
    leaves (layer_quiet s (frame_lines Home m (length x)) (frame_refusing Home m (length x)) (λ k. frame_filled Home m (reading_of k) x) m x layers (q refl))
quietly (vdp_home_layer_row_step m x layers) b h s q =
    leaves (layer_quiet s (row_lines Home m (length x)) (row_refusing Home m (length x)) (λ k. row_filled Home m (reading_of k) x) m x layers (q refl))
quietly (vdp_home_dump_tileset m x) b h s q = leaves (dump_stays b m x)
quietly (vdp_home_pixel m y x) b h s q = leaves refl

-- one that makes a device, accepted
new_word : (b : List ℕ) (t : ℕ) → refusal_in (new_table_call b t).word ≡ 0 → (new_table_call b t).word ≡ 0
unfolding new_table_call
new_word b t =
    either (λ (c : Called). refusal_in c.word ≡ 0 → c.word ≡ 0) (leb t 1 && eqb (length b) block_size) (λ _ _. refl) (λ _ z. absurd (omega arith))

pub begun : (c : HomeCall) (b : List ℕ) → makes home_face c ≡ true → refusal_in (home_called c b).word ≡ 0 → Begun home_face (home_called c b).block
unfolding home_called
begun vdp_home_new b e z = record { table = Steps262; made = by_home_new b (new_word b 1 z) }
begun (vdp_home_new_table t) b e z = record { table = line_table_from t; made = by_home_new_table b t (new_word b t z) }
begun (vdp_home_out m p v byte) b e z = clash (sym e)
begun (vdp_home_input m p) b e z = clash (sym e)
begun (vdp_home_step m x) b e z = clash (sym e)
begun (vdp_home_row_step m x) b e z = clash (sym e)
begun (vdp_home_layer_step m x layers) b e z = clash (sym e)
begun (vdp_home_layer_row_step m x layers) b e z = clash (sym e)
begun (vdp_home_dump_tileset m x) b e z = clash (sym e)
begun (vdp_home_pixel m y x) b e z = clash (sym e)
