-- A number that no call of the home machine gives on the device in a block is answered by no call on the block: 6, and 7 where the address lies in its memory.
-- Assumes nothing.
use mathlib.Core.Path.{sym, ◌∙◌, ap, subst}
use mathlib.Core.Logic.{◌≢◌}
use mathlib.Core.Bool.{not, ◌&&◌}
use mathlib.Core.List.{List, [], ◌∷◌}
use Prim.Native.Nat.{ℕ}
use native.Mathlib.Omega.{arith}
use lib.Dec.{eqb, leb, ltb}
use lib.ListN.{length}
use Rattle.laws.proofs.Tests.{either, split}
use Rattle.picture.specs.declared.Screen.TheVariants.{Home}
use Rattle.picture.specs.Screen.{columns}
use Rattle.refusal.specs.Refusals.{refusal_number, Line, first, whole, Outcome, outcome_of, byte_given}
use Rattle.dump.specs.Sheet.{dump_refusal}
use Rattle.points.specs.Points.{row_lines, frame_lines}
use Rattle.points.specs.Bytes.{row_filled, frame_filled, also_layers}
use Rattle.word.specs.Word.{refusal_in}
use Rattle.word.specs.Called.{Called}
use Rattle.word.proofs.Words.{alone, low_byte, answer_byte}
use Rattle.home.specs.declared.HomeState.{HomeState}
use Rattle.points.specs.declared.Stepped.{Stepped}
use Rattle.home.specs.Ports.{port_write, port_read}
use Rattle.home.specs.Step.{reading_of, step_with, row_step_of, frame_step_of}
use Rattle.home.proofs.Laws.{step_exact}
use Rattle.home_block.specs.HomeBlock.{block_size, state_of, well_formed}
use Rattle.face.specs.HomePixel.{pixel_call}
use Rattle.face.proofs.HomePixels.{pixel_call_exact}
use Rattle.face.specs.Home.{on_block, new_table_call, out_on, out_call, input_on, input_call, step_word, step_on, step_call, row_step_on, row_step_call}
use Rattle.face.specs.Home.{dump_on, dump_call}
use Rattle.face.specs.HomeLayers.{layer_lines, layer_on, layer_call}
use Rattle.demands.specs.Home.{Call, out, input, frame_step, row_step, dump_tileset, refusal_of, home}
use Rattle.passes.proofs.Lawful.{Aimed}
use Rattle.demands.proofs.Home.{home_lawful, never_six_home}
use Rattle.demands_face.specs.HomeCalls.{HomeCall, vdp_home_new, vdp_home_new_table, vdp_home_out, vdp_home_input, vdp_home_step, vdp_home_row_step}
use Rattle.demands_face.specs.HomeCalls.{vdp_home_layer_step, vdp_home_layer_row_step, vdp_home_dump_tileset, vdp_home_pixel, home_called}
use Rattle.demands_face.specs.Seven.{HomeNeverSix}
use Rattle.demands_face.proofs.Lawful.{Fine}
use Rattle.demands_face.proofs.HomeStands.{HomeStands, in_block}

module _ (n : ℕ) (nought : 0 ≢ n) (eight : 8 ≢ n) (ten : 10 ≢ n) (sixteen : 16 ≢ n) (b : List ℕ)
    (none : (c : Call) → refusal_number (refusal_of c (state_of b)) ≢ n) where
  abbrev Not : Called → Type 0
  Not c = refusal_in c.word ≢ n

  on : (x : List ℕ) (call : HomeState → Called) → Not (call (state_of b)) → Not (on_block b x call)
  on x call k = either Not (well_formed b) (λ _. k) (λ _. ten)

  new_not : (t : ℕ) → Not (new_table_call b t)
  unfolding new_table_call
  new_not t = either Not (leb t 1 && eqb (length b) block_size) (λ _. nought) (λ _. ten)

  out_not : (m : List ℕ) (p v : ℕ) → Not (out_call b m p v)
  unfolding out_call refusal_of
  out_not m p v = on m (out_on m p v) (λ e. none (out p v m) (sym (alone (port_write (state_of b) m p v).answer.outcome) ∙ e))

  input_not : (m : List ℕ) (p : ℕ) → Not (input_call b m p)
  unfolding input_call refusal_of
  input_not m p =
      let r = port_read (state_of b) m p in
      on [] (input_on m p) (λ e. none (input p m) (sym (low_byte (outcome_of r.byte) (byte_given r.byte)) ∙ e))

  -- a step that is not refused so
  stepped_not : (s : Stepped HomeState) → refusal_number s.outcome ≢ n → refusal_in (step_word s) ≢ n
  stepped_not s k e = k (sym (answer_byte s.outcome s.interrupt s.report s.row) ∙ e)

  step_not : (m x : List ℕ) → Not (step_call b m x)
  unfolding step_call refusal_of
  step_not m x = on x (step_on m x) (stepped_not (frame_step_of m (length x) (state_of b)) (none (frame_step m (length x))))

  row_not : (m x : List ℕ) → Not (row_step_call b m x)
  unfolding row_step_call refusal_of
  row_not m x = on x (row_step_on m x) (stepped_not (row_step_of m (length x) (state_of b)) (none (row_step m (length x))))

  -- with layers: 16 besides
  also_not : (least size : ℕ) (ls : List Line) → refusal_number (first ls) ≢ n → refusal_number (first (also_layers least size ls)) ≢ n
  also_not least size [] k = either (λ (r : Outcome). refusal_number r ≢ n) (ltb size least) (λ _. sixteen) (λ _. nought)
  also_not least size (l ∷ ls) k = split l.holds (λ t. rw t (rw t at k)) (λ t. rw t (also_not least size ls (rw t at k)))

  layer_not :
      (ls : List Line) (filled : HomeState → List ℕ) (m x layers : List ℕ) → refusal_number (step_with ls m (state_of b)).outcome ≢ n →
      Not (layer_call ls filled b m x layers)
  unfolding layer_call
  layer_not ls filled m x layers k =
      let h : HomeState = state_of b in
      let lines : List Line = layer_lines ls layers in
      let other : refusal_number (first ls) ≢ n = λ e. k (ap refusal_number (step_exact ls m h) ∙ e) in
      on x (layer_on ls filled m x layers)
      (stepped_not (step_with lines m h)
      (λ e. also_not (columns Home) (length layers) ls other (sym (ap refusal_number (step_exact lines m h)) ∙ e)))

  dump_not : (m x : List ℕ) → Not (dump_call b m x)
  unfolding dump_call refusal_of
  dump_not m x = on x (dump_on b m x) (λ e. none (dump_tileset m (length x)) (sym (alone (dump_refusal m (length x))) ∙ e))

  pixel_not : (m : List ℕ) (y x : ℕ) → refusal_in (pixel_call b m y x) ≢ n
  pixel_not m y x e =
      either (λ (r : Outcome). refusal_number r ≢ n) (not (well_formed b)) (λ _. ten)
      (λ _. either (λ (r : Outcome). refusal_number r ≢ n) (not (whole m)) (λ _. eight) (λ _. nought))
      (sym (pixel_call_exact b m y x) ∙ e)

  not-answered : (c : HomeCall) → refusal_in (home_called c b).word ≢ n
  unfolding home_called refusal_of
  not-answered vdp_home_new = new_not 1
  not-answered (vdp_home_new_table t) = new_not t
  not-answered (vdp_home_out m p v byte) = out_not m p v
  not-answered (vdp_home_input m p) = input_not m p
  not-answered (vdp_home_step m x) = step_not m x
  not-answered (vdp_home_row_step m x) = row_not m x
  not-answered (vdp_home_layer_step m x layers) =
      layer_not (frame_lines Home m (length x)) (λ k. frame_filled Home m (reading_of k) x) m x layers (none (frame_step m (length x)))
  not-answered (vdp_home_layer_row_step m x layers) =
      layer_not (row_lines Home m (length x)) (λ k. row_filled Home m (reading_of k) x) m x layers (none (row_step m (length x)))
  not-answered (vdp_home_dump_tileset m x) = dump_not m x
  not-answered (vdp_home_pixel m y x) = pixel_not m y x

pub home_never_six : HomeNeverSix
home_never_six c b = not-answered 6 (λ z. omega arith) (λ z. omega arith) (λ z. omega arith) (λ z. omega arith) b (λ x. never_six_home x (state_of b)) c

pub answers : (c : HomeCall) (b : List ℕ) (h : HomeState) → Fine home h → HomeStands b h → refusal_in (home_called c b).word ≢ 7
answers c b h k s =
    let aimed : Aimed home (state_of b) = subst (Aimed home) (sym (in_block s)) k.aimed in
    not-answered 7 (λ z. omega arith) (λ z. omega arith) (λ z. omega arith) (λ z. omega arith) b (λ x. home_lawful.no_seven x (state_of b) aimed) c
