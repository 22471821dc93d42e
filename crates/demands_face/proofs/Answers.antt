-- No call on a block of the handheld's that stands for a device whose address lies in its memory answers 7.
-- Assumes nothing.
use Rattle.std.specs.Prelude.{Err}
use mathlib.Core.Path.{◌≡◌, refl, sym, ap, ◌∙◌}
use mathlib.Core.Logic.{◌≢◌}
use mathlib.Core.Bool.{true, not}
use mathlib.Core.List.{List, ◌∷◌}
use Prim.Native.Nat.{ℕ}
use native.Mathlib.Omega.{arith}
use lib.Dec.{leb, ltb}
use lib.ListN.{length}
use Rattle.laws.proofs.Tests.{either}
use Rattle.picture.specs.Area.{area_from}
use Rattle.vdp.specs.declared.VdpState.{VdpState}
use Rattle.refusal.specs.declared.Refusal.TheVariants.{UnknownArea}
use Rattle.refusal.specs.Refusals.{refusal_number, Line, line, first, outcome_of, byte_given}
use Rattle.vdp.specs.Ports.{port_write, port_read}
use Rattle.block.specs.Block.{sized}
use Rattle.pixel.specs.Pixel.{pixel_lines}
use Rattle.step.specs.Step.{row_lines, frame_lines}
use Rattle.tile_codes.specs.Calls.{read_tile_lines, write_tile_lines}
use Rattle.trace_record.specs.declared.Record.{Record}
use Rattle.trace_record.specs.declared.Record.TheVariants.{Write, Read, Step, Bad, End}
use Rattle.trace_record.specs.Record.{record_at}
use Rattle.trace_record.specs.Writer.{record_lines}
use Rattle.face.specs.Face.{Called, new_table_call, out_call, input_call, step_call, row_step_call, dump_call}
use Rattle.face.specs.Layers.{layer_lines, layer_call, row_table, row_fills, frame_table, frame_fills}
use Rattle.face.specs.Pixel.{pixel_call}
use Rattle.face.specs.Repair.{repair_call}
use Rattle.face.specs.Tiles.{write_tile_call, read_tile_call}
use Rattle.face.specs.Record.{record_call, record_step_call, record_word}
use Rattle.face.specs.Refused.{refusal_in, new_lines, step_call_lines, dump_call_lines}
use Rattle.word.proofs.Words.{alone, low_byte}
use Rattle.face.proofs.Exact.{new_exact, step_exact, row_exact, layer_exact, dump_exact, none, never}
use Rattle.face.proofs.Pixels.{pixel_call_exact}
use Rattle.face.proofs.Tiles.{write_tile_exact, read_tile_exact}
use Rattle.face.proofs.Records.{record_exact, record_step_exact}
use Rattle.demands.specs.Handheld.{out, input, refusal_of, handheld}
use Rattle.demands.proofs.Handheld.{not_seven}
use Rattle.demands_face.specs.Calls.{FaceCall, vdp_new, vdp_new_table, vdp_out, vdp_input, vdp_step, vdp_row_step, vdp_layer_step}
use Rattle.demands_face.specs.Calls.{vdp_layer_row_step, vdp_dump_tileset, vdp_pixel, vdp_repair, vdp_write_tile, vdp_read_tile, vdp_record_out}
use Rattle.demands_face.specs.Calls.{vdp_record_input, vdp_record_step, vdp_record_next, vdp_version, called}
use Rattle.demands_face.proofs.Lawful.{Fine}
use Rattle.demands_face.proofs.Stands.{Stands, out_is, input_is}

-- ---- one call
-- of a table that has no line of 7
without : (w : ℕ) (ls : List Line) → refusal_in w ≡ refusal_number (first ls) → none 7 ls ≡ true → refusal_in w ≢ 7
without w ls e h = rw e (never 7 ls (λ z. omega arith) h)

-- what stands at an offset of a recording is told by 0 to 4
next_word : (x : Record) → refusal_in (record_word x) ≢ 7
unfolding record_word
next_word (Write p v) e = omega arith
next_word (Read p) e = omega arith
next_word (Step a) e = omega arith
next_word Bad e = omega arith
next_word End e = omega arith

module _ {b : List ℕ} {d : VdpState} (s : Stands b d) (k : Fine handheld d) where
  out_word : (m : List ℕ) (p v : ℕ) → refusal_in (out_call b m p v).word ≢ 7
  unfolding refusal_of
  out_word m p v e =
      not_seven (out p v m) d k.aimed
      (sym (alone (port_write d m p v).answer.outcome) ∙ sym (ap (λ (c : Called). refusal_in c.word) (out_is s m p v)) ∙ e)

  input_word : (m : List ℕ) (p : ℕ) → refusal_in (input_call b m p).word ≢ 7
  unfolding refusal_of
  input_word m p e =
      not_seven (input p m) d k.aimed
      (sym (low_byte (outcome_of (port_read d m p).byte) (byte_given (port_read d m p).byte)) ∙ sym (ap (λ (c : Called). refusal_in c.word) (input_is s m p))
      ∙ e)

  repair_word : (l : List ℕ) → refusal_in (repair_call b l).word ≢ 7
  unfolding repair_call
  repair_word l =
      either (λ (c : Called). refusal_in c.word ≢ 7) (not (sized (length b))) (λ _ e. omega arith)
      (λ _. either (λ (c : Called). refusal_in c.word ≢ 7) (ltb (length l) 220) (λ _ e. omega arith) (λ _ e. omega arith))

  pub answers : (c : FaceCall) → refusal_in (called c b).word ≢ 7
  unfolding called
  answers vdp_new = without (new_table_call b 1).word (new_lines b 1) (new_exact b 1) refl
  answers (vdp_new_table t) = without (new_table_call b t).word (new_lines b t) (new_exact b t) refl
  answers (vdp_out m p v byte) = out_word m p v
  answers (vdp_input m p) = input_word m p
  answers (vdp_step m x n) = without (step_call b m x n).word (step_call_lines b n (frame_lines (area_from n) m (length x))) (step_exact b m x n) refl
  answers (vdp_row_step m x n) = without (row_step_call b m x n).word (step_call_lines b n (row_lines (area_from n) m (length x))) (row_exact b m x n) refl
  answers (vdp_layer_step m x layers n) =
      without (layer_call (frame_table m x) (frame_fills m x) b m x layers n).word (step_call_lines b n (layer_lines (frame_table m x) layers (area_from n)))
      (layer_exact (frame_table m x) (frame_fills m x) b m x layers n) refl
  answers (vdp_layer_row_step m x layers n) =
      without (layer_call (row_table m x) (row_fills m x) b m x layers n).word (step_call_lines b n (layer_lines (row_table m x) layers (area_from n)))
      (layer_exact (row_table m x) (row_fills m x) b m x layers n) refl
  answers (vdp_dump_tileset m x) = without (dump_call b m x).word (dump_call_lines b m (length x)) (dump_exact b m x) refl
  answers (vdp_pixel m n y x) = without (pixel_call b m n y x) (step_call_lines b n (pixel_lines m)) (pixel_call_exact b m n y x) refl
  answers (vdp_repair l) = repair_word l
  answers (vdp_write_tile m n codes) = without (write_tile_call m n codes).word (write_tile_lines m n codes) (write_tile_exact m n codes) refl
  answers (vdp_read_tile m n codes) = without (read_tile_call m n codes).word (read_tile_lines m n (length codes)) (read_tile_exact m n codes) refl
  answers (vdp_record_out r u p v) = without (record_call r u (Write p v)).word (record_lines r u (Write p v)) (record_exact r u (Write p v)) refl
  answers (vdp_record_input r u p) = without (record_call r u (Read p)).word (record_lines r u (Read p)) (record_exact r u (Read p)) refl
  answers (vdp_record_step r u n) =
      without (record_step_call r u n).word (line (not (leb n 2)) (Err UnknownArea) ∷ record_lines r u (Step (area_from n))) (record_step_exact r u n) refl
  answers (vdp_record_next r u) = next_word (record_at r u)
  answers vdp_version = λ e. omega arith
