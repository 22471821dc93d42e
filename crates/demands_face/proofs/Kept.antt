-- What every call of the C face leaves of a block's version and table, proved.
-- Assumes nothing.
use mathlib.Core.Path.{◌≡◌, refl, sym, ap, ◌∙◌}
use mathlib.Core.Bool.{true, false, ◌&&◌}
use mathlib.Core.List.{List}
use Prim.Native.Nat.{ℕ, ◌*◌, ◌≤◌, ◌<◌}
use native.Mathlib.Omega.{arith}
use lib.Dec.{leb, ltb}
use lib.ListN.{length, get_or-eq_default}
use borrow.Author.Tests.{ltb-true, ltb-false, le-leb, lt-leb}
use Rattle.laws.specs.Lists.{at, written}
use Rattle.laws.proofs.Tests.{either, split, both, clash}
use Rattle.raster.specs.declared.LineTable.TheVariants.{Steps261}
use Rattle.raster.specs.Raster.{line_table_from}
use Rattle.vdp.specs.declared.VdpState.{VdpState}
use Rattle.vdp.specs.Device.{made}
use Rattle.refusal.proofs.Tables.{under_either}
use Rattle.block.specs.Block.{sized, fits, well_formed, state_of}
use Rattle.block.proofs.Whole.{fits_sized}
use Rattle.block.proofs.RoundTrip.{said, length_block, state_back}
use Rattle.block.proofs.Shapes.{made_shape}
use Rattle.block_repair.specs.Repair.{mended_at, mended, changes, repair_lines}
use Rattle.block_repair.proofs.Laws.{length-mended, at_mended}
use Rattle.face.specs.Face.{Called, refused, new_table_call}
use Rattle.face.specs.Layers.{row_table, row_fills, frame_table, frame_fills}
use Rattle.face.specs.Repair.{repair_call}
use Rattle.face.specs.Kept.{SameTable}
use Rattle.face.proofs.Kept.{out_table, input_table, step_table_kept, row_table_kept, layer_table_kept, dump_table}
use Rattle.demands_face.specs.Face.{makes}
use Rattle.demands_face.specs.Calls.{FaceCall, vdp_new, vdp_new_table, vdp_out, vdp_input, vdp_step, vdp_row_step, vdp_layer_step}
use Rattle.demands_face.specs.Calls.{vdp_layer_row_step, vdp_dump_tileset, vdp_pixel, vdp_repair, vdp_write_tile, vdp_read_tile, vdp_record_out}
use Rattle.demands_face.specs.Calls.{vdp_record_input, vdp_record_step, vdp_record_next, vdp_version, called, face}
use Rattle.demands_face.specs.Kept.{Keeps, Makes, FormedFor, TableKept}

module _ (b : List ℕ) (bytes : (i : ℕ) → at b i < 256) where
  unchanged : {c : Called} → c.block ≡ b → SameTable b c
  unchanged e = record { version = ap length e; table = ap (λ (x : List ℕ). (state_of x).raster.table) e }

  -- ---- a repair: the table's byte stays where it is 0 or 1
  table_byte : at b 219 ≤ 1 → at (mended b) 219 ≡ at b 219
  unfolding mended_at
  table_byte l =
      split (ltb 219 (length b))
      (λ t. at_mended b 219 (ltb-true 219 (length b) t) ∙ rw (le-leb (at b 219) 1 l))
      (λ t.
      let short : length b ≤ 219 = ltb-false 219 (length b) t in
      let short' : length (mended b) ≤ 219 = rw (length-mended b) short in
      get_or-eq_default (mended b) 0 short' ∙ sym (get_or-eq_default b 0 short))

  mended_table : well_formed b ≡ true → (state_of (mended b)).raster.table ≡ (state_of b).raster.table
  unfolding state_of
  mended_table w = ap line_table_from (table_byte (said b w).table_219)

  repair_table : (l : List ℕ) → well_formed b ≡ true → SameTable b (repair_call b l)
  unfolding repair_call
  repair_table l w =
      under_either (SameTable b) (repair_lines b (length l)) (λ r. refused r b l)
      (record { word = 256 * length (changes b); block = mended b; lent = written l 0 (changes b) })
      (λ r. unchanged refl) (λ _. record { version = length-mended b; table = mended_table w })

  mends : sized (length b) ≡ true → 1 < at b 219 → (state_of (mended b)).raster.table ≡ Steps261
  unfolding state_of mended_at
  mends s h =
      split (ltb 219 (length b))
      (λ t. rw (at_mended b 219 (ltb-true 219 (length b) t), lt-leb (at b 219) 1 h))
      (λ t.
      let short : length b ≤ 219 = ltb-false 219 (length b) t in
      absurd (omega (arith, h, get_or-eq_default b 0 short)))

  -- ---- a new device
  new_made : (n : ℕ) → (new_table_call b n).word ≡ 0 → (length (new_table_call b n).block ≡ length b) ×
      ((state_of (new_table_call b n).block).raster.table ≡ line_table_from n)
  unfolding new_table_call
  new_made n =
      either (λ (c : Called). c.word ≡ 0 → (length c.block ≡ length b) × ((state_of c.block).raster.table ≡ line_table_from n))
      (leb n 1 && fits (line_table_from n) (length b))
      (λ e _.
      let room = (both (leb n 1) (fits (line_table_from n) (length b)) e).1 in
      let t = line_table_from n in (
        length_block (length b) (made t) (made_shape t) (fits_sized t (length b) room),
        ap (λ (s : VdpState). s.raster.table)
            (state_back (length b) (made t) (made_shape t) room),
      ))
      (λ _ z. absurd (omega arith))

  new_stays : (n : ℕ) → ((new_table_call b n).word ≡ 0 → ⊥) → (new_table_call b n).block ≡ b
  unfolding new_table_call
  new_stays n =
      either (λ (c : Called). (c.word ≡ 0 → ⊥) → c.block ≡ b) (leb n 1 && fits (line_table_from n) (length b)) (λ _ z. absurd (z refl)) (λ _ _. refl)

  -- ---- each call
  same : (c : FaceCall) → makes face c ≡ false → FormedFor c b → SameTable b (called c b)
  unfolding called
  same vdp_new e w = clash e
  same (vdp_new_table t) e w = clash e
  same (vdp_out m p v byte) e w = out_table b bytes m p v byte
  same (vdp_input m p) e w = input_table b bytes m p
  same (vdp_step m x n) e w = step_table_kept b bytes m x n
  same (vdp_row_step m x n) e w = row_table_kept b bytes m x n
  same (vdp_layer_step m x layers n) e w = layer_table_kept b bytes (frame_table m x) (frame_fills m x) m x layers n
  same (vdp_layer_row_step m x layers n) e w = layer_table_kept b bytes (row_table m x) (row_fills m x) m x layers n
  same (vdp_dump_tileset m x) e w = dump_table b m x
  same (vdp_pixel m n y x) e w = unchanged refl
  same (vdp_repair l) e w = repair_table l (w refl)
  same (vdp_write_tile m n codes) e w = unchanged refl
  same (vdp_read_tile m n codes) e w = unchanged refl
  same (vdp_record_out r u p v) e w = unchanged refl
  same (vdp_record_input r u p) e w = unchanged refl
  same (vdp_record_step r u n) e w = unchanged refl
  same (vdp_record_next r u) e w = unchanged refl
  same vdp_version e w = unchanged refl

  kept : (c : FaceCall) → makes face c ≡ false → FormedFor c b → Keeps face c b
  kept c e w =
      let k = same c e w in
      record { version = k.version; table = k.table }

  new : (n : ℕ) → Makes face (vdp_new_table n) n b
  unfolding called
  new n = record { version = λ e. (new_made n e).0; table = λ e. (new_made n e).1; stays = new_stays n }

  pub table_kept : TableKept b
  table_kept = record { kept = kept; made = new; mends = mends }
