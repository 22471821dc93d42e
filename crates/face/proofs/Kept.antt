-- No call of the C face changes a block's version or its device's table.
-- Assumes nothing.
use mathlib.Core.Path.{◌≡◌, refl, ap, ◌∙◌}
use mathlib.Core.Bool.{true}
use mathlib.Core.List.{List}
use Prim.Native.Nat.{ℕ, ◌<◌}
use lib.Dec.{leb}
use lib.ListN.{length}
use Rattle.laws.specs.Lists.{at}
use Rattle.laws.proofs.Tests.{either}
use Rattle.picture.specs.declared.RenderArea.{RenderArea}
use Rattle.picture.specs.Area.{area_from}
use Rattle.raster.specs.declared.Raster.{Raster}
use Rattle.vdp.specs.declared.VdpState.{VdpState}
use Rattle.refusal.specs.Refusals.{Line}
use Rattle.vdp.specs.Ports.{port_write, port_read}
use Rattle.block.specs.Block.{fits, well_formed, state_of, block_of, Shape}
use Rattle.block.proofs.Whole.{fits_sized, fits_own, length_of}
use Rattle.block.proofs.RoundTrip.{length_block, state_back}
use Rattle.block.proofs.Shapes.{state_shape, write_shape, read_shape}
use Rattle.step.specs.Step.{row_lines, frame_lines, step_with}
use Rattle.step.proofs.Laws.{step_table}
use Rattle.step.proofs.Kept.{write_keeps, read_keeps}
use Rattle.face.specs.Kept.{SameTable}
use Rattle.face.specs.Layers.{layer_lines, layer_call}
use Rattle.face.specs.Face.{Called, out_call, input_call, step_call, row_step_call, dump_call}
use Rattle.face.proofs.Shapes.{with_shape}

module _ (b : List ℕ) where
  same : {c : Called} → c.block ≡ b → SameTable b c
  same e = record { version = ap length e; table = ap (λ (x : List ℕ). (state_of x).raster.table) e }

  -- a device with the block's own table, stored in the block
  kept : (s : VdpState) {c : Called} → well_formed b ≡ true → Shape s → s.raster.table ≡ (state_of b).raster.table → c.block ≡ block_of (length b)
      s → SameTable b c
  kept s w g t e =
      let room : fits s.raster.table (length b) ≡ true = rw t (fits_own b (length_of b w)) in
      record {
        version = ap length e ∙ length_block (length b) s g (fits_sized s.raster.table (length b) room);
        table = ap (λ (x : List ℕ). (state_of x).raster.table) e ∙ ap (λ (x : VdpState). x.raster.table) (state_back (length b) s g room) ∙ t;
      }

  module _ (bytes : (i : ℕ) → at b i < 256) where
    pub out_table : (m : List ℕ) (p v : ℕ) → v < 256 → SameTable b (out_call b m p v)
    unfolding out_call
    out_table m p v h =
        either (SameTable b) (well_formed b)
        (λ w.
        let s = state_of b in
        kept (port_write s m p v).answer.device w (write_shape v h s m p (state_shape b w bytes))
        (ap (λ (x : Raster). x.table) (write_keeps s m p v).raster) refl)
        (λ _. same refl)

    pub input_table : (m : List ℕ) (p : ℕ) → SameTable b (input_call b m p)
    unfolding input_call
    input_table m p =
        either (SameTable b) (well_formed b)
        (λ w.
        let s = state_of b in
        kept (port_read s m p).device w (read_shape s m p (state_shape b w bytes)) (ap (λ (x : Raster). x.table) (read_keeps s m p).raster) refl)
        (λ _. same refl)

    stepped : (ls : List Line) (a : RenderArea) (m : List ℕ) {c : Called} → well_formed b ≡ true → c.block ≡ block_of (length b)
        (step_with ls a m (state_of b)).device → SameTable b c
    stepped ls a m w e =
        let s = state_of b in
        kept (step_with ls a m s).device w (with_shape ls a m s (state_shape b w bytes)) (step_table ls a m s) e

    pub step_table_kept : (m frame : List ℕ) (n : ℕ) → SameTable b (step_call b m frame n)
    unfolding step_call
    step_table_kept m frame n =
        either (SameTable b) (well_formed b)
        (λ w. either (SameTable b) (leb n 2) (λ _. stepped (frame_lines (area_from n) m (length frame)) (area_from n) m w refl) (λ _. same refl))
        (λ _. same refl)

    pub row_table_kept : (m row : List ℕ) (n : ℕ) → SameTable b (row_step_call b m row n)
    unfolding row_step_call
    row_table_kept m row n =
        either (SameTable b) (well_formed b)
        (λ w. either (SameTable b) (leb n 2) (λ _. stepped (row_lines (area_from n) m (length row)) (area_from n) m w refl) (λ _. same refl))
        (λ _. same refl)

    pub layer_table_kept :
        (lines : RenderArea → List Line) (filled : VdpState → RenderArea → List ℕ) (m x layers : List ℕ) (n : ℕ) → SameTable b
        (layer_call lines filled b m x layers n)
    unfolding layer_call
    layer_table_kept lines filled m x layers n =
        either (SameTable b) (well_formed b)
        (λ w. either (SameTable b) (leb n 2) (λ _. stepped (layer_lines lines layers (area_from n)) (area_from n) m w refl) (λ _. same refl))
        (λ _. same refl)

  pub dump_table : (m pixels : List ℕ) → SameTable b (dump_call b m pixels)
  unfolding dump_call
  dump_table m pixels = either (SameTable b) (well_formed b) (λ _. same refl) (λ _. same refl)
