-- A call on the block of a device, of either version that has room for it, is that call on the device: the block stands for the device, call after call.
-- Assumes nothing.
use mathlib.Core.Path.{◌≡◌}
use mathlib.Core.Bool.{true}
use mathlib.Core.List.{List, []}
use Prim.Native.Nat.{ℕ}
use lib.ListN.{length}
use Rattle.raster.specs.declared.LineTable.{LineTable}
use Rattle.raster.specs.declared.LineTable.TheVariants.{Steps261, Steps262}
use Rattle.raster.specs.Raster.{line_table_number}
use Rattle.picture.specs.declared.RenderArea.{RenderArea}
use Rattle.vdp.specs.declared.VdpState.{VdpState}
use Rattle.vdp.specs.Device.{made}
use Rattle.block.specs.Block.{fits, block_of, Shape}
use Rattle.block.proofs.Whole.{fits_sized}
use Rattle.block.proofs.RoundTrip.{length_block, good_block, state_back}
use Rattle.refusal.specs.Refusals.{Line}
use Rattle.face.specs.Layers.{layer_on, layer_call}
use Rattle.face.specs.Face.{on_area, new_table_call, out_on, out_call, input_on, input_call, step_on, step_call, row_step_on, row_step_call, dump_on, dump_call}

pub new_on :
    (b : List ℕ) (t : LineTable) → fits t (length b) ≡ true →
    new_table_call b (line_table_number t) ≡ record { word = 0; block = block_of (length b) (made t); lent = [] }
unfolding new_table_call
new_on b Steps261 h = rw h
new_on b Steps262 h = rw h

module _ (k : ℕ) (s : VdpState) (g : Shape s) (room : fits s.raster.table k ≡ true) where
  pub out_on_lem : (m : List ℕ) (p v : ℕ) → out_call (block_of k s) m p v ≡ out_on m p v k s
  unfolding out_call
  out_on_lem m p v = rw (length_block k s g (fits_sized s.raster.table k room), good_block k s g room, state_back k s g room)

  pub input_on_lem : (m : List ℕ) (p : ℕ) → input_call (block_of k s) m p ≡ input_on m p k s
  unfolding input_call
  input_on_lem m p = rw (length_block k s g (fits_sized s.raster.table k room), good_block k s g room, state_back k s g room)

  pub step_on_lem : (m frame : List ℕ) (n : ℕ) → step_call (block_of k s) m frame n ≡ on_area n (block_of k s) frame (step_on m frame k s)
  unfolding step_call
  step_on_lem m frame n = rw (length_block k s g (fits_sized s.raster.table k room), good_block k s g room, state_back k s g room)

  pub row_on_lem : (m row : List ℕ) (n : ℕ) → row_step_call (block_of k s) m row n ≡ on_area n (block_of k s) row (row_step_on m row k s)
  unfolding row_step_call
  row_on_lem m row n = rw (length_block k s g (fits_sized s.raster.table k room), good_block k s g room, state_back k s g room)

  pub layer_on_lem :
      (lines : RenderArea → List Line) (filled : VdpState → RenderArea → List ℕ) (m x layers : List ℕ) (n : ℕ)
      → layer_call lines filled (block_of k s) m x layers n ≡ on_area n (block_of k s) x (layer_on lines filled m x layers k s)
  unfolding layer_call
  layer_on_lem lines filled m x layers n = rw (length_block k s g (fits_sized s.raster.table k room), good_block k s g room, state_back k s g room)

  pub dump_on_lem : (m pixels : List ℕ) → dump_call (block_of k s) m pixels ≡ dump_on (block_of k s) m pixels s
  unfolding dump_call
  dump_on_lem m pixels = rw (good_block k s g room, state_back k s g room)
