-- The parts of a block that a step reads and writes, each by itself.
-- Assumes nothing.
use mathlib.Core.Path.{◌≡◌, ap, ◌∙◌}
use mathlib.Core.List.{List}
use Prim.Native.Nat.{ℕ, ◌≤◌}
use native.Mathlib.Omega.{arith}
use lib.ListN.{length, set, length-take, length-drop}
use lib.Seq.{paste}
use Rattle.laws.proofs.Parts.{set_past}
use Rattle.raster.specs.declared.Raster.{Raster}
use Rattle.vdp.specs.declared.VdpState.{VdpState}
use Rattle.vdp.specs.Device.{with_status, with_raster, with_cache}
use Rattle.block_parts.specs.Parts.{raster_stored, cache_stored, colour_bytes}
use Rattle.block_parts.proofs.Copies.{length-colour_bytes}
use Rattle.block_parts.proofs.Format.{cache_set}
use Rattle.block.specs.Block.{head, small, last, state_of, block_of, Sized}
use Rattle.block.proofs.Whole.{length-head, length-small}

pub sized_state : (b : List ℕ) → 219 ≤ length b → Sized (state_of b)
unfolding state_of
sized_state b h = record { registers = simp (length-take, length-drop) (omega arith); palette = simp (length-take, length-drop) (omega arith) }

module _ (n : ℕ) (s : VdpState) (g : Sized s) where
  pub raster_stored_lem :
      (b : List ℕ) (status : ℕ) (r : Raster) → r.table ≡ s.raster.table → b ≡ block_of n s →
      raster_stored 25 status r b ≡ block_of n (with_raster (with_status s status) r)
  unfolding block_of head small last
  raster_stored_lem b status r t e =
      rw (e, t)
      (rw (
        set_past s.reg _ 11 0 _ g.registers,
        set_past s.reg _ 11 1 _ g.registers,
        set_past s.reg _ 11 2 _ g.registers,
        set_past
            s.reg _ 11 11 _ g.registers,
      ))

  pub cache_stored_lem : (b colours : List ℕ) → b ≡ block_of n s → cache_stored 91 26 colours b ≡ block_of n (with_cache s colours)
  unfolding block_of head small last
  cache_stored_lem b colours e =
      ap (λ (x : List ℕ). set (paste x 91 (colour_bytes colours) 128) 26 0) e
      ∙ ap (λ (x : List ℕ). set x 26 0)
      (cache_set (head n s) s.reg (small s) s.cram (colour_bytes s.color_cache) (last n s) 13 64 (length-head n s) g.registers
      (length-small s) g.palette (length-colour_bytes s.color_cache) (colour_bytes colours) (length-colour_bytes colours))
      ∙ rw (set_past s.reg _ 11 12 _ g.registers)
