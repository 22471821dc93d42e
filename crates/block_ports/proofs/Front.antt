-- The front in a block of the handheld: it is the front of the device that the block holds, and stored there it is that device's front.
-- Assumes nothing.
use mathlib.Core.Path.{◌≡◌, refl, sym, ap, ◌∙◌}
use mathlib.Core.Bool.{true}
use mathlib.Core.List.{List}
use Prim.Native.Nat.{ℕ, ◌<◌}
use native.Mathlib.Omega.{arith}
use lib.ListN.{length}
use Rattle.laws.specs.Lists.{at}
use Rattle.front.specs.declared.Front.{Front}
use Rattle.vdp.specs.declared.VdpState.{VdpState}
use Rattle.vdp.specs.Device.{front_of, with_front}
use Rattle.fields.specs.Stored.{front_in, front_stored, FrontFormed}
use Rattle.block_parts.proofs.Front as in_block
use Rattle.block.specs.Block.{head, small, last, block_of, state_of, well_formed, Sized}
use Rattle.block.proofs.Whole.{long}
use Rattle.block.proofs.RoundTrip.{said, block_back}

pub front_is : (b : List ℕ) → front_in b ≡ front_of (state_of b)
unfolding front_in state_of
front_is b = refl

pub formed : (b : List ℕ) → well_formed b ≡ true → ((i : ℕ) → at b i < 256) → FrontFormed b
formed b w bytes = in_block.formed b (omega (arith, long b w)) (said b w).fields bytes

-- stored in the block of a device, it is the block of the device with that front
pub front_stored_lem : (n : ℕ) (s : VdpState) (f : Front) → Sized s → front_stored f (block_of n s) ≡ block_of n (with_front s f)
unfolding block_of head small last
front_stored_lem n s f g = in_block.front_put _ _ _ s.reg _ _ _ g.registers _ _ _ _ _ _ _ f

-- so it is in a well-formed block
module _ (b : List ℕ) (w : well_formed b ≡ true) (bytes : (i : ℕ) → at b i < 256) (g : Sized (state_of b)) where
  pub stored_front : (f : Front) {b' : List ℕ} → b' ≡ front_stored f b → b' ≡ block_of (length b) (with_front (state_of b) f)
  stored_front f e = e ∙ ap (front_stored f) (sym (block_back b w bytes)) ∙ front_stored_lem (length b) (state_of b) f g
