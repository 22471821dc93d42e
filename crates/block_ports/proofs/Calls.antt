-- The calls in place, from what their parts give.
-- Assumes nothing.
use Rattle.refusal.specs.declared.Refusal.{Refusal}
use Rattle.std.specs.Prelude.{Result}
use Rattle.refusal.specs.Refusals.{Outcome}
use mathlib.Core.Path.{◌≡◌, refl, sym, ◌∙◌}
use mathlib.Core.Bool.{true, false}
use mathlib.Core.List.{List}
use Prim.Native.Nat.{ℕ, ◌<◌}
use lib.ListN.{length}
use Rattle.laws.specs.Lists.{at}
use Rattle.vdp.specs.declared.VdpState.{VdpState}
use Rattle.front.specs.Front.{FrontAfter}
use Rattle.vdp.specs.Device.{front_of, with_front}
use Rattle.front.specs.Ports.{front_write, front_read}
use Rattle.vdp.specs.Ports.{port_write, port_read}
use Rattle.front.proofs.Kept.{write_kept, inside}
use Rattle.inplace.specs.declared.Sent.{Sent}
use Rattle.fields.specs.Stored.{address_in, front_in}
use Rattle.inplace.specs.InPlace.{SentInPlace, GotInPlace}
use Rattle.block.specs.Block.{state_of, block_of, well_formed, Sized}
use Rattle.block.proofs.Whole.{long}
use Rattle.block.proofs.Stores.{sized_state}
use Rattle.block_ports.specs.InPlace.{PaletteInPlace, OutInPlace, InputInPlace}
use Rattle.block_ports.proofs.Front.{front_is, stored_front}
use Rattle.block_ports.proofs.Palette.{address_read}

module _ (b : List ℕ) (w : well_formed b ≡ true) (bytes : (i : ℕ) → at b i < 256) (m : List ℕ) (p : ℕ) where
  sized : Sized (state_of b)
  sized = sized_state b (long b w)

  -- ---- a write, by what the front's answers
  module _ (v : ℕ) where
    -- what the front of the block's device answers and leaves
    abbrev pub fronted : FrontAfter
    fronted = front_write 64 (front_of (state_of b)) m p v

    abbrev pub left : VdpState
    left = with_front (state_of b) fronted.answer.front

    pub left_sized : Sized left
    left_sized = record { registers = (write_kept 64 (front_of (state_of b)) m p v).registers ∙ sized.registers; palette = sized.palette }

    module _ {r : Sent} {b₁ m₁ : List ℕ} (l : SentInPlace b (front_write 64 (front_in b) m p v).answer r b₁)
        (em : m₁ ≡ (front_write 64 (front_in b) m p v).vram) where
      known : SentInPlace b fronted.answer r b₁
      known = rw (front_is b) at l

      memory_is : m₁ ≡ (port_write (state_of b) m p v).vram
      unfolding port_write
      memory_is = rw (front_is b) at em

      pub left_in : b₁ ≡ block_of (length b) left
      left_in = stored_front b w bytes sized fronted.answer.front known.block

      pub aimed : r.palette ≡ true → address_in b₁ < 64
      aimed t =
          rw (left_in, address_read (length b) left left_sized)
          (inside 64 (front_of (state_of b)) m p v fronted.answer refl (sym known.palette ∙ t))

      pub by_palette : r.palette ≡ true → {x : Outcome} {b₂ : List ℕ} → PaletteInPlace (length b) left v x b₂ → OutInPlace b m p v x b₂ m₁
      unfolding port_write
      by_palette t q =
          let u : fronted.answer.palette ≡ true = sym known.palette ∙ t in
          record { outcome = q.outcome ∙ rw u; block = q.block ∙ rw u; memory = memory_is }

      pub by_front : r.palette ≡ false → OutInPlace b m p v r.outcome b₁ m₁
      unfolding port_write
      by_front t =
          let u : fronted.answer.palette ≡ false = sym known.palette ∙ t in
          record { outcome = known.outcome ∙ rw u; block = left_in ∙ rw u; memory = memory_is }

  -- ---- a read
  pub read_in_place : {r : Result ℕ Refusal} {b₁ : List ℕ} → GotInPlace b (front_read (front_in b) m p (at b 14)) r b₁ → InputInPlace b m p r b₁
  unfolding port_read state_of
  read_in_place l =
      let k = rw (front_is b) at l in
      record {
        byte = k.byte;
        block = stored_front b w bytes sized (front_read (front_of (state_of b)) m p (at b 14)).device k.block;
      }
