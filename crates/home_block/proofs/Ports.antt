-- The ports in place, from what their parts give.
-- Assumes nothing.
use Rattle.refusal.specs.declared.Refusal.{Refusal}
use Rattle.std.specs.Prelude.{Ok, Result}
use mathlib.Core.Path.{◌≡◌, refl, sym, ap, ◌∙◌}
use mathlib.Core.Bool.{true, false}
use mathlib.Core.List.{List}
use Prim.Native.Nat.{ℕ, ◌<◌}
use native.Mathlib.Omega.{arith}
use Rattle.laws.specs.Lists.{at}
use Rattle.front.specs.declared.Front.{Front}
use Rattle.front.specs.Front.{FrontAfter}
use Rattle.front.specs.Ports.{front_write, front_read}
use Rattle.front.proofs.Kept.{write_kept, inside}
use Rattle.inplace.specs.declared.Sent.{Sent}
use Rattle.fields.specs.Stored.{address_in, front_in, front_stored, FrontFormed}
use Rattle.inplace.specs.InPlace.{SentInPlace, GotInPlace}
use Rattle.block_parts.proofs.Front as in_block
use Rattle.home.specs.declared.HomeState.{HomeState}
use Rattle.home.specs.Home.{with_front}
use Rattle.home.specs.Ports.{palette_write, port_write, port_read}
use Rattle.home_block.specs.HomeBlock.{block_of, state_of, well_formed, Sized}
use Rattle.home_block.specs.InPlace.{OutInPlace, InputInPlace}
use Rattle.home_block.proofs.Whole.{said}
use Rattle.home_block.proofs.Stores.{sized_state, front_stored_lem, address_read}
use Rattle.home_block.proofs.RoundTrip.{block_back}

front_is : (b : List ℕ) → front_in b ≡ (state_of b).front
unfolding state_of
front_is b = refl

pub formed : (b : List ℕ) → well_formed b ≡ true → ((i : ℕ) → at b i < 256) → FrontFormed b
formed b w bytes = in_block.formed b (omega (arith, (said b w).long)) (said b w).fields bytes

module _ (b : List ℕ) (w : well_formed b ≡ true) (bytes : (i : ℕ) → at b i < 256) (m : List ℕ) (p : ℕ) where
  sized : Sized (state_of b)
  sized = sized_state b (said b w).long

  stored_front : (f : Front) {b' : List ℕ} → b' ≡ front_stored f b → b' ≡ block_of (with_front (state_of b) f)
  stored_front f e = e ∙ ap (front_stored f) (sym (block_back b w bytes)) ∙ front_stored_lem (state_of b) sized f

  -- ---- a write, by what the front's answers
  module _ (v : ℕ) where
    abbrev pub fronted : FrontAfter
    fronted = front_write 32 (state_of b).front m p v

    abbrev pub left : HomeState
    left = with_front (state_of b) fronted.answer.front

    pub left_sized : Sized left
    left_sized = record { registers = (write_kept 32 (state_of b).front m p v).registers ∙ sized.registers; palette = sized.palette }

    module _ {r : Sent} {b₁ m₁ : List ℕ} (l : SentInPlace b (front_write 32 (front_in b) m p v).answer r b₁)
        (em : m₁ ≡ (front_write 32 (front_in b) m p v).vram) where
      known : SentInPlace b fronted.answer r b₁
      known = rw (front_is b) at l

      memory_is : m₁ ≡ (port_write (state_of b) m p v).vram
      unfolding port_write
      memory_is = rw (front_is b) at em

      pub left_in : b₁ ≡ block_of left
      left_in = stored_front fronted.answer.front known.block

      pub aimed : r.palette ≡ true → address_in b₁ < 32
      aimed t =
          rw (left_in, address_read left left_sized)
          (inside 32 (state_of b).front m p v fronted.answer refl (sym known.palette ∙ t))

      pub by_palette : r.palette ≡ true → {b₂ : List ℕ} → b₂ ≡ block_of (palette_write left v).device → OutInPlace b m p v (Ok tt) b₂ m₁
      unfolding port_write
      by_palette t q =
          let u : fronted.answer.palette ≡ true = sym known.palette ∙ t in
          record { outcome = rw u; block = q ∙ rw u; memory = memory_is }

      pub by_front : r.palette ≡ false → OutInPlace b m p v r.outcome b₁ m₁
      unfolding port_write
      by_front t =
          let u : fronted.answer.palette ≡ false = sym known.palette ∙ t in
          record { outcome = known.outcome ∙ rw u; block = left_in ∙ rw u; memory = memory_is }

  -- ---- a read
  pub read_in_place : {r : Result ℕ Refusal} {b₁ : List ℕ} → GotInPlace b (front_read (front_in b) m p (at b 14)) r b₁ → InputInPlace b m p r b₁
  unfolding port_read state_of
  read_in_place l =
      record {
        byte = l.byte;
        block = stored_front (front_read (front_in b) m p (at b 14)).device l.block;
      }
