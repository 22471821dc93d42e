-- What a refused port call leaves of the device is what the table's column says, and video memory stays; a refused read gives byte 0.
-- Assumes nothing.
use Rattle.refusal.specs.Refusals.{outcome_of, byte_given}
use Rattle.std.specs.Prelude.{None, Option, Some, ℕ, Ok}
use Prim.Native.Nat.{ℕ, ◌%◌}
use mathlib.Core.Path.{◌≡◌, refl, ap}
use mathlib.Core.Logic.{◌≢◌}
use mathlib.Core.List.{List}
use lib.Dec.{eqb}
use Rattle.laws.proofs.Tests.{either}
use Rattle.vdp.specs.declared.VdpState.{VdpState}
use Rattle.front.specs.declared.Written.{Written}
use Rattle.front.specs.declared.ReadBack.{ReadBack}
use Rattle.vdp.specs.Device.{front_of, with_front, unlatched}
use Rattle.vdp.specs.Refusals.{device_left}
use Rattle.front.specs.Ports.{front_write}
use Rattle.vdp.specs.Ports.{odd_palette, palette_write, After, port_write, port_read}
use Rattle.front.proofs.Kept.{write_kept}
use Rattle.front.proofs.Behind.{accepted, front_write_behind, front_read_behind}

-- ---- of the device
module _ (s : VdpState) where
  abbrev LeftW : Written VdpState → Type 0
  LeftW a = a.outcome ≢ (Ok tt) → a.device ≡ device_left a.outcome s

  pub record LeftA (m : List ℕ) (a : After) : Type 0 where
    pub device : LeftW a.answer
    pub memory : a.answer.outcome ≢ (Ok tt) → a.vram ≡ m

  pub record LeftR (a : ReadBack VdpState) : Type 0 where
    pub device : outcome_of a.byte ≢ (Ok tt) → a.device ≡ device_left (outcome_of a.byte) s
    pub zero : outcome_of a.byte ≢ (Ok tt) → byte_given a.byte ≡ 0

  odd : (l : Option ℕ) (v : ℕ) → LeftW (odd_palette l (unlatched s) v)
  odd None v = λ _. refl
  odd (Some b) v = accepted

  palette : (v : ℕ) → LeftW (palette_write (unlatched s) v)
  palette v = either LeftW (eqb (s.addr % 2) 0) (λ _. accepted) (λ _. odd s.cram_byte1 v)

  pub write_behind : (m : List ℕ) (p v : ℕ) → LeftA m (port_write s m p v)
  unfolding port_write
  write_behind m p v =
      let f = front_of s in
      let a = front_write 64 f m p v in
      let k = write_kept 64 f m p v in
      let b = front_write_behind f 64 m p v in
      record {
        device = either LeftW a.answer.palette (λ t. rw (k.palette t).answer (palette v)) (λ _ n. ap (with_front s) (b.front n));
        memory = either (λ (w : Written VdpState). w.outcome ≢ (Ok tt) → a.vram ≡ m) a.answer.palette (λ t _. (k.palette t).memory)
            (λ _ n. b.memory n);
      }

  pub read_behind : (m : List ℕ) (p : ℕ) → LeftR (port_read s m p)
  unfolding port_read
  read_behind m p =
      let b = front_read_behind (front_of s) m p s.raster.v_counter in
      record { device = λ n. ap (with_front s) (b.front n); zero = b.zero }
