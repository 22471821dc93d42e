-- What a port call keeps: the raster, and that clean colours are the palette's.
-- Assumes nothing.
use Rattle.std.specs.Prelude.{None, Option, Some, ℕ}
use mathlib.Core.Path.{◌≡◌, refl}
use mathlib.Core.Bool.{Bool, false, ◌||◌}
use mathlib.Core.List.{List}
use Prim.Native.Nat.{ℕ, ◌-◌, ◌%◌}
use lib.Dec.{eqb}
use lib.ListN.{set}
use lib.Seq.{set-get_or}
use borrow.Author.Tests.{eqb-true, not-false}
use Rattle.laws.specs.Lists.{at}
use Rattle.laws.proofs.Tests.{either, neither}
use Rattle.colour.specs.Colour.{colours_of}
use Rattle.front.specs.declared.Front.{Front}
use Rattle.vdp.specs.declared.VdpState.{VdpState}
use Rattle.front.specs.declared.Written.{Written}
use Rattle.vdp.specs.Device.{front_of, with_front}
use Rattle.front.specs.Ports.{front_write}
use Rattle.front.specs.Front.{changed}
use Rattle.vdp.specs.Ports.{stored, odd_palette, palette_write, port_write, port_read}

-- the cached colours are the palette's whenever the record is not dirty
abbrev pub Clean : VdpState → Type 0
Clean d = d.cram_dirty ≡ false → d.color_cache ≡ colours_of d.cram

pub record Keeps (d d' : VdpState) : Type 0 where
  pub raster : d'.raster ≡ d.raster
  pub clean : Clean d → Clean d'

same_byte : (a b : ℕ) → changed a b ≡ false → a ≡ b
same_byte a b e = eqb-true a b (not-false (eqb a b) e)

-- two bytes that are there already leave the palette as it is
unchanged : (p : List ℕ) (a low high : ℕ) → at p (a - 1) ≡ low → at p a ≡ high → set (set p (a - 1) low) a high ≡ p
unchanged p a low high l h = rw (← l, set-get_or p (a - 1) 0, ← h, set-get_or p a 0)

module _ (d : VdpState) where
  abbrev KeptW : Written VdpState → Type 0
  KeptW r = Keeps d r.device

  -- any device with this raster, palette, dirty flag and cache
  alike : (d' : VdpState) → d'.raster ≡ d.raster → (Clean d → Clean d') → Keeps d d'
  alike d' r c = record { raster = r; clean = c }

  recoloured : (a low high : ℕ) → Clean d → Clean (stored d a low high)
  recoloured a low high k e =
      let c₁ : Bool = changed (at d.cram (a - 1)) low in
      let c₂ : Bool = changed (at d.cram a) high in
      let p = neither (d.cram_dirty || c₁) c₂ e in
      let q = neither d.cram_dirty c₁ p.0 in
      rw (unchanged d.cram a low high (same_byte _ low q.1) (same_byte _ high p.1)) (k q.0)

  -- any front will do
  odd : (l : Option ℕ) (f : Front) (v : ℕ) → KeptW (odd_palette l (with_front d f) v)
  odd None f v = alike _ refl (λ k. k)
  odd (Some low) f v = alike _ refl (recoloured f.addr low (v % 16))

  palette : (f : Front) (v : ℕ) → KeptW (palette_write (with_front d f) v)
  palette f v = either KeptW (eqb (f.addr % 2) 0) (λ _. alike _ refl (λ k. k)) (λ _. odd d.cram_byte1 f v)

  pub write_keeps : (m : List ℕ) (p v : ℕ) → Keeps d (port_write d m p v).answer.device
  unfolding port_write
  write_keeps m p v =
      let a = (front_write 64 (front_of d) m p v).answer in
      either KeptW a.palette (λ _. palette a.front v) (λ _. alike _ refl (λ k. k))

  pub read_keeps : (m : List ℕ) (p : ℕ) → Keeps d (port_read d m p).device
  unfolding port_read
  read_keeps m p = alike _ refl (λ k. k)
