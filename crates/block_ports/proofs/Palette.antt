-- The palette in a block of the handheld: what is read there, and what its stores leave, by the device that the block is of.
-- Assumes nothing.
use Rattle.std.specs.Prelude.{None, Option, Some, ℕ, Err, Ok}
use mathlib.Core.Path.{◌≡◌, sym, ap, ◌∙◌}
use mathlib.Core.Bool.{Bool, false, ◌||◌}
use mathlib.Core.List.{List}
use Prim.Native.Nat.{ℕ, ◌+◌, ◌-◌, ◌%◌, ◌<◌}
use native.Mathlib.Omega.{arith}
use borrow.Author.Tests.{ne_eqb}
use lib.Dec.{eqb}
use lib.ListN.{set, length-set}
use lib.Seq.{get_or-set_other}
use Rattle.laws.specs.Lists.{at}
use Rattle.laws.proofs.Parts.{at_past, set_past}
use Rattle.vdp.specs.declared.VdpState.{VdpState}
use Rattle.refusal.specs.declared.Refusal.TheVariants.{NoPaletteByte}
use Rattle.vdp.specs.Device.{with_palette_byte, with_addr, with_palette}
use Rattle.front.specs.Front.{changed}
use Rattle.fields.specs.Fields.{flag_of, latch_from}
use Rattle.fields.specs.Stored.{address_in, latch_stored, address_stored, colour_stored}
use Rattle.fields.proofs.Fields.{flag_back, latch_back, address_back}
use Rattle.block_parts.specs.Parts.{colour_bytes}
use Rattle.block_parts.proofs.Copies.{length-colour_bytes}
use Rattle.block_parts.proofs.Format.{palette_at, palette_set}
use Rattle.block_parts.proofs.Front.{address_put}
use Rattle.block.specs.Block.{head, small, last, block_of, Sized}
use Rattle.block.proofs.Whole.{length-head, length-small}
use Rattle.block_ports.specs.InPlace.{PaletteInPlace}

module _ (n : ℕ) (s : VdpState) (g : Sized s) where
  -- ---- what is read
  pub address_read : address_in (block_of n s) ≡ s.addr
  unfolding block_of head small
  address_read = rw (at_past s.reg _ 11 3 g.registers, at_past s.reg _ 11 4 g.registers) (address_back s.addr)

  pub latch_read : latch_from (at (block_of n s) 23) (at (block_of n s) 24) ≡ s.cram_byte1
  unfolding block_of head small
  latch_read = rw (at_past s.reg _ 11 9 g.registers, at_past s.reg _ 11 10 g.registers) (latch_back s.cram_byte1)

  dirty_read : at (block_of n s) 26 ≡ flag_of s.cram_dirty
  unfolding block_of head small
  dirty_read = at_past s.reg _ 11 12 g.registers

  colour_read : (k : ℕ) → k < 64 → at (block_of n s) (27 + k) ≡ at s.cram k
  unfolding block_of
  colour_read =
      palette_at (head n s) s.reg (small s) s.cram (colour_bytes s.color_cache) (last n s) 13 64 (length-head n s) g.registers
      (length-small s) g.palette (length-colour_bytes s.color_cache)

  -- ---- what is stored
  pub latch_stored_lem : (v : ℕ) {b' : List ℕ} → b' ≡ latch_stored 23 (Some v) (block_of n s) → b' ≡ block_of n (with_palette_byte s (Some v))
  unfolding block_of head small last
  latch_stored_lem v e = e ∙ rw (set_past s.reg _ 11 9 _ g.registers, set_past s.reg _ 11 10 _ g.registers)

  pub address_stored_lem : (a : ℕ) {b' : List ℕ} → b' ≡ address_stored a (block_of n s) → b' ≡ block_of n (with_addr s a)
  unfolding block_of head small last
  address_stored_lem a e = e ∙ address_put _ _ _ s.reg _ _ _ g.registers _ _ _ a

  dirty_stored : (t : Bool) → set (block_of n s) 26 (flag_of t) ≡ block_of n (with_palette s s.cram t)
  unfolding block_of head small last
  dirty_stored t = rw (set_past s.reg _ 11 12 _ g.registers)

  byte_stored : (k v : ℕ) → k < 64 → set (block_of n s) (27 + k) v ≡ block_of n (with_palette s (set s.cram k v) s.cram_dirty)
  unfolding block_of head small last
  byte_stored =
      palette_set (head n s) s.reg (small s) s.cram (colour_bytes s.color_cache) (last n s) 13 64 (length-head n s) g.registers
      (length-small s) g.palette (length-colour_bytes s.color_cache)

-- a byte of the palette, and the dirty flag with it
abbrev coloured : VdpState → ℕ → ℕ → VdpState
coloured s k v = with_palette s (set s.cram k v) (s.cram_dirty || changed (at s.cram k) v)

pub colour_stored_lem :
    (n : ℕ) (s : VdpState) → Sized s → (k v : ℕ) → k < 64 → {b b' : List ℕ} → b ≡ block_of n s → b' ≡ colour_stored 27 26 k v b → b' ≡ block_of n
    (coloured s k v)
colour_stored_lem n s g k v h e e' =
    let t : Bool = s.cram_dirty || changed (at s.cram k) v in
    let g₁ : Sized (with_palette s s.cram t) = record { registers = g.registers; palette = g.palette } in
    e'
    ∙ ap (colour_stored 27 26 k v) e
    ∙ rw (dirty_read n s g, colour_read n s g k h, flag_back s.cram_dirty, dirty_stored n s g t)
    (byte_stored n (with_palette s s.cram t) g₁ k v h)

-- ---- a byte for the palette
module _ (n : ℕ) (s : VdpState) (g : Sized s) (v : ℕ) {b : List ℕ} (e : b ≡ block_of n s) {a : ℕ} (ea : a ≡ address_in b) where
  abbrev address : a ≡ s.addr
  address = ea ∙ ap address_in e ∙ address_read n s g

  pub even_in_place :
      a % 2 ≡ 0 → {b₁ b₂ : List ℕ} → b₁ ≡ latch_stored 23 (Some v) b → b₂ ≡ address_stored ((a + 1) % 64) b₁ → PaletteInPlace n s v (Ok tt) b₂
  even_in_place h {b₁} {b₂} e₁ e₂ =
      let even : s.addr % 2 ≡ 0 = rw address at h in
      let p₁ : b₁ ≡ block_of n (with_palette_byte s (Some v)) = latch_stored_lem n s g v (e₁ ∙ ap (latch_stored 23 (Some v)) e) in
      let g₁ : Sized (with_palette_byte s (Some v)) = record { registers = g.registers; palette = g.palette } in
      let p₂ = address_stored_lem n (with_palette_byte s (Some v)) g₁ ((a + 1) % 64) (e₂ ∙ ap (address_stored ((a + 1) % 64)) p₁) in
      record { outcome = simp even; block = (rw address at p₂) ∙ simp even }

  module _ (h : a % 2 ≡ 0 → ⊥) {l : Option ℕ} (el : l ≡ latch_from (at b 23) (at b 24)) where
    odd : eqb (s.addr % 2) 0 ≡ false
    odd = ne_eqb (s.addr % 2) 0 (rw address at h)

    held : {x : Option ℕ} → l ≡ x → s.cram_byte1 ≡ x
    held q = sym (latch_read n s g) ∙ sym (ap (λ (k : List ℕ). latch_from (at k 23) (at k 24)) e) ∙ sym el ∙ q

    pub none_in_place : l ≡ None → PaletteInPlace n s v (Err NoPaletteByte) b
    none_in_place q = record { outcome = simp (odd, held q); block = e ∙ simp (odd, held q) }

    pub odd_in_place :
        (low : ℕ) → l ≡ Some low → a < 64 → {b₁ b₂ b₃ : List ℕ} → b₁ ≡ colour_stored 27 26 (a - 1) low b → b₂ ≡ colour_stored 27 26 a (v % 16) b₁
        → b₃ ≡ address_stored ((a + 1) % 64) b₂ → PaletteInPlace n s v (Ok tt) b₃
    odd_in_place low q k {b₁} {b₂} {b₃} e₁ e₂ e₃ =
        let s₁ : VdpState = coloured s (a - 1) low in
        let g₁ : Sized s₁ = record { registers = g.registers; palette = simp length-set g.palette } in
        let s₂ : VdpState = coloured s₁ a (v % 16) in
        let g₂ : Sized s₂ = record { registers = g.registers; palette = simp length-set g.palette } in
        let p₁ : b₁ ≡ block_of n s₁ = colour_stored_lem n s g (a - 1) low (omega arith) e e₁ in
        let p₂ : b₂ ≡ block_of n s₂ = colour_stored_lem n s₁ g₁ a (v % 16) k p₁ e₂ in
        let p₃ : b₃ ≡ block_of n (with_addr s₂ ((a + 1) % 64)) = address_stored_lem n s₂ g₂ ((a + 1) % 64) (e₃ ∙ ap (address_stored ((a + 1) % 64)) p₂) in
        let other : a ≡ a - 1 → ⊥ = λ z. h (omega arith) in
        let p = rw (get_or-set_other s.cram (a - 1) a low 0 other, address) at p₃ in
        record { outcome = simp (odd, held q); block = p ∙ simp (odd, held q) }
