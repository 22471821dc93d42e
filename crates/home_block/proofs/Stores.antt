-- The parts of a block that a call reads and writes, each by itself, by the device that the block is of.
-- Assumes nothing.
use mathlib.Core.Path.{◌≡◌, ap, ◌∙◌}
use mathlib.Core.Bool.{Bool, ◌||◌}
use mathlib.Core.List.{List, [], append-nil}
use Prim.Native.Nat.{ℕ, ◌+◌, ◌%◌, ◌<◌}
use native.Mathlib.Omega.{arith}
use lib.ListN.{length, set, take, drop, length-set, length-take, length-drop, replicate}
use lib.Seq.{paste}
use Rattle.laws.specs.Lists.{at}
use Rattle.laws.proofs.Parts.{at_past, set_past}
use Rattle.raster.specs.declared.Raster.{Raster}
use Rattle.front.specs.declared.Front.{Front}
use Rattle.front.specs.Front.{changed}
use Rattle.fields.specs.Fields.{flag_of}
use Rattle.fields.specs.Stored.{address_in, address_stored, colour_stored, front_in, front_stored}
use Rattle.fields.proofs.Fields.{flag_back, address_back}
use Rattle.block_parts.specs.Parts.{colour_bytes, raster_stored, cache_stored}
use Rattle.block_parts.proofs.Copies.{length-colour_bytes}
use Rattle.block_parts.proofs.Format.{palette_at, palette_set, cache_set}
use Rattle.block_parts.proofs.Front.{front_put, address_put}
use Rattle.home.specs.declared.HomeState.{HomeState}
use Rattle.home.specs.Home.{with_front, with_status, with_raster, with_cache, with_addr, with_palette}
use Rattle.home.specs.Ports.{stored, palette_write}
use Rattle.home_block.specs.HomeBlock.{block_size, head, small, block_of, state_of, Sized}
use Rattle.home_block.proofs.Whole.{length-head, length-small}

pub palette_is : (b : List ℕ) {r : List ℕ} → r ≡ paste (replicate 32 0) 0 (drop 26 b) 32 → r ≡ (state_of b).cram
unfolding state_of
palette_is b e = e ∙ append-nil (take 32 (drop 26 b))

pub sized_state : (b : List ℕ) → length b ≡ block_size → Sized (state_of b)
unfolding state_of front_in
sized_state b h = record { registers = simp (length-take, length-drop) (omega arith); palette = simp (length-take, length-drop) (omega arith) }

module _ (h : HomeState) (g : Sized h) where
  pub front_stored_lem : (f : Front) → front_stored f (block_of h) ≡ block_of (with_front h f)
  unfolding block_of head small
  front_stored_lem f = front_put _ _ _ h.front.reg _ _ _ g.registers _ _ _ _ _ _ _ f

  pub raster_stored_lem : (b : List ℕ) (status : ℕ) (r : Raster) → r.table ≡ h.raster.table → b ≡ block_of h
      → raster_stored 23 status r b ≡ block_of (with_raster (with_status h status) r)
  unfolding block_of head small
  raster_stored_lem b status r t e =
      rw (e, t)
      (rw (
        set_past h.front.reg _ 11 0 _ g.registers,
        set_past h.front.reg _ 11 1 _ g.registers,
        set_past h.front.reg _ 11 2 _ g.registers,
        set_past h.front.reg _ 11 9 _ g.registers,
      ))

  pub cache_stored_lem : (b colours : List ℕ) → b ≡ block_of h → cache_stored 58 24 colours b ≡ block_of (with_cache h colours)
  unfolding block_of head small
  cache_stored_lem b colours e =
      ap (λ (x : List ℕ). set (paste x 58 (colour_bytes colours) 128) 24 0) e
      ∙ ap (λ (x : List ℕ). set x 24 0)
      (cache_set (head h) h.front.reg (small h) h.cram (colour_bytes h.color_cache) [] 12 32 (length-head h) g.registers (length-small h)
      g.palette (length-colour_bytes h.color_cache) (colour_bytes colours) (length-colour_bytes colours))
      ∙ rw (set_past h.front.reg _ 11 10 _ g.registers)

  pub address_read : address_in (block_of h) ≡ h.front.addr
  unfolding block_of head small
  address_read = rw (at_past h.front.reg _ 11 3 g.registers, at_past h.front.reg _ 11 4 g.registers) (address_back h.front.addr)

  address_stored_lem : (a : ℕ) → address_stored a (block_of h) ≡ block_of (with_addr h a)
  unfolding block_of head small
  address_stored_lem a = address_put _ _ _ h.front.reg _ _ _ g.registers _ _ _ a

  dirty_read : at (block_of h) 24 ≡ flag_of h.cram_dirty
  unfolding block_of head small
  dirty_read = at_past h.front.reg _ 11 10 g.registers

  dirty_stored : (t : Bool) → set (block_of h) 24 (flag_of t) ≡ block_of (with_palette h h.cram t)
  unfolding block_of head small
  dirty_stored t = rw (set_past h.front.reg _ 11 10 _ g.registers)

  colour_read : (k : ℕ) → k < 32 → at (block_of h) (26 + k) ≡ at h.cram k
  unfolding block_of
  colour_read =
      palette_at (head h) h.front.reg (small h) h.cram (colour_bytes h.color_cache) [] 12 32 (length-head h) g.registers (length-small h)
      g.palette (length-colour_bytes h.color_cache)

  byte_stored : (k v : ℕ) → k < 32 → set (block_of h) (26 + k) v ≡ block_of (with_palette h (set h.cram k v) h.cram_dirty)
  unfolding block_of head small
  byte_stored =
      palette_set (head h) h.front.reg (small h) h.cram (colour_bytes h.color_cache) [] 12 32 (length-head h) g.registers (length-small h)
      g.palette (length-colour_bytes h.color_cache)

-- a byte for the palette, with the dirty flag, and the address one on
pub palette_stored : (h : HomeState) → Sized h → (v : ℕ) {a : ℕ} {b b₁ b₂ : List ℕ} → a < 32 → b ≡ block_of h → a ≡ address_in b
    → b₁ ≡ colour_stored 26 24 a v b → b₂ ≡ address_stored ((a + 1) % 32) b₁ → b₂ ≡ block_of (palette_write h v).device
palette_stored h g v {a} {b} {b₁} {b₂} low e ea e₁ e₂ =
    let address : a ≡ h.front.addr = ea ∙ ap address_in e ∙ address_read h g in
    let t : Bool = h.cram_dirty || changed (at h.cram a) v in
    let g₁ : Sized (with_palette h h.cram t) = record { registers = g.registers; palette = g.palette } in
    let g₂ : Sized (stored h a v) = record { registers = g.registers; palette = simp length-set g.palette } in
    let p : b₁ ≡ block_of (stored h a v) =
    e₁
    ∙ ap (colour_stored 26 24 a v) e
    ∙ rw (dirty_read h g, colour_read h g a low, flag_back h.cram_dirty, dirty_stored h g t)
    (byte_stored (with_palette h h.cram t) g₁ a v low) in
    rw (← address) (e₂ ∙ ap (address_stored ((a + 1) % 32)) p ∙ address_stored_lem (stored h a v) g₂ ((a + 1) % 32))
