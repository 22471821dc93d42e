-- A fresh device of either table has the shape that the block asks, so has that of a well-formed block, and every port call keeps it.
-- Assumes nothing.
use Rattle.std.specs.Prelude.{None, Option, Some, ℕ}
use Prim.Native.Nat.{ℕ, zero, suc, ◌+◌, ◌-◌, ◌%◌, ◌≤◌, ◌<◌}
use mathlib.Core.Path.{◌≡◌, refl, ap, ◌∙◌}
use mathlib.Core.List.{List}
use mathlib.Core.Bool.{Bool, true}
use native.Mathlib.Decide.{dec_lt}
use native.Mathlib.Omega.{arith}
use lib.Dec.{eqb}
use lib.ListN.{length, take, drop, set, length-set, length-take, length-drop, replicate, get_or-eq_default}
use lib.Seq.{get_or-take, get_or-drop}
use Rattle.laws.specs.Lists.{at}
use Rattle.laws.proofs.Parts.{set_below}
use Rattle.laws.proofs.Tests.{either}
use Rattle.raster.specs.declared.Raster.{Raster}
use Rattle.raster.specs.declared.LineTable.{LineTable}
use Rattle.front.specs.declared.Front.{Front}
use Rattle.vdp.specs.declared.VdpState.{VdpState}
use Rattle.front.specs.declared.Written.{Written}
use Rattle.front.specs.declared.WriteDest.{WriteDest}
use Rattle.vdp.specs.Device.{device, made, front_of, with_front, with_palette_byte, with_addr}
use Rattle.front.specs.Ports.{front_write, front_read}
use Rattle.vdp.specs.Ports.{odd_palette, palette_write, port_write, port_read}
use Rattle.front.proofs.Kept.{write_kept, read_registers}
use Rattle.fields.specs.Fields.{latch_byte, latch_from}
use Rattle.block_parts.proofs.Copies.{length-colours_from, colour_low}
use Rattle.block.specs.Block.{well_formed, state_of, Shape}
use Rattle.block.proofs.Whole.{long}

zeros : (n i : ℕ) → at (replicate n 0) i ≡ 0
zeros zero i = refl
zeros (suc n) zero = refl
zeros (suc n) (suc i) = zeros n i

pub made_shape : (t : LineTable) → Shape (made t)
made_shape t =
    record {
      registers = refl;
      palette = refl;
      cache = refl;
      byte = λ i. rw (zeros 64 i) (omega arith);
      latched = omega arith;
      colour = λ i. rw (zeros 32 i) (omega arith);
    }

-- and so has the device of a well-formed block
module _ (b : List ℕ) (w : well_formed b ≡ true) (bytes : (i : ℕ) → at b i < 256) where
  part_byte : (n k i : ℕ) → at (take n (drop k b)) i < 256
  part_byte n k i =
      elim (dec_lt i n) [
        | yes l ↦ rw (get_or-take n (drop k b) i 0 l, get_or-drop k b i 0) (bytes (k + i))
        | no l ↦
            let h : length (take n (drop k b)) ≤ i = simp length-take (omega arith) in
            rw (get_or-eq_default (take n (drop k b)) 0 h) (omega arith)
      ]

  latch_low : (f x : ℕ) → x < 256 → latch_byte (latch_from f x) < 256
  latch_low f x h = either (λ (l : Option ℕ). latch_byte l < 256) (eqb f 0) (λ _. omega arith) (λ _. h)

  pub state_shape : Shape (state_of b)
  unfolding state_of
  state_shape =
      record {
        registers = simp (length-take, length-drop) (omega (arith, long b w));
        palette = simp (length-take, length-drop) (omega (arith, long b w));
        cache = length-colours_from 91 b;
        byte = part_byte 64 27;
        latched = latch_low (at b 23) (at b 24) (bytes 24);
        colour = colour_low 91 b bytes;
      }

module _ {s : VdpState} (g : Shape s) where
  -- the fields that the shape does not speak of are any
  pub carried :
      (status : ℕ) (raster : Raster) (addr buffer : ℕ) (dest : Option WriteDest) (command : Option ℕ) (dirty : Bool)
      → Shape (device status s.reg raster addr buffer dest s.cram command s.cram_byte1 dirty s.color_cache)
  carried status raster addr buffer dest command dirty =
      record { registers = g.registers; palette = g.palette; cache = g.cache; byte = g.byte; latched = g.latched; colour = g.colour }

  -- and so is any front with as many registers
  fronted : (f : Front) → length f.reg ≡ length s.reg → Shape (with_front s f)
  fronted f e =
      record { registers = e ∙ g.registers; palette = g.palette; cache = g.cache; byte = g.byte; latched = g.latched; colour = g.colour }

abbrev ShapeW : Written VdpState → Type 0
ShapeW a = Shape a.device

module _ (v : ℕ) (small : v < 256) where
  even_palette_lem : (s : VdpState) (a : ℕ) → Shape s → Shape (with_addr (with_palette_byte s (Some v)) a)
  even_palette_lem s a g =
      record { registers = g.registers; palette = g.palette; cache = g.cache; byte = g.byte; latched = small; colour = g.colour }

  odd_palette_lem : (l : Option ℕ) (s : VdpState) → latch_byte l < 256 → Shape s → ShapeW (odd_palette l s v)
  odd_palette_lem None s h g = g
  odd_palette_lem (Some low) s h g =
      record {
        registers = g.registers;
        palette = simp length-set g.palette;
        cache = g.cache;
        byte = set_below (set s.cram (s.addr - 1) low) s.addr (v % 16) (set_below s.cram (s.addr - 1) low g.byte h) (omega arith);
        latched = g.latched;
        colour = g.colour;
      }

  palette_write_lem : (s : VdpState) → Shape s → ShapeW (palette_write s v)
  palette_write_lem s g =
      either ShapeW (eqb (s.addr % 2) 0) (λ _. even_palette_lem s ((s.addr + 1) % 64) g) (λ _. odd_palette_lem s.cram_byte1 s g.latched g)

  pub write_shape : (s : VdpState) (m : List ℕ) (p : ℕ) → Shape s → Shape (port_write s m p v).answer.device
  unfolding port_write
  write_shape s m p g =
      let a = (front_write 64 (front_of s) m p v).answer in
      let h = fronted g a.front (write_kept 64 (front_of s) m p v).registers in
      either ShapeW a.palette (λ _. palette_write_lem (with_front s a.front) h) (λ _. h)

pub read_shape : (s : VdpState) (m : List ℕ) (p : ℕ) → Shape s → Shape (port_read s m p).device
unfolding port_read
read_shape s m p g =
    let c = s.raster.v_counter in
    fronted g (front_read (front_of s) m p c).device (ap length (read_registers (front_of s) m p c))
