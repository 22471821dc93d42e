-- A fresh device has the shape that the block asks, so has that of a well-formed block, and every port call keeps it.
-- Assumes nothing.
use Prim.Native.Nat.{ℕ, zero, suc, ◌+◌, ◌≤◌, ◌<◌}
use mathlib.Core.Path.{◌≡◌, refl, ap, ◌∙◌}
use mathlib.Core.Bool.{Bool, true}
use mathlib.Core.List.{List}
use native.Mathlib.Decide.{dec_lt}
use native.Mathlib.Omega.{arith}
use lib.ListN.{length, take, drop, length-set, length-take, replicate, get_or-eq_default}
use lib.Seq.{get_or-take, get_or-drop}
use Rattle.laws.specs.Lists.{at}
use Rattle.laws.proofs.Parts.{set_below}
use Rattle.laws.proofs.Tests.{either}
use Rattle.raster.specs.declared.Raster.{Raster}
use Rattle.raster.specs.declared.LineTable.{LineTable}
use Rattle.front.specs.declared.Front.{Front}
use Rattle.front.specs.Ports.{front_write, front_read}
use Rattle.front.proofs.Kept.{write_kept, read_registers}
use Rattle.block_parts.proofs.Copies.{length-colours_from, colour_low}
use Rattle.home.specs.declared.HomeState.{HomeState}
use Rattle.front.specs.declared.Written.{Written}
use Rattle.home.specs.Home.{home, made, with_front}
use Rattle.home.specs.Ports.{palette_write, port_write, port_read}
use Rattle.home_block.specs.HomeBlock.{state_of, well_formed, Shape}
use Rattle.home_block.proofs.Whole.{said}
use Rattle.home_block.proofs.Stores.{sized_state}

zeros : (n i : ℕ) → at (replicate n 0) i ≡ 0
zeros zero i = refl
zeros (suc n) zero = refl
zeros (suc n) (suc i) = zeros n i

pub made_shape : (t : LineTable) → Shape (made t)
made_shape t =
    record {
      sized = record { registers = refl; palette = refl };
      cache = refl;
      byte = λ i. rw (zeros 32 i) (omega arith);
      colour = λ i. rw (zeros 32 i) (omega arith);
    }

-- and so has the device of a well-formed block
module _ (b : List ℕ) (w : well_formed b ≡ true) (bytes : (i : ℕ) → at b i < 256) where
  part_byte : (n k i : ℕ) → at (take n (drop k b)) i < 256
  part_byte n k i =
      elim (dec_lt i n) [
        | yes l ↦ rw (get_or-take n (drop k b) i 0 l, get_or-drop k b i 0) (bytes (k + i))
        | no l ↦
            let h : length (take n (drop k b)) ≤ i = simp length-take (omega arith) in
            rw (get_or-eq_default (take n (drop k b)) 0 h) (omega arith)
      ]

  pub state_shape : Shape (state_of b)
  unfolding state_of
  state_shape =
      record {
        sized = sized_state b (said b w).long;
        cache = length-colours_from 58 b;
        byte = part_byte 32 26;
        colour = colour_low 58 b bytes;
      }

module _ {h : HomeState} (g : Shape h) where
  -- any front with as many registers, any raster, either flag
  pub carried : (f : Front) (raster : Raster) (dirty : Bool) → length f.reg ≡ length h.front.reg
      → Shape (home f raster h.cram dirty h.color_cache)
  carried f raster dirty e =
      record {
        sized = record { registers = e ∙ g.sized.registers; palette = g.sized.palette };
        cache = g.cache;
        byte = g.byte;
        colour = g.colour;
      }

abbrev ShapeW : Written HomeState → Type 0
ShapeW a = Shape a.device

palette_write_lem : (h : HomeState) (v : ℕ) → v < 256 → Shape h → ShapeW (palette_write h v)
palette_write_lem h v low g =
    record {
      sized = record { registers = g.sized.registers; palette = simp length-set g.sized.palette };
      cache = g.cache;
      byte = set_below h.cram h.front.addr v g.byte low;
      colour = g.colour;
    }

pub write_shape : (h : HomeState) (m : List ℕ) (p v : ℕ) → v < 256 → Shape h → Shape (port_write h m p v).answer.device
unfolding port_write
write_shape h m p v low g =
    let a = (front_write 32 h.front m p v).answer in
    let k = carried g a.front h.raster h.cram_dirty (write_kept 32 h.front m p v).registers in
    either ShapeW a.palette (λ _. palette_write_lem (with_front h a.front) v low k) (λ _. k)

pub read_shape : (h : HomeState) (m : List ℕ) (p : ℕ) → Shape h → Shape (port_read h m p).device
unfolding port_read
read_shape h m p g =
    let c = h.raster.v_counter in
    carried g (front_read h.front m p c).device h.raster h.cram_dirty (ap length (read_registers h.front m p c))
