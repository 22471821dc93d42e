-- From a fresh device, after any port calls, the address is below 16,384, and below 64 where the palette is chosen.
-- Assumes nothing.
use Rattle.std.specs.Prelude.{None, Option, Some, ℕ}
use Prim.Native.Nat.{ℕ, ◌%◌, ◌<◌}
use mathlib.Core.Path.{◌≡◌}
use mathlib.Core.List.{List, [], ◌∷◌}
use lib.Dec.{eqb}
use native.Mathlib.Omega.{arith}
use Rattle.laws.proofs.Tests.{either}
use Rattle.vdp.specs.declared.VdpState.{VdpState}
use Rattle.front.specs.declared.Written.{Written}
use Rattle.front.specs.declared.WriteDest.{WriteDest}
use Rattle.front.specs.declared.WriteDest.TheVariants.{Vram, Cram}
use Rattle.vdp.specs.Device.{front_of, unlatched}
use Rattle.vdp.specs.Refusals.{size}
use Rattle.front.specs.Ports.{front_write}
use Rattle.vdp.specs.Ports.{odd_palette, palette_write, port_write, port_read}
use Rattle.front.proofs.Kept.{write_kept}
use Rattle.vdp.specs.Calls.{Call, write, read, World, after, after_all, start}
use Rattle.front.proofs.Invariant.{front_write_aimed, front_read_aimed}

-- the address lies in the memory that is chosen
abbrev pub Aimed : VdpState → Type 0
Aimed s = s.addr < size s.dest

-- ---- of the device
abbrev LeftBy : Written VdpState → Type 0
LeftBy a = Aimed a.device

odd_palette_lem : (l : Option ℕ) (s : VdpState) (v : ℕ) → s.dest ≡ (Some Cram) → Aimed s → LeftBy (odd_palette l s v)
odd_palette_lem None s v e h = h
odd_palette_lem (Some low) s v e h = rw e (omega arith)

palette_write_lem : (s : VdpState) (v : ℕ) → s.dest ≡ (Some Cram) → Aimed s → LeftBy (palette_write s v)
palette_write_lem s v e h = either LeftBy (eqb (s.addr % 2) 0) (λ _. rw e (omega arith)) (λ _. odd_palette_lem s.cram_byte1 s v e h)

pub write_aimed : (s : VdpState) (m : List ℕ) (p v : ℕ) → Aimed s → Aimed (port_write s m p v).answer.device
unfolding port_write
write_aimed s m p v h =
    let f = front_of s in
    let k = write_kept 64 f m p v in
    either LeftBy (front_write 64 f m p v).answer.palette
    (λ t. rw (k.palette t).answer (palette_write_lem (unlatched s) v (k.palette t).chosen h))
    (λ _. front_write_aimed 64 (omega arith) f m p v h)

pub read_aimed : (s : VdpState) (m : List ℕ) (p : ℕ) → Aimed s → Aimed (port_read s m p).device
unfolding port_read
read_aimed s m p h = front_read_aimed 64 (omega arith) (front_of s) m p s.raster.v_counter h

one_call : (k : World) (c : Call) → Aimed k.device → Aimed (after k c).device
unfolding after
one_call k (write p v) h = write_aimed k.device k.vram p v h
one_call k (read p) h = read_aimed k.device k.vram p h

all_calls : (cs : List Call) (k : World) → Aimed k.device → Aimed (after_all k cs).device
unfolding after_all
all_calls [] k h = h
all_calls (c ∷ cs) k h = all_calls cs (after k c) (one_call k c h)

size_below : (d : Option WriteDest) (a : ℕ) → a < size d → a < 16384
size_below None a h = h
size_below (Some Vram) a h = h
size_below (Some Cram) a h = omega arith

from_start : (cs : List Call) → Aimed (after_all start cs).device
unfolding start
from_start cs = all_calls cs start (omega arith)

pub address_below : (cs : List Call) → (after_all start cs).device.addr < 16384
address_below cs = size_below (after_all start cs).device.dest (after_all start cs).device.addr (from_start cs)

pub palette_address_below : (cs : List Call) → (after_all start cs).device.dest ≡ (Some Cram) → (after_all start cs).device.addr < 64
palette_address_below cs e = rw e at (from_start cs)
