-- R3.1, R3.2: the device record, fresh, and with one field changed.
-- Assumes nothing.
use Rattle.std.specs.Prelude.{ℕ, List, Bool, true, false, replicate, None, Option}
use Rattle.raster.specs.declared.Raster.{Raster}
use Rattle.raster.specs.declared.LineTable.{LineTable}
use Rattle.raster.specs.declared.LineTable.TheVariants.{Steps262}
use Rattle.raster.specs.Raster.{fresh_raster}
use Rattle.laws.specs.Sizes.{cram_size}
use Rattle.front.specs.declared.Front.{Front}
use Rattle.vdp.specs.declared.VdpState.{VdpState}
use Rattle.front.specs.declared.WriteDest.{WriteDest}
use Rattle.front.specs.Front.{fresh_front, front, emptied}

-- R3.1: the record of these fields, in the order of the Rust's `VdpState`
abbrev pub device : ℕ → List ℕ → Raster → ℕ → ℕ → Option WriteDest → List ℕ → Option ℕ → Option ℕ → Bool → List ℕ → VdpState
device status reg raster addr buffer dest cram command half dirty cache =
    record {
      status = status;
      reg = reg;
      raster = raster;
      addr = addr;
      vram_buffer = buffer;
      dest = dest;
      cram = cram;
      cmd_byte1 = command;
      cram_byte1 = half;
      cram_dirty = dirty;
      color_cache = cache;
    }

-- R3.2: as it is made, with table t
abbrev pub made : LineTable → VdpState
made t =
    device fresh_front.status fresh_front.reg (fresh_raster t) fresh_front.addr fresh_front.vram_buffer fresh_front.dest
    (replicate cram_size 0) fresh_front.cmd_byte1 None true (replicate 32 0)

-- R4.8: with no table named, that of the chart
abbrev pub fresh : VdpState
fresh = made Steps262

-- ---- the part of it that the ports work on, and the same device with another
abbrev pub front_of : VdpState → Front
front_of d = front d.status d.reg d.addr d.vram_buffer d.dest d.cmd_byte1

abbrev pub with_front : VdpState → Front → VdpState
with_front d f =
    device f.status f.reg d.raster f.addr f.vram_buffer f.dest
    d.cram f.cmd_byte1 d.cram_byte1 d.cram_dirty d.color_cache

-- R2.2: with its command latch empty
abbrev pub unlatched : VdpState → VdpState
unlatched d = with_front d (emptied (front_of d))

-- ---- the same device with another palette latch, and so on
abbrev pub with_palette_byte : VdpState → Option ℕ → VdpState
with_palette_byte d l =
    device d.status d.reg d.raster d.addr d.vram_buffer d.dest d.cram d.cmd_byte1 l d.cram_dirty d.color_cache

abbrev pub with_addr : VdpState → ℕ → VdpState
with_addr d a =
    device d.status d.reg d.raster a d.vram_buffer d.dest d.cram d.cmd_byte1 d.cram_byte1 d.cram_dirty d.color_cache

abbrev pub with_status : VdpState → ℕ → VdpState
with_status d s =
    device s d.reg d.raster d.addr d.vram_buffer d.dest d.cram d.cmd_byte1 d.cram_byte1 d.cram_dirty d.color_cache

abbrev pub with_raster : VdpState → Raster → VdpState
with_raster d x =
    device d.status d.reg x d.addr d.vram_buffer d.dest d.cram d.cmd_byte1 d.cram_byte1 d.cram_dirty d.color_cache

-- the palette, and whether the cache is behind it; the cache, and that it is not
abbrev pub with_palette : VdpState → List ℕ → Bool → VdpState
with_palette d p behind =
    device d.status d.reg d.raster d.addr d.vram_buffer d.dest p d.cmd_byte1 d.cram_byte1 behind d.color_cache

abbrev pub with_cache : VdpState → List ℕ → VdpState
with_cache d c = device d.status d.reg d.raster d.addr d.vram_buffer d.dest d.cram d.cmd_byte1 d.cram_byte1 false c
