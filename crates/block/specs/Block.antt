-- R7.5, R7.6: the state block, a device as 219 or 220 bytes: mark, status, registers (from 3 on), the raster, address, read buffer, chosen memory, the two
-- latches, scroll, dirty, palette (from 27 on), cache (from 91 on) and, in its second version, the table (219).
-- Assumes nothing.
use Rattle.std.specs.Prelude.{ℕ, ◌/◌, ◌%◌, ◌<◌, ◌≡◌, List, [], ◌∷◌, ◌++◌, Bool, cond, ◌||◌, ◌&&◌, length, take, drop, leb, eqb}
use Rattle.laws.specs.Lists.{at}
use Rattle.raster.specs.declared.LineTable.{LineTable}
use Rattle.raster.specs.declared.LineTable.TheVariants.{Steps261, Steps262}
use Rattle.raster.specs.Raster.{line_table_number, line_table_from}
use Rattle.vdp.specs.declared.VdpState.{VdpState}
use Rattle.vdp.specs.Device.{made}
use Rattle.fields.specs.Fields.{flag_of, flag_from, chosen_of, chosen_from, latch_flag, latch_byte, latch_from, latch_fits}
use Rattle.fields.specs.Stored.{address_in}
use Rattle.block_parts.specs.Parts.{registers_in, raster_in, colour_bytes, colours_from, fields_fit}

-- R7.5: the bytes of the first version, which knows table 0 alone, and of the second; so its length n tells a block's version, and its mark
abbrev pub old_size : ℕ
old_size = 219

abbrev pub block_size : ℕ
block_size = 220

abbrev pub sized : ℕ → Bool
sized n = eqb n old_size || eqb n block_size

abbrev pub mark_of : ℕ → ℕ
mark_of n = cond (eqb n old_size) 0x53 0x54

-- the lengths that have room for a device of this table
abbrev pub fits : LineTable → ℕ → Bool
fits Steps261 n = sized n
fits Steps262 n = eqb n block_size

-- ---- the block of a device, n bytes long: bytes 0 to 2, the registers, bytes 14 to 26, the palette, the cache, the table
unfoldable pub head : ℕ → VdpState → List ℕ
head n s = 0x56 ∷ mark_of n ∷ s.status ∷ []

unfoldable pub small : VdpState → List ℕ
small s =
    s.raster.v_counter
    ∷ flag_of s.raster.v_counter_jumped
    ∷ s.raster.line_interrupt_counter
    ∷ s.addr % 256
    ∷ s.addr / 256
    ∷ s.vram_buffer
    ∷ chosen_of s.dest
    ∷ latch_flag s.cmd_byte1
    ∷ latch_byte s.cmd_byte1
    ∷ latch_flag s.cram_byte1
    ∷ latch_byte s.cram_byte1
    ∷ s.raster.vertical_scroll
    ∷ flag_of s.cram_dirty
    ∷ []

unfoldable pub last : ℕ → VdpState → List ℕ
last n s = cond (eqb n old_size) [] (line_table_number s.raster.table ∷ [])

unfoldable pub block_of : ℕ → VdpState → List ℕ
block_of n s = head n s ++ (s.reg ++ (small s ++ (s.cram ++ (colour_bytes s.color_cache ++ last n s))))

-- ---- the device of a block that is well formed (the first version has no byte 219, which reads as 0: table 0)
unfoldable pub state_of : List ℕ → VdpState
state_of b =
    record {
      status = at b 2;
      reg = registers_in b;
      raster = raster_in 25 (line_table_from (at b 219)) b;
      addr = address_in b;
      vram_buffer = at b 19;
      dest = chosen_from (at b 20);
      cram = take 64 (drop 27 b);
      cmd_byte1 = latch_from (at b 21) (at b 22);
      cram_byte1 = latch_from (at b 23) (at b 24);
      cram_dirty = flag_from (at b 26);
      color_cache = colours_from 91 b;
    }

-- ---- R7.6: the length, the mark that fits it, the flags, the table and the bytes under empty latches are right
abbrev pub marked : List ℕ → Bool
marked b = eqb (at b 0) 0x56 && eqb (at b 1) (mark_of (length b))

abbrev pub flagged : List ℕ → Bool
flagged b = leb (at b 23) 1 && leb (at b 26) 1 && leb (at b 219) 1

unfoldable pub well_formed : List ℕ → Bool
well_formed b = sized (length b) && (marked b && fields_fit b && flagged b && latch_fits (at b 23) (at b 24))

-- what a fresh device of table t leaves in b: b's own version, or b as it is where it has no room for it
unfoldable pub fresh_in : LineTable → List ℕ → List ℕ
fresh_in t b = cond (fits t (length b)) (block_of (length b) (made t)) b

-- what a device has whose block they make
pub record Sized (s : VdpState) : Type 0 where
  pub registers : length s.reg ≡ 11
  pub palette : length s.cram ≡ 64

-- What every device of the program has: eleven registers, 64 palette bytes and 32 cached colours; and each palette byte, each colour and the byte
-- that waits for the palette is of its own size.
pub record Shape (s : VdpState) : Type 0 where
  pub registers : length s.reg ≡ 11
  pub palette : length s.cram ≡ 64
  pub cache : length s.color_cache ≡ 32
  pub byte : (i : ℕ) → at s.cram i < 256
  pub latched : latch_byte s.cram_byte1 < 256
  pub colour : (i : ℕ) → at s.color_cache i < 4294967296
