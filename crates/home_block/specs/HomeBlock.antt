-- R21.2, R21.3: the home machine's state block, a device as 186 bytes: mark, status, registers (from 3 on), the raster, address, read buffer, chosen memory
-- and command latch (to 22) as in the handheld's; then scroll, dirty, table, palette (from 26 on) and cache (from 58 on).
-- Assumes nothing.
use Rattle.std.specs.Prelude.{ℕ, ◌/◌, ◌%◌, ◌<◌, ◌≡◌, List, [], ◌∷◌, ◌++◌, Bool, ◌&&◌, length, take, drop, leb, eqb}
use Rattle.laws.specs.Lists.{at}
use Rattle.raster.specs.Raster.{line_table_number, line_table_from}
use Rattle.fields.specs.Fields.{flag_of, flag_from, chosen_of, latch_flag, latch_byte}
use Rattle.fields.specs.Stored.{front_in}
use Rattle.block_parts.specs.Parts.{raster_in, colour_bytes, colours_from, fields_fit}
use Rattle.home.specs.declared.HomeState.{HomeState}
use Rattle.home.specs.Home.{home, palette_size}

abbrev pub block_size : ℕ
block_size = 186

-- ---- the block of a device: bytes 0 to 2, the registers, bytes 14 to 25, the palette, the cache
unfoldable pub head : HomeState → List ℕ
head h = 0x56 ∷ 0x48 ∷ h.front.status ∷ []

unfoldable pub small : HomeState → List ℕ
small h =
    h.raster.v_counter
    ∷ flag_of h.raster.v_counter_jumped
    ∷ h.raster.line_interrupt_counter
    ∷ h.front.addr % 256
    ∷ h.front.addr / 256
    ∷ h.front.vram_buffer
    ∷ chosen_of h.front.dest
    ∷ latch_flag h.front.cmd_byte1
    ∷ latch_byte h.front.cmd_byte1
    ∷ h.raster.vertical_scroll
    ∷ flag_of h.cram_dirty
    ∷ line_table_number h.raster.table
    ∷ []

unfoldable pub block_of : HomeState → List ℕ
block_of h = head h ++ (h.front.reg ++ (small h ++ (h.cram ++ (colour_bytes h.color_cache ++ []))))

-- ---- the device of a block that is well formed
unfoldable pub state_of : List ℕ → HomeState
state_of b =
    home (front_in b) (raster_in 23 (line_table_from (at b 25)) b) (take palette_size (drop 26 b)) (flag_from (at b 24)) (colours_from 58 b)

-- ---- R21.3: the length, the mark, the flags, the table and the byte under an empty latch are right
abbrev pub marked : List ℕ → Bool
marked b = eqb (at b 0) 0x56 && eqb (at b 1) 0x48

unfoldable pub well_formed : List ℕ → Bool
well_formed b = eqb (length b) block_size && (marked b && fields_fit b && leb (at b 24) 1 && leb (at b 25) 1)

-- what a device has whose block they make, and what every device of the program has
pub record Sized (h : HomeState) : Type 0 where
  pub registers : length h.front.reg ≡ 11
  pub palette : length h.cram ≡ palette_size

pub record Shape (h : HomeState) : Type 0 where
  pub sized : Sized h
  pub cache : length h.color_cache ≡ 32
  pub byte : (i : ℕ) → at h.cram i < 256
  pub colour : (i : ℕ) → at h.color_cache i < 4294967296
