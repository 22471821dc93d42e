-- The parts that either machine's state block has (R7.5, R21.2): registers, raster and small fields at the same places, scroll, dirty flag, palette and cache
-- at places of the machine's own.
-- Assumes nothing.
use Rattle.std.specs.Prelude.{ℕ, ◌+◌, ◌*◌, ◌/◌, ◌%◌, List, Bool, ◌&&◌, take, drop, set, replicate, leb}
use Rattle.std.proofs.Math.Seq.{paste}
use Rattle.laws.specs.Lists.{at}
use Rattle.laws.specs.Paint.{byte_of_colour, four_at}
use Rattle.laws.specs.Table.{table}
use Rattle.raster.specs.declared.Raster.{Raster}
use Rattle.raster.specs.declared.LineTable.{LineTable}
use Rattle.fields.specs.Fields.{flag_of, flag_from, latch_fits}

-- ---- what is read
abbrev pub registers_in : List ℕ → List ℕ
registers_in b = take 11 (drop 3 b)

-- the raster, whose scroll stands at place k, with this table
abbrev pub raster_in : ℕ → LineTable → List ℕ → Raster
raster_in k t b =
    record {
      v_counter = at b 14;
      v_counter_jumped = flag_from (at b 15);
      line_interrupt_counter = at b 16;
      vertical_scroll = at b k;
      table = t;
    }

-- the cache: the four bytes of each colour, and the colours that stand from place k on
unfoldable pub colour_bytes : List ℕ → List ℕ
colour_bytes cs = table 128 (λ k. byte_of_colour (at cs (k / 4)) (k % 4))

unfoldable pub colour_at : List ℕ → ℕ → ℕ
colour_at b i = four_at b i

unfoldable pub colours_from : ℕ → List ℕ → List ℕ
colours_from k b = table 32 (λ i. colour_at b (k + 4 * i))

-- ---- R7.6: what is asked of the bytes that both have: the jump flag, the chosen memory, the command latch and what stands under it
abbrev pub fields_fit : List ℕ → Bool
fields_fit b = leb (at b 15) 1 && leb (at b 20) 2 && leb (at b 21) 1 && latch_fits (at b 21) (at b 22)

-- ---- what is stored: a status and a raster, whose scroll stands at place k (the table stays: no call changes it), and clean colours from place k on, with
-- the dirty flag at place d
abbrev pub raster_stored : ℕ → ℕ → Raster → List ℕ → List ℕ
raster_stored k status r b =
    set
    (set (set (set (set b 2 status) 14 r.v_counter) 15 (flag_of r.v_counter_jumped)) 16 r.line_interrupt_counter)
    k r.vertical_scroll

abbrev pub cache_stored : ℕ → ℕ → List ℕ → List ℕ → List ℕ
cache_stored k d colours b = set (paste b k (colour_bytes colours) 128) d 0

-- R3.2: the n bytes of a fresh block that are not 0, but for the table: the mark, whose second byte is m, the registers, and the dirty flag at place d
abbrev pub stamped : ℕ → ℕ → ℕ → List ℕ
stamped n m d =
    set (set (set (set (set (set (set (set (set (replicate n 0) 0 0x56) 1 m) 5 0xFF) 6 0xFF) 7 0xFF) 8 0xFF) 9 0xFF) 13 1) d 1
