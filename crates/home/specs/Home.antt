-- R20.2, R20.8: the home machine's record, fresh, and with one part changed.
-- Assumes nothing.
use Rattle.std.specs.Prelude.{ℕ, List, Bool, true, false, replicate}
use Rattle.raster.specs.declared.Raster.{Raster}
use Rattle.raster.specs.declared.LineTable.{LineTable}
use Rattle.raster.specs.declared.LineTable.TheVariants.{Steps262}
use Rattle.front.specs.declared.Front.{Front}
use Rattle.raster.specs.Raster.{fresh_raster}
use Rattle.front.specs.Front.{fresh_front, front, choosing}
use Rattle.home.specs.declared.HomeState.{HomeState}

-- R20.2: the bytes of the palette
abbrev pub palette_size : ℕ
palette_size = 32

-- R20.8: the record of these parts
abbrev pub home : Front → Raster → List ℕ → Bool → List ℕ → HomeState
home f raster cram dirty cache = record { front = f; raster = raster; cram = cram; cram_dirty = dirty; color_cache = cache }

-- R3.2: as it is made, with table t
abbrev pub made : LineTable → HomeState
made t = home fresh_front (fresh_raster t) (replicate palette_size 0) true (replicate 32 0)

-- with no table named, table 1
abbrev pub fresh : HomeState
fresh = made Steps262

-- ---- the same device with another front, and so on
abbrev pub with_front : HomeState → Front → HomeState
with_front h f = home f h.raster h.cram h.cram_dirty h.color_cache

abbrev pub with_addr : HomeState → ℕ → HomeState
with_addr h a = with_front h (choosing h.front h.front.dest a)

abbrev pub with_status : HomeState → ℕ → HomeState
with_status h s = with_front h (front s h.front.reg h.front.addr h.front.vram_buffer h.front.dest h.front.cmd_byte1)

abbrev pub with_raster : HomeState → Raster → HomeState
with_raster h x = home h.front x h.cram h.cram_dirty h.color_cache

-- the palette, and whether the cache is behind it; the cache, and that it is not
abbrev pub with_palette : HomeState → List ℕ → Bool → HomeState
with_palette h p behind = home h.front h.raster p behind h.color_cache

abbrev pub with_cache : HomeState → List ℕ → HomeState
with_cache h c = home h.front h.raster h.cram false c
