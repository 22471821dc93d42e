-- A device that is stored in a block is read back, and a well-formed block of bytes is the block of the device that it holds.
-- Assumes nothing.
use mathlib.Core.Path.{◌≡◌, refl, sym, ap, ◌∙◌}
use mathlib.Core.Bool.{true}
use mathlib.Core.List.{List, [], ◌++◌}
use Prim.Native.Nat.{ℕ, zero, suc, ◌+◌, ◌*◌, ◌/◌, ◌%◌, ◌≤◌, ◌<◌}
use native.Mathlib.Omega.{arith}
use lib.Dec.{leb}
use lib.ListN.{length, take, drop, drop_of_length-le}
use Rattle.laws.specs.Lists.{at}
use Rattle.laws.specs.Table.{table_from}
use Rattle.laws.proofs.Parts.{part_table}
use Rattle.raster.specs.declared.LineTable.{LineTable}
use Rattle.raster.specs.declared.LineTable.TheVariants.{Steps261, Steps262}
use Rattle.raster.specs.Raster.{line_table_number, line_table_from}
use Rattle.fields.specs.Fields.{flag_from, chosen_from, latch_flag, latch_from}
use Rattle.fields.specs.Stored.{front_in}
use Rattle.fields.proofs.Fields.{flag_back, flag_ok, flag_in, chosen_back, chosen_ok, chosen_in, latch_back, latch_ok, latch_flag_in, latch_byte_in}
use Rattle.fields.proofs.Fields.{byte_ok, address_back}
use Rattle.block_parts.specs.Parts.{registers_in, colour_bytes, colours_from}
use Rattle.block_parts.proofs.Copies.{length-colour_bytes, colours_back, colours_in_lem}
use Rattle.block_parts.proofs.Fields.{fit}
use Rattle.block_parts.proofs.Format.{parts, small_at, cache_at, registers_of, palette_of, length_whole}
use Rattle.home.specs.declared.HomeState.{HomeState}
use Rattle.home_block.specs.HomeBlock.{block_size, head, small, block_of, state_of, well_formed, Shape}
use Rattle.home_block.proofs.Whole.{length-head, length-small, said}

-- ---- the table
number_ok : (t : LineTable) → leb (line_table_number t) 1 ≡ true
number_ok Steps261 = refl
number_ok Steps262 = refl

number_back : (t : LineTable) → line_table_from (line_table_number t) ≡ t
number_back Steps261 = refl
number_back Steps262 = refl

number_in : (x : ℕ) → x ≤ 1 → line_table_number (line_table_from x) ≡ x
number_in zero h = refl
number_in (suc zero) h = refl
number_in (suc (suc x)) h = absurd (omega arith)

-- ---- a device is read back
module _ (h : HomeState) (g : Shape h) where
  abbrev cached : List ℕ
  cached = colour_bytes h.color_cache

  byte : (k : ℕ) {x : ℕ} → at (small h ++ (h.cram ++ (cached ++ []))) k ≡ x → at (block_of h) (14 + k) ≡ x
  unfolding block_of
  byte k e =
      small_at (head h) h.front.reg (small h) h.cram cached [] 12 32 (length-head h) g.sized.registers (length-small h) g.sized.palette
      (length-colour_bytes h.color_cache) k
      ∙ e

  cache_back : colours_from 58 (block_of h) ≡ h.color_cache
  unfolding block_of
  cache_back =
      colours_back 58 (block_of h) h.color_cache g.cache g.colour
      (cache_at (head h) h.front.reg (small h) h.cram cached [] 12 32 (length-head h) g.sized.registers (length-small h) g.sized.palette
      (length-colour_bytes h.color_cache))

  registers_back : registers_in (block_of h) ≡ h.front.reg
  unfolding block_of
  registers_back =
      registers_of (head h) h.front.reg (small h) h.cram cached [] 12 32 (length-head h) g.sized.registers (length-small h) g.sized.palette
      (length-colour_bytes h.color_cache)

  palette_back : take 32 (drop 26 (block_of h)) ≡ h.cram
  unfolding block_of
  palette_back =
      palette_of (head h) h.front.reg (small h) h.cram cached [] 12 32 (length-head h) g.sized.registers (length-small h) g.sized.palette
      (length-colour_bytes h.color_cache)

  head_back : (at (block_of h) 0 ≡ 0x56) × (at (block_of h) 1 ≡ 0x48) × (at (block_of h) 2 ≡ h.front.status)
  unfolding block_of head
  head_back = (refl, refl, refl)

  pub state_back : state_of (block_of h) ≡ h
  unfolding state_of front_in small
  state_back =
      let k : List ℕ = block_of h in
      λ i. record {
        front =
            record {
              status = head_back.2 i;
              reg = registers_back i;
              addr = (ap (λ (x : ℕ). x + 256 * at k 18) (byte 3 refl) ∙ ap (λ (x : ℕ). h.front.addr % 256 + 256 * x) (byte 4 refl) ∙ address_back
                  h.front.addr) i;
              vram_buffer = byte 5 refl i;
              dest = (ap chosen_from (byte 6 refl) ∙ chosen_back h.front.dest) i;
              cmd_byte1 = (ap (λ (x : ℕ). latch_from x (at k 22)) (byte 7 refl) ∙ ap (latch_from (latch_flag h.front.cmd_byte1)) (byte 8 refl)
                  ∙ latch_back h.front.cmd_byte1) i;
            };
        raster =
            record {
              v_counter = byte 0 refl i;
              v_counter_jumped = (ap flag_from (byte 1 refl) ∙ flag_back h.raster.v_counter_jumped) i;
              line_interrupt_counter = byte 2 refl i;
              vertical_scroll = byte 9 refl i;
              table = (ap line_table_from (byte 11 refl) ∙ number_back h.raster.table) i;
            };
        cram = palette_back i;
        cram_dirty = (ap flag_from (byte 10 refl) ∙ flag_back h.cram_dirty) i;
        color_cache = cache_back i;
      }

  pub length_block : length (block_of h) ≡ block_size
  unfolding block_of
  length_block =
      length_whole (head h) h.front.reg (small h) h.cram cached [] 12 32 (length-head h) g.sized.registers (length-small h) g.sized.palette
      (length-colour_bytes h.color_cache)

  pub good_block : well_formed (block_of h) ≡ true
  unfolding well_formed small
  good_block =
      rw (
        length_block,
        head_back.0,
        head_back.1,
        byte 1 refl,
        byte 6 refl,
        byte 7 refl,
        byte 8 refl,
        byte 10 refl,
        byte 11 refl,
      )
      (rw (
        flag_ok h.raster.v_counter_jumped,
        chosen_ok h.front.dest,
        latch_ok h.front.cmd_byte1,
        byte_ok h.front.cmd_byte1,
        flag_ok h.cram_dirty,
        number_ok h.raster.table,
      ))

-- ---- a well-formed block is the block of its device
module _ (b : List ℕ) (w : well_formed b ≡ true) (bytes : (i : ℕ) → at b i < 256) where
  head_in : head (state_of b) ≡ take 3 (drop 0 b)
  unfolding head state_of front_in table_from
  head_in = rw (← (said b w).mark_0, ← (said b w).mark_1) (part_table 3 0 b (omega (arith, (said b w).long)))

  small_in : small (state_of b) ≡ take 12 (drop 14 b)
  unfolding small state_of front_in table_from
  small_in =
      let low : (at b 17 + 256 * at b 18) % 256 ≡ at b 17 = omega (arith, bytes 17) in
      let high : (at b 17 + 256 * at b 18) / 256 ≡ at b 18 = omega (arith, bytes 17) in
      let f = fit b (said b w).fields in
      rw (
        flag_in (at b 15) f.flag_15,
        low,
        high,
        chosen_in (at b 20) f.chosen_20,
        latch_flag_in (at b 21) (at b 22) f.flag_21,
        latch_byte_in (at b 21) (at b 22) f.command,
        flag_in (at b 24) (said b w).flag_24,
        number_in (at b 25) (said b w).table_25,
      )
      (part_table 12 14 b (omega (arith, (said b w).long)))

  pub block_back : block_of (state_of b) ≡ b
  unfolding block_of state_of front_in
  block_back =
      let short : length b ≤ 186 = omega (arith, (said b w).long) in
      rw (head_in, small_in, colours_in_lem 58 b bytes (omega (arith, (said b w).long)), ← drop_of_length-le b short) (sym (parts 12 32 b))
