-- A device that is stored in a block is read back, and a well-formed block of bytes is the block of the device that it holds.
-- Assumes nothing.
use mathlib.Core.Path.{◌≡◌, refl, sym, ap, ◌∙◌}
use mathlib.Core.Bool.{true, ◌&&◌}
use mathlib.Core.List.{List, [], ◌∷◌, ◌++◌}
use Prim.Native.Nat.{ℕ, zero, suc, ◌+◌, ◌*◌, ◌/◌, ◌%◌, ◌<◌, ◌≤◌}
use native.Mathlib.Omega.{arith}
use borrow.Author.Tests.{eq-eqb, eqb-true, leb-true}
use lib.Dec.{eqb, leb}
use lib.ListN.{length, take, drop, length-drop, drop_of_length-le}
use lib.Seq.{get_or-drop}
use Rattle.laws.specs.Lists.{at}
use Rattle.laws.specs.Table.{table_from}
use Rattle.laws.proofs.Parts.{part_table}
use Rattle.laws.proofs.Tests.{both, either, split}
use Rattle.raster.specs.declared.LineTable.{LineTable}
use Rattle.raster.specs.declared.LineTable.TheVariants.{Steps261, Steps262}
use Rattle.raster.specs.Raster.{line_table_number, line_table_from}
use Rattle.vdp.specs.declared.VdpState.{VdpState}
use Rattle.fields.specs.Fields.{flag_from, chosen_from, latch_flag, latch_from, latch_fits}
use Rattle.fields.proofs.Fields.{flag_back, flag_ok, flag_in, chosen_back, chosen_ok, chosen_in, latch_back, latch_ok, latch_flag_in, latch_byte_in}
use Rattle.fields.proofs.Fields.{byte_ok, address_back}
use Rattle.block_parts.specs.Parts.{registers_in, colour_bytes, colours_from, fields_fit}
use Rattle.block_parts.proofs.Copies.{length-colour_bytes, colours_back, colours_in_lem}
use Rattle.block_parts.proofs.Fields.{fit}
use Rattle.block_parts.proofs.Format.{parts, small_at, cache_at, behind_at, registers_of, palette_of, length_whole}
use Rattle.block.specs.Block.{sized, mark_of, fits, last, head, small, block_of, state_of, marked, flagged, well_formed, Shape}
use Rattle.block.proofs.Whole.{length-head, length-small, last_old, last_new, length_last, fits_sized, length_of, long}

-- ---- the table
number_ok : (t : LineTable) → leb (line_table_number t) 1 ≡ true
number_ok Steps261 = refl
number_ok Steps262 = refl

-- ---- a device is read back
module _ (n : ℕ) (s : VdpState) (g : Shape s) where
  abbrev rest : List ℕ
  rest = s.cram ++ (colour_bytes s.color_cache ++ last n s)

  abbrev cached : List ℕ
  cached = colour_bytes s.color_cache

  field : (k : ℕ) → at (block_of n s) (14 + k) ≡ at (small s ++ rest) k
  unfolding block_of
  field =
      small_at (head n s) s.reg (small s) s.cram cached (last n s) 13 64 (length-head n s) g.registers (length-small s) g.palette
      (length-colour_bytes s.color_cache)

  table_byte : at (block_of n s) 219 ≡ at (last n s) 0
  unfolding block_of
  table_byte =
      behind_at (head n s) s.reg (small s) s.cram cached (last n s) 13 64 (length-head n s) g.registers (length-small s) g.palette
      (length-colour_bytes s.color_cache) 0

  cache_back : colours_from 91 (block_of n s) ≡ s.color_cache
  unfolding block_of
  cache_back =
      colours_back 91 (block_of n s) s.color_cache g.cache g.colour
      (cache_at (head n s) s.reg (small s) s.cram cached (last n s) 13 64 (length-head n s) g.registers (length-small s) g.palette
      (length-colour_bytes s.color_cache))

  registers_back : registers_in (block_of n s) ≡ s.reg
  unfolding block_of
  registers_back =
      registers_of (head n s) s.reg (small s) s.cram cached (last n s) 13 64 (length-head n s) g.registers (length-small s) g.palette
      (length-colour_bytes s.color_cache)

  palette_back : take 64 (drop 27 (block_of n s)) ≡ s.cram
  unfolding block_of
  palette_back =
      palette_of (head n s) s.reg (small s) s.cram cached (last n s) 13 64 (length-head n s) g.registers (length-small s) g.palette
      (length-colour_bytes s.color_cache)

  -- what each byte from 14 to 26 is
  byte : (k : ℕ) {x : ℕ} → at (small s ++ rest) k ≡ x → at (block_of n s) (14 + k) ≡ x
  byte k e = field k ∙ e

  status_back : at (block_of n s) 2 ≡ s.status
  unfolding block_of head
  status_back = refl

  module _ (room : fits s.raster.table n ≡ true) where
    table_of : (t : LineTable) → s.raster.table ≡ t → fits t n ≡ true → line_table_from (at (last n s) 0) ≡ t
    table_of Steps261 e h =
        split (eqb n 219)
        (λ o. rw (last_old n s (eqb-true n 219 o)))
        (λ o. rw (last_new n s (eqb-true n 220 (rw o at h)), e))
    table_of Steps262 e h = rw (last_new n s (eqb-true n 220 h), e)

    table_back : line_table_from (at (block_of n s) 219) ≡ s.raster.table
    table_back = ap line_table_from table_byte ∙ table_of s.raster.table refl room

  pub state_back : fits s.raster.table n ≡ true → state_of (block_of n s) ≡ s
  unfolding state_of small
  state_back room =
      let k : List ℕ = block_of n s in
      λ i. record {
        status = status_back i;
        reg = registers_back i;
        raster =
            record {
              v_counter = byte 0 refl i;
              v_counter_jumped = (ap flag_from (byte 1 refl) ∙ flag_back s.raster.v_counter_jumped) i;
              line_interrupt_counter = byte 2 refl i;
              vertical_scroll = byte 11 refl i;
              table = table_back room i;
            };
        addr = (ap (λ (x : ℕ). x + 256 * at k 18) (byte 3 refl) ∙ ap (λ (x : ℕ). s.addr % 256 + 256 * x) (byte 4 refl) ∙ address_back s.addr) i;
        vram_buffer = byte 5 refl i;
        dest = (ap chosen_from (byte 6 refl) ∙ chosen_back s.dest) i;
        cram = palette_back i;
        cmd_byte1 = (ap (λ (x : ℕ). latch_from x (at k 22)) (byte 7 refl) ∙ ap (latch_from (latch_flag s.cmd_byte1)) (byte 8 refl) ∙ latch_back
            s.cmd_byte1) i;
        cram_byte1 = (ap (λ (x : ℕ). latch_from x (at k 24)) (byte 9 refl) ∙ ap (latch_from (latch_flag s.cram_byte1)) (byte 10 refl) ∙
            latch_back s.cram_byte1) i;
        cram_dirty = (ap flag_from (byte 12 refl) ∙ flag_back s.cram_dirty) i;
        color_cache = cache_back i;
      }

  pub length_block : sized n ≡ true → length (block_of n s) ≡ n
  unfolding block_of
  length_block h =
      length_whole (head n s) s.reg (small s) s.cram cached (last n s) 13 64 (length-head n s) g.registers (length-small s) g.palette
      (length-colour_bytes s.color_cache)
      ∙ length_last n s h

  mark_back : (at (block_of n s) 0 ≡ 0x56) × (at (block_of n s) 1 ≡ mark_of n)
  unfolding block_of head
  mark_back = (refl, refl)

  -- byte 219 is a table's number, or is not there
  table_ok : leb (at (block_of n s) 219) 1 ≡ true
  unfolding last
  table_ok = rw table_byte (either (λ (l : List ℕ). leb (at l 0) 1 ≡ true) (eqb n 219) (λ _. refl) (λ _. number_ok s.raster.table))

  pub good_block : fits s.raster.table n ≡ true → well_formed (block_of n s) ≡ true
  unfolding well_formed small
  good_block room =
      let h : sized n ≡ true = fits_sized s.raster.table n room in
      rw (
        length_block h,
        h,
        mark_back.0,
        mark_back.1,
        eq-eqb (mark_of n) (mark_of n) refl,
        byte 1 refl,
        byte 6 refl,
        byte 7 refl,
        byte 8 refl,
        byte
            9 refl,
        byte 10 refl,
        byte 12 refl,
        table_ok,
      )
      (rw (
        flag_ok s.raster.v_counter_jumped,
        chosen_ok s.dest,
        latch_ok s.cmd_byte1,
        latch_ok s.cram_byte1,
        flag_ok
            s.cram_dirty,
        byte_ok s.cmd_byte1,
        byte_ok s.cram_byte1,
      ))

-- ---- a well-formed block is the block of its device
number_in : (x : ℕ) → x ≤ 1 → line_table_number (line_table_from x) ≡ x
number_in zero h = refl
number_in (suc zero) h = refl
number_in (suc (suc x)) h = absurd (omega arith)

one_left : (l : List ℕ) → length l ≡ 1 → l ≡ at l 0 ∷ []
one_left [] h = absurd (omega arith)
one_left (x ∷ []) h = refl
one_left (x ∷ y ∷ l) h = absurd (omega arith)

module _ (b : List ℕ) (w : well_formed b ≡ true) where
  -- what well formed says, part by part
  pub record Said : Type 0 where
    pub mark_0 : at b 0 ≡ 0x56
    pub mark_1 : at b 1 ≡ mark_of (length b)
    pub fields : fields_fit b ≡ true
    pub flag_15 : at b 15 ≤ 1
    pub chosen_20 : at b 20 ≤ 2
    pub flag_21 : at b 21 ≤ 1
    pub flag_23 : at b 23 ≤ 1
    pub flag_26 : at b 26 ≤ 1
    pub table_219 : at b 219 ≤ 1
    pub command : latch_fits (at b 21) (at b 22) ≡ true
    pub palette : latch_fits (at b 23) (at b 24) ≡ true

  pub said : Said
  unfolding well_formed
  said =
      let p = latch_fits (at b 23) (at b 24) in
      let all = (both (sized (length b)) (marked b && fields_fit b && flagged b && p) w).1 in
      let three = both (marked b && fields_fit b && flagged b) p all in
      let two = both (marked b && fields_fit b) (flagged b) three.0 in
      let one = both (marked b) (fields_fit b) two.0 in
      let mark = both (eqb (at b 0) 0x56) (eqb (at b 1) (mark_of (length b))) one.0 in
      let t23 = leb (at b 23) 1 in
      let t26 = leb (at b 26) 1 in
      let f219 = both (t23 && t26) (leb (at b 219) 1) two.1 in
      let f26 = both t23 t26 f219.0 in
      let f = fit b one.1 in
      record {
        mark_0 = eqb-true (at b 0) 0x56 mark.0;
        mark_1 = eqb-true (at b 1) (mark_of (length b)) mark.1;
        fields = one.1;
        flag_15 = f.flag_15;
        chosen_20 = f.chosen_20;
        flag_21 = f.flag_21;
        flag_23 = leb-true (at b 23) 1 f26.0;
        flag_26 = leb-true (at b 26) 1 f26.1;
        table_219 = leb-true (at b 219) 1 f219.1;
        command = f.command;
        palette = three.1;
      }

module _ (b : List ℕ) (w : well_formed b ≡ true) (bytes : (i : ℕ) → at b i < 256) where
  head_in : head (length b) (state_of b) ≡ take 3 (drop 0 b)
  unfolding head state_of table_from
  head_in = rw (← (said b w).mark_0, ← (said b w).mark_1) (part_table 3 0 b (omega (arith, long b w)))

  small_in : small (state_of b) ≡ take 13 (drop 14 b)
  unfolding small state_of table_from
  small_in =
      let low : (at b 17 + 256 * at b 18) % 256 ≡ at b 17 = omega (arith, bytes 17) in
      let high : (at b 17 + 256 * at b 18) / 256 ≡ at b 18 = omega (arith, bytes 17) in
      rw (
        flag_in (at b 15) (said b w).flag_15,
        low,
        high,
        chosen_in (at b 20) (said b w).chosen_20,
        latch_flag_in (at b 21) (at b 22)
            (said b w).flag_21,
        latch_byte_in (at b 21) (at b 22) (said b w).command,
        latch_flag_in (at b 23) (at b 24) (said b w).flag_23,
        latch_byte_in (at b 23) (at b 24) (said b w).palette,
        flag_in (at b 26) (said b w).flag_26,
      )
      (part_table 13 14 b (omega (arith, long b w)))

  last_in : last (length b) (state_of b) ≡ drop 219 b
  unfolding state_of
  last_in =
      split (eqb (length b) 219)
      (λ t.
      let e : length b ≡ 219 = eqb-true (length b) 219 t in
      let h : length b ≤ 219 = omega arith in
      last_old (length b) (state_of b) e ∙ sym (drop_of_length-le b h))
      (λ t.
      let e : length b ≡ 220 = eqb-true (length b) 220 (rw t at (length_of b w)) in
      last_new (length b) (state_of b) e
      ∙ rw (number_in (at b 219) (said b w).table_219)
      (sym (one_left (drop 219 b) (simp length-drop (omega arith)) ∙ rw (get_or-drop 219 b 0 0))))

  -- the block of the device that a block holds
  pub block_back : block_of (length b) (state_of b) ≡ b
  unfolding block_of state_of
  block_back = rw (head_in, small_in, colours_in_lem 91 b bytes (omega (arith, long b w)), last_in) (sym (parts 13 64 b))
