-- The author's program, answered.
-- Assumes nothing.
use Rattle.std.specs.Prelude.{None, Option, Some, ℕ, Ok}
use mathlib.Core.Path.{◌≡◌, refl, sym, ◌∙◌, ap, subst}
use mathlib.Core.Logic.{◌↔◌, ◌≢◌}
use mathlib.Core.Bool.{true}
use mathlib.Core.List.{List}
use Prim.Native.Nat.{ℕ, zero, suc, ◌+◌, ◌-◌, ◌*◌, ◌%◌, ◌≤◌, ◌<◌}
use native.Mathlib.Nat.{zero-add, add-suc}
use native.Mathlib.Omega.{arith}
use lib.Dec.{leb}
use lib.ListN.{length, take, drop, set, replicate, length-replicate}
use lib.Seq.{get_or-take, get_or-drop}
use borrow.Author.Tests.{eq-eqb, ne_eqb, leb-true, leb-false}
use Rattle.laws.specs.Lists.{at, row_of}
use Rattle.laws.specs.Paint.{byte_of_colour}
use Rattle.laws.proofs.Tests.{split}
use Rattle.colour.specs.Colour.{colour, colours_of}
use Rattle.colour.proofs.Laws.{colours_at_lem}
use Rattle.picture.specs.declared.RenderArea.TheVariants.{VisibleOnly}
use Rattle.picture.specs.Area.{screen_of}
use Rattle.raster.specs.declared.LineTable.{LineTable}
use Rattle.raster.specs.Raster.{jump_to, pass_length, starts, advanced}
use Rattle.raster.proofs.Tables.{jump_back, pass_is}
use Rattle.front.specs.declared.Front.{Front}
use Rattle.front.specs.declared.FrontWritten.{FrontWritten}
use Rattle.vdp.specs.declared.VdpState.{VdpState}
use Rattle.front.specs.declared.WriteDest.TheVariants.{Cram}
use Rattle.front.specs.Front.{with_command, emptied, choosing, command_by, command_write, data_write}
use Rattle.vdp.specs.Device.{made, fresh, front_of, with_front, with_addr, with_palette_byte}
use Rattle.refusal.specs.Refusals.{whole}
use Rattle.front.specs.Ports.{front_write}
use Rattle.vdp.specs.Ports.{stored, written_by, port_write}
use Rattle.step.specs.Step.{frame_lines, frame_step_of}
use Rattle.demands.specs.Handheld.{after, handheld}
use Rattle.passes.specs.Pass.{Run, watched, device_after, then, until, ready, answer, frame_at, pass, line_set, picture_at}
use Rattle.passes.specs.Split.{New, Split, pixel_at_end, Twins, Changed}
use Rattle.demands.specs.Author.{recoloured, Asks, AsksNot, new_palette, Answered, number_at, WhichBytes, asked, unasked}
use Rattle.points.proofs.Laws.{frame_passes, frame_memory}
use Rattle.step.proofs.Laws.{stepped_reg, stepped_cram, stepped_command}
use Rattle.demands.proofs.Steps.{frame_taken, accepts}
use Rattle.passes.proofs.Lines.{line_next}
use Rattle.passes.proofs.Demand3.{after_step, line_of_lem, scroll_at}
use Rattle.passes.proofs.Chart.{own_place}
use Rattle.passes.proofs.Split.{rising, set_row, four_at_lem}
use Rattle.passes.proofs.Shows.{scroll_waits}
use Rattle.demands.proofs.Handheld.{handheld_lawful, steps, other_colours, new_rows_visible, changed_visible}

-- the palette, the registers of a fresh device, and that no command byte is latched
record Holds (d : VdpState) (p : List ℕ) : Type 0 where
  cram : d.cram ≡ p
  reg : d.reg ≡ fresh.reg
  latch : d.cmd_byte1 ≡ None

-- ---- the four writes, on any device with no byte latched
module _ (m : List ℕ) (w : whole m ≡ true) where
  command : (f : Front) (v : ℕ) → (front_write 64 f m 0xBF v).answer ≡ command_write 64 f m v
  unfolding front_write
  command f v = rw w

  byte : (f : Front) (v : ℕ) → (front_write 64 f m 0xBE v).answer ≡ (data_write 64 f m v).answer
  unfolding front_write
  byte f v = rw w

  abbrev told : VdpState → ℕ → ℕ → VdpState
  told d p v = (port_write d m p v).answer.device

  -- what the front answers, on its device
  by_front : (d : VdpState) (p v : ℕ) {a : FrontWritten} → (front_write 64 (front_of d) m p v).answer ≡ a → told d p v ≡ (written_by d v a).device
  unfolding port_write
  by_front d p v e = ap (λ (a : FrontWritten). (written_by d v a).device) e

  -- the device with byte 6 latched, and with the palette chosen at 6
  abbrev waiting : VdpState → VdpState
  waiting d = with_front d (with_command (front_of d) (Some 6))

  abbrev aimed : VdpState → VdpState
  aimed d = with_front d (choosing (emptied (front_of d)) (Some Cram) 6)

  first : (d : VdpState) → d.cmd_byte1 ≡ None → told d 0xBF 0x06 ≡ waiting d
  first d e = by_front d 0xBF 6 (command (front_of d) 6 ∙ ap (λ (l : Option ℕ). command_by l 64 (front_of d) m 6) e)

  chosen : (d : VdpState) → d.cmd_byte1 ≡ None → told (told d 0xBF 0x06) 0xBF 0xC0 ≡ aimed d
  chosen d e =
      ap (λ (x : VdpState). told x 0xBF 0xC0) (first d e) ∙ by_front (waiting d) 0xBF 0xC0 (command (front_of (waiting d)) 0xC0)

  low_byte : (d : VdpState) (low : ℕ) → told (aimed d) 0xBE low ≡ with_addr (with_palette_byte (aimed d) (Some low)) 7
  low_byte d low = by_front (aimed d) 0xBE low (byte (front_of (aimed d)) low)

  high_byte :
      (d : VdpState) (low high : ℕ) → told (with_addr (with_palette_byte (aimed d) (Some low)) 7) 0xBE high
      ≡ with_addr (stored (with_addr (with_palette_byte (aimed d) (Some low)) 7) 7 low (high % 16)) 8
  high_byte d low high =
      let x = with_addr (with_palette_byte (aimed d) (Some low)) 7 in
      by_front x 0xBE high (byte (front_of x) high)

  recolours : (d : VdpState) (p : List ℕ) (low high : ℕ) → Holds d p → Holds (told (told (told (told d 0xBF 0x06) 0xBF 0xC0) 0xBE low) 0xBE high)
      (set (set p 6 low) 7 (high % 16))
  recolours d p low high k =
      let e =
      ap (λ (x : VdpState). told (told x 0xBE low) 0xBE high) (chosen d k.latch)
      ∙ ap (λ (x : VdpState). told x 0xBE high) (low_byte d low)
      ∙ high_byte d low high
      in
      subst (λ (x : VdpState). Holds x (set (set p 6 low) 7 (high % 16))) (sym e)
      record { cram = ap (λ (q : List ℕ). set (set q 6 low) 7 (high % 16)) k.cram; reg = k.reg; latch = refl }

-- a step keeps all three
step_holds : (r : Run handheld VisibleOnly) (i : ℕ) (p : List ℕ) → Holds (ready r i) p → Holds (answer r i).device p
step_holds r i p k =
    rw (steps r i)
    record {
      cram = stepped_cram VisibleOnly (r.vram i) (ready r i) ∙ k.cram;
      reg = stepped_reg VisibleOnly (r.vram i) (ready r i) ∙ k.reg;
      latch = stepped_command VisibleOnly (r.vram i) (ready r i) ∙ k.latch;
    }

-- ---- a run that is so
module _ (low high : ℕ) (r : Run handheld VisibleOnly) (q : Asks low high (watched r)) where
  abbrev t : LineTable
  t = r.table

  abbrev old : List ℕ
  old = (made t).cram

  abbrev new : List ℕ
  new = new_palette low high t

  early : (i : ℕ) → i ≤ 89 → Holds (ready r i) old
  early zero h = subst (λ (d : VdpState). Holds d old) (sym q.fresh) (record { cram = refl; reg = refl; latch = refl })
  early (suc i) h =
      subst (λ (d : VdpState). Holds d old) (sym (q.on i (λ e. omega arith))) (step_holds r i old (early i (omega arith)))

  whole_90 : whole (r.vram 90) ≡ true
  whole_90 =
      eq-eqb (length (r.vram 90)) 16384
      (frame_memory (screen_of VisibleOnly) (r.vram 90) (length r.frame)
      (frame_taken VisibleOnly (r.vram 90) (length r.frame) fresh (r.accepted 90 fresh)))

  written : Holds (ready r 90) new
  unfolding after
  written =
      subst (λ (d : VdpState). Holds d new) (sym q.writes)
      (recolours (r.vram 90) whole_90 (answer r 89).device old low high (step_holds r 89 old (early 89 (omega arith))))

  late : (k : ℕ) → Holds (ready r (90 + k)) new
  late zero = written
  late (suc k) =
      rw (add-suc 90 k)
      (subst (λ (d : VdpState). Holds d new) (sym (q.on (90 + k) (λ e. omega arith))) (step_holds r (90 + k) new (late k)))

  first_line_lem : line_set (watched r) 0 ≡ 1
  first_line_lem = line_of_lem handheld_lawful r 0 ∙ line_next (ready r 0).raster 0 (ap (λ (d : VdpState). d.raster.v_counter) q.fresh) (omega arith)

  -- step i sets line i + 1, as far as the jump
  line_at : (i : ℕ) → suc i < jump_to → line_set (watched r) i ≡ suc i
  line_at i h =
      subst (λ (n : ℕ). line_set (watched r) n ≡ line_set (watched r) 0 + i) (zero-add i) (rising handheld_lawful r 0 i (omega (arith, first_line_lem))) ∙
      omega (arith, first_line_lem)

  long : 213 < pass (watched r)
  long = omega (arith, pass_is t, jump_back t)

  the_split : Split (watched r) 90 old new
  the_split =
      record {
        moment = record { step = 89; in_pass = omega (arith, long); sets = line_at 89 (omega arith) };
        until_then = λ i h. (early i h).cram;
        from_then = λ i h _.
            let e : 90 + (i - 90) ≡ i = omega arith in
            subst (λ (n : ℕ). (ready r n).cram ≡ new) e (late (i - 90)).cram;
      }

  registers_at : (i : ℕ) → (ready r i).reg ≡ fresh.reg
  registers_at i =
      split (leb i 89)
      (λ t. (early i (leb-true i 89 t)).reg)
      (λ t.
      let h : 89 < i = leb-false i 89 t in
      let e : 90 + (i - 90) ≡ i = omega arith in
      subst (λ (n : ℕ). (ready r n).reg ≡ fresh.reg) e (late (i - 90)).reg)

  -- it begins with line 1, and line 90 is its own place: the rows from 67 on
  the_rows : (y : ℕ) → y < 144 → New the_split.moment y ↔ (67 ≤ y)
  the_rows y h =
      rw (
        own_place handheld_lawful r 0 1 (omega arith) first_line_lem,
        own_place handheld_lawful r the_split.moment.step 90 (omega arith)
            the_split.moment.sets,
      )
      ((new_rows_visible t).from_top 1 90 y (omega arith) (omega arith) (omega (arith, long)) h)

  -- nothing is scrolled
  scroll_0 : (i : ℕ) → suc i < jump_to → (watched r).scroll i ≡ 0
  unfolding advanced starts
  scroll_0 i h =
      scroll_waits handheld_lawful r 0 i (omega arith) (λ j l u e. omega (arith, e, line_at j (omega arith)))
      ∙ sym (scroll_at handheld_lawful r 0)
      ∙ ap (λ (d : VdpState). (advanced (at d.reg) d.raster).vertical_scroll) q.fresh

  picture_is : (x y : ℕ) → y < 144 → (picture_at (watched r) (y + 23) y).colour x ≡ number_at t r.vram x y
  picture_is x y h = rw (registers_at (y + 23), scroll_0 (y + 23) (omega arith))

  -- ---- beside one without the writes
  module _ (r₀ : Run handheld VisibleOnly) (q₀ : AsksNot (watched r) (watched r₀)) where
    always_old : (i : ℕ) → Holds (ready r₀ i) old
    always_old zero =
        subst (λ (d : VdpState). Holds d old) (sym (q₀.fresh ∙ ap made q₀.table)) (record { cram = refl; reg = refl; latch = refl })
    always_old (suc i) = subst (λ (d : VdpState). Holds d old) (sym (q₀.on i)) (step_holds r₀ i old (always_old i))

    twins : Twins (watched r) (watched r₀)
    twins =
        record {
          start = ap (λ (d : VdpState). d.raster) (q.fresh ∙ ap made (sym q₀.table) ∙ sym q₀.fresh);
          memory = λ i _. sym (q₀.memory i);
          registers = λ i _. registers_at i ∙ sym (always_old i).reg;
        }

    the_change : Changed the_split (watched r₀) 3
    the_change = changed_visible r r₀ twins the_split (λ i _. (always_old i).cram) 3 (other_colours 3 old low (high % 16))

    pub answered : Answered low high (watched r) (watched r₀)
    answered =
        record {
          split = the_split;
          changed = the_change;
          new_rows_lem = the_rows;
          new_colour = colours_at_lem new 3 (omega arith);
        }

    -- a byte of a frame, in its pixel
    byte_in : (f : List ℕ) (x y j : ℕ) → x < 160 → j < 4 → at f (640 * y + 4 * x + j) ≡ at (row_of 4 x (row_of 640 y f)) j
    unfolding row_of
    byte_in f x y j h l =
        let e : 640 * y + 4 * x + j ≡ 640 * y + (4 * x + j) = omega arith in
        rw e
        (sym
        (get_or-take 4 (drop (4 * x) (take 640 (drop (640 * y) f))) j 0 l
        ∙ get_or-drop (4 * x) (take 640 (drop (640 * y) f)) j 0
        ∙ get_or-take 640 (drop (640 * y) f) (4 * x + j) 0 (omega arith)
        ∙ get_or-drop (640 * y) f (4 * x + j) 0))

    same_end : pass (watched r₀) ≡ pass (watched r)
    same_end = ap pass_length q₀.table

    module _ (x y j : ℕ) (h : x < 160) (k : y < 144) (l : j < 4) where
      drawn : (answer r (y + 23)).row ≡ Some y
      drawn = set_row handheld_lawful r (y + 23) y k (line_at (y + 23) (omega arith) ∙ omega arith)

      -- the byte with the writes and without, in its pixel
      there : at (frame_at r (pass (watched r))) (640 * y + 4 * x + j) ≡ at (pixel_at_end (watched r) x y) j
      there = byte_in (frame_at r (pass (watched r))) x y j h l

      there₀ : at (frame_at r₀ (pass (watched r))) (640 * y + 4 * x + j) ≡ at (pixel_at_end (watched r₀) x y) j
      there₀ = rw (← same_end) (byte_in (frame_at r₀ (pass (watched r₀))) x y j h l)

      these :
          67 ≤ y → number_at t r.vram x y ≡ 3 →
          (at (frame_at r (pass (watched r))) (640 * y + 4 * x + j) ≡ byte_of_colour (colour low (high % 16)) j)
          × (at (frame_at r₀ (pass (watched r))) (640 * y + 4 * x + j) ≡ byte_of_colour (colour 0 0) j)
      these u n =
          let c = the_change.these (y + 23) x y (omega (arith, long)) drawn h ((the_rows y k).1 u) (picture_is x y k ∙ n) in (
            there ∙ ap (λ (p : List ℕ). at p j) c.0 ∙ four_at_lem (at (colours_of new) 3) j l ∙ ap (λ (v : ℕ). byte_of_colour v j)
                (colours_at_lem new 3 (omega arith)),
            there₀ ∙ ap (λ (p : List ℕ). at p j) c.1 ∙ four_at_lem (at (colours_of old) 3) j l ∙ ap (λ (v : ℕ). byte_of_colour v j)
                (colours_at_lem old 3 (omega arith)),
          )

      others :
          (67 ≤ y → number_at t r.vram x y ≢ 3) → at (frame_at r (pass (watched r))) (640 * y + 4 * x + j) ≡ at (frame_at r₀ (pass (watched r)))
          (640 * y + 4 * x + j)
      others n =
          let c = the_change.no_others (y + 23) x y (omega (arith, long)) drawn h (λ w e. n ((the_rows y k).0 w) (sym (picture_is x y k) ∙ e)) in
          there ∙ ap (λ (p : List ℕ). at p j) c ∙ sym there₀

    pub which_bytes : WhichBytes low high (watched r) (watched r₀)
    which_bytes = record { these = λ x y j h u k l. these x y j h k l u; no_others = λ x y j h k l. others x y j h k l }

-- ---- such runs there are
module _
    (t : LineTable) (vram : ℕ → List ℕ) (frame : List ℕ)
    (accepted : (i : ℕ) (d : VdpState) → (frame_step_of VisibleOnly (vram i) (length frame) d).outcome ≡ (Ok tt)) (low high : ℕ)
  where
    abbrev run : Run handheld VisibleOnly
    run = asked t vram frame accepted low high

    abbrev run₀ : Run handheld VisibleOnly
    run₀ = unasked t vram frame accepted low high

    -- but for step 90 nothing is called before a step
    nothing : (i : ℕ) → suc i ≢ 90 → ready run (suc i) ≡ (answer run i).device
    unfolding ready until then
    nothing i n = rw (ne_eqb (suc i) 90 n) (after_step handheld_lawful run i)

    asks : Asks low high (watched run)
    unfolding ready until then device_after
    asks = record { fresh = refl; on = nothing; writes = ap (recoloured low high (vram 90)) (after_step handheld_lawful run 89) }

    asks_not : AsksNot (watched run) (watched run₀)
    unfolding ready until then device_after
    asks_not = record { table = refl; memory = λ i. refl; fresh = refl; on = after_step handheld_lawful run₀ }

    pub asked_answered : Answered low high (watched run) (watched run₀)
    asked_answered = answered low high run asks run₀ asks_not

-- with zeroed memory, on a zeroed frame
zeros : List ℕ
zeros = replicate 92160 0

frame_length : length zeros ≡ 92160
unfolding zeros
frame_length = length-replicate {A = ℕ} 92160 0

memory : List ℕ
memory = replicate 16384 0

memory_length : length memory ≡ 16384
unfolding memory
memory_length = length-replicate {A = ℕ} 16384 0

zeros_accepted : (i : ℕ) (d : VdpState) → (frame_step_of VisibleOnly memory (length zeros) d).outcome ≡ (Ok tt)
zeros_accepted i d =
    accepts (frame_lines VisibleOnly memory (length zeros)) VisibleOnly memory d
    (frame_passes (screen_of VisibleOnly) memory (length zeros) memory_length frame_length)

zeros_answered : (t : LineTable) (low high : ℕ) → Answered low high (watched (asked t (λ i. memory) zeros zeros_accepted low high))
    (watched (unasked t (λ i. memory) zeros zeros_accepted low high))
zeros_answered t low high = asked_answered t (λ i. memory) zeros zeros_accepted low high
