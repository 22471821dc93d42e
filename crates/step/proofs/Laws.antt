-- What a step does to each part of the device, what a refused one leaves, and which bytes a step can change.
-- Assumes nothing.
use Rattle.std.specs.Prelude.{None, Option, Some, ℕ, Ok}
use mathlib.Core.Path.{◌≡◌, refl, sym, ap, ◌∙◌}
use mathlib.Core.Logic.{◌≢◌}
use mathlib.Core.Bool.{Bool, true, false, cond, ◌&&◌, ◌||◌, or-false}
use mathlib.Core.List.{List}
use Prim.Native.Nat.{ℕ, ◌+◌, ◌≤◌}
use lib.Bits.{bit_or, or_zero_r}
use lib.ListN.{length, take, drop}
use Rattle.laws.specs.Bits.{bit}
use Rattle.laws.specs.Lists.{row_of}
use Rattle.laws.proofs.Bits.{bit-or}
use Rattle.picture.specs.declared.RenderArea.{RenderArea}
use Rattle.picture.specs.Screen.{row_size, frame_size, status_bits}
use Rattle.picture.specs.Area.{screen_of}
use Rattle.raster.specs.declared.Raster.{Raster}
use Rattle.raster.specs.Raster.{advanced, line_interrupt, counted, ticked}
use Rattle.vdp.specs.declared.VdpState.{VdpState}
use Rattle.vdp.specs.Device.{device, with_raster, with_status}
use Rattle.refusal.specs.Refusals.{Line, first}
use Rattle.refusal.proofs.Tables.{Passed, under_either, under_passed, under_refused, under_told}
use Rattle.points.specs.declared.VdpInt.TheVariants.{NoInterrupt, InterruptGenerated}
use Rattle.points.specs.declared.Stepped.{Stepped}
use Rattle.points.specs.Points.{risen, row_on, coming_picture, bits_of, at_end, ended_by, report_by, interrupt_by, points_of, row_lines, frame_lines}
use Rattle.step.specs.Step.{register, line_of, colours_now, row_picture, reading_of, counter_up, cleaned, stepped, refused_step, step_with}
use Rattle.step.specs.Frame.{drawn_bytes, row_after, frame_after}
use Rattle.points.proofs.Laws.{row_points_length, row_points_past, row_points_none, row_points_here}
use Rattle.points.proofs.Laws.{frame_points_length, frame_points_other, frame_points_none, frame_points_here}

-- ---- refusals
-- a step is refused by the first line of its table that holds
pub step_exact : (ls : List Line) (a : RenderArea) (vram : List ℕ) (d : VdpState) → (step_with ls a vram d).outcome ≡ first ls
unfolding step_with stepped points_of
step_exact ls a vram d = under_told (λ (s : Stepped VdpState). s.outcome) ls (λ r. refused_step r d) (stepped a vram d) (λ r. refl) refl

module _ (ls : List Line) (a : RenderArea) (vram : List ℕ) (d : VdpState) where
  pub step_accepted : Passed ls → step_with ls a vram d ≡ stepped a vram d
  unfolding step_with
  step_accepted p = under_passed ls (λ r. refused_step r d) (stepped a vram d) p

  -- a refused step gives no interrupt, no display report, no row, and leaves the device
  abbrev Left : Stepped VdpState → Type 0
  Left s = s.outcome ≢ (Ok tt) → s ≡ refused_step s.outcome d

  pub step_left : (step_with ls a vram d).outcome ≢ (Ok tt) → step_with ls a vram d ≡ refused_step (step_with ls a vram d).outcome d
  unfolding step_with stepped points_of
  step_left = under_either Left ls (λ r. refused_step r d) (stepped a vram d) (λ r n. refl) (λ p n. absurd (n refl))

-- ---- the device after an accepted step, part by part: r is the row that the step draws, d the device with its counter up
abbrev pub status_drawn : Option ℕ → RenderArea → List ℕ → VdpState → ℕ
status_drawn None a vram d = d.status
status_drawn (Some y) a vram d = bit_or d.status (status_bits (row_picture a vram d y))

-- the status after the row and, at C1, with bit 7
abbrev pub status_after : Option ℕ → RenderArea → List ℕ → VdpState → ℕ
status_after r a vram d = cond (at_end (line_of d)) (bit_or (status_drawn r a vram d) 0x80) (status_drawn r a vram d)

abbrev pub dirty_after : Option ℕ → VdpState → Bool
dirty_after None d = d.cram_dirty
dirty_after (Some y) d = false

abbrev pub cache_after : Option ℕ → VdpState → List ℕ
cache_after None d = d.color_cache
cache_after (Some y) d = colours_now d

module _ (a : RenderArea) (vram : List ℕ) (d : VdpState) where
  abbrev left : Option ℕ → VdpState
  left r =
      device (status_after r a vram (counter_up d)) d.reg (ticked (register d) d.raster) d.addr d.vram_buffer d.dest d.cram
      d.cmd_byte1
      d.cram_byte1 (dirty_after r d) (cache_after r d)

  -- the status that the points leave, with the row r
  abbrev last : Option ℕ → ℕ
  last r = ended_by (line_of (counter_up d)) (bit_or d.status (bits_of r (coming_picture (screen_of a) vram (reading_of d))))

  left_by : (r : Option ℕ) → with_raster (with_status (cleaned r d (colours_now d)) (last r)) (counted (register d) (risen (reading_of d))) ≡ left r
  unfolding bits_of ended_by ticked
  left_by None = rw (or_zero_r d.status)
  left_by (Some y) = refl

  module _ {r : Option ℕ} (e : row_on (screen_of a) (line_of (counter_up d)) ≡ r) where
    pub stepped_vdp :
        (stepped a vram d).device
        ≡ device (status_after r a vram (counter_up d)) d.reg (ticked (register d) d.raster) d.addr d.vram_buffer d.dest d.cram
        d.cmd_byte1 d.cram_byte1 (dirty_after r d) (cache_after r d)
    unfolding stepped points_of
    stepped_vdp = rw e (left_by r)

    pub stepped_status : (stepped a vram d).device.status ≡ status_after r a vram (counter_up d)
    stepped_status = ap (λ (x : VdpState). x.status) stepped_vdp

    pub stepped_cache : (stepped a vram d).device.color_cache ≡ cache_after r d
    stepped_cache = ap (λ (x : VdpState). x.color_cache) stepped_vdp

    pub stepped_dirty : (stepped a vram d).device.cram_dirty ≡ dirty_after r d
    stepped_dirty = ap (λ (x : VdpState). x.cram_dirty) stepped_vdp

    pub stepped_row : (stepped a vram d).row ≡ r
    unfolding stepped points_of
    stepped_row = e

  pub stepped_refusal : (stepped a vram d).outcome ≡ (Ok tt)
  unfolding stepped points_of
  stepped_refusal = refl

  pub stepped_report : (stepped a vram d).report ≡ report_by d.reg (line_of (counter_up d))
  unfolding stepped points_of
  stepped_report = refl

  pub stepped_raster : (stepped a vram d).device.raster ≡ ticked (register d) d.raster
  stepped_raster = ap (λ (x : VdpState). x.raster) (stepped_vdp refl)

  pub stepped_table : (stepped a vram d).device.raster.table ≡ d.raster.table
  unfolding ticked counted advanced
  stepped_table = ap (λ (x : Raster). x.table) stepped_raster

  pub stepped_line : line_of (stepped a vram d).device ≡ line_of (counter_up d)
  unfolding ticked counted
  stepped_line = ap (λ (x : Raster). x.v_counter) stepped_raster

  pub stepped_reg : (stepped a vram d).device.reg ≡ d.reg
  stepped_reg = ap (λ (x : VdpState). x.reg) (stepped_vdp refl)

  pub stepped_addr : (stepped a vram d).device.addr ≡ d.addr
  stepped_addr = ap (λ (x : VdpState). x.addr) (stepped_vdp refl)

  pub stepped_buffer : (stepped a vram d).device.vram_buffer ≡ d.vram_buffer
  stepped_buffer = ap (λ (x : VdpState). x.vram_buffer) (stepped_vdp refl)

  pub stepped_dest : (stepped a vram d).device.dest ≡ d.dest
  stepped_dest = ap (λ (x : VdpState). x.dest) (stepped_vdp refl)

  pub stepped_cram : (stepped a vram d).device.cram ≡ d.cram
  stepped_cram = ap (λ (x : VdpState). x.cram) (stepped_vdp refl)

  pub stepped_command : (stepped a vram d).device.cmd_byte1 ≡ d.cmd_byte1
  stepped_command = ap (λ (x : VdpState). x.cmd_byte1) (stepped_vdp refl)

  pub stepped_palette_byte : (stepped a vram d).device.cram_byte1 ≡ d.cram_byte1
  stepped_palette_byte = ap (λ (x : VdpState). x.cram_byte1) (stepped_vdp refl)

  -- the interrupt, by the status that the step leaves and the line count before it goes down
  pub stepped_interrupt :
      (stepped a vram d).interrupt
      ≡ cond ((bit (register d 1) 5 && bit (stepped a vram d).device.status 7) || line_interrupt (register d) (advanced (register d) d.raster))
      InterruptGenerated NoInterrupt
  unfolding stepped points_of interrupt_by
  stepped_interrupt = refl

-- ---- bit 7 of the status: set before, or by the end of the screen
low_bits : (hit ninth : Bool) → bit (cond hit 32 0 + cond ninth 64 0) 7 ≡ false
unfolding bit
low_bits true true = refl
low_bits true false = refl
low_bits false true = refl
low_bits false false = refl

drawn_end : (r : Option ℕ) (a : RenderArea) (vram : List ℕ) (d : VdpState) → bit (status_drawn r a vram d) 7 ≡ bit d.status 7
drawn_end None a vram d = refl
drawn_end (Some y) a vram d =
    let p = row_picture a vram d y in
    bit-or d.status (status_bits p) 7 ∙ ap (λ (b : Bool). bit d.status 7 || b) (low_bits p.hit p.ninth) ∙ or-false (bit d.status 7)

end_bit : (t : Bool) (s : ℕ) → bit (cond t (bit_or s 0x80) s) 7 ≡ (bit s 7 || t)
unfolding bit
end_bit true s = bit-or s 0x80 7
end_bit false s = sym (or-false (bit s 7))

pub stepped_end : (a : RenderArea) (vram : List ℕ) (d : VdpState) → bit (stepped a vram d).device.status 7 ≡
    (bit d.status 7 || at_end (line_of (counter_up d)))
stepped_end a vram d =
    let r = row_on (screen_of a) (line_of (counter_up d)) in
    ap (λ (s : ℕ). bit s 7) (stepped_status a vram d {r = r} refl)
    ∙ end_bit (at_end (line_of (counter_up d))) (status_drawn r a vram (counter_up d))
    ∙ ap (λ (b : Bool). b || at_end (line_of (counter_up d))) (drawn_end r a vram (counter_up d))

-- ---- R4.8: no step changes the table, refused or not
pub step_table : (ls : List Line) (a : RenderArea) (vram : List ℕ) (d : VdpState) → (step_with ls a vram d).device.raster.table ≡ d.raster.table
unfolding step_with
step_table ls a vram d =
    under_either (λ (s : Stepped VdpState). s.device.raster.table ≡ d.raster.table) ls (λ r. refused_step r d) (stepped a vram d) (λ r. refl)
    (λ p. stepped_table a vram d)

-- ---- and of a device
module _ (a : RenderArea) (vram : List ℕ) (d : VdpState) (b : List ℕ) where
  pub row_step_length : length (row_after a vram d b) ≡ length b
  unfolding row_after
  row_step_length = row_points_length (screen_of a) vram (reading_of d) b

  pub row_step_past : drop (row_size (screen_of a)) (row_after a vram d b) ≡ drop (row_size (screen_of a)) b
  unfolding row_after
  row_step_past = row_points_past (screen_of a) vram (reading_of d) b

  pub row_step_none : row_on (screen_of a) (line_of (counter_up d)) ≡ None → row_after a vram d b ≡ b
  unfolding row_after
  row_step_none e = row_points_none (screen_of a) vram (reading_of d) b e

  pub row_step_refused : first (row_lines (screen_of a) vram (length b)) ≢ (Ok tt) → row_after a vram d b ≡ b
  unfolding row_after
  row_step_refused n = under_refused (row_lines (screen_of a) vram (length b)) (λ r. b) _ n

  pub row_step_here :
      (y : ℕ) → length vram ≡ 16384 → row_size (screen_of a) ≤ length b → row_on (screen_of a) (line_of (counter_up d)) ≡ Some y
      → take (row_size (screen_of a)) (row_after a vram d b) ≡ drawn_bytes a vram (counter_up d) y
  unfolding row_after
  row_step_here y m h e = row_points_here (screen_of a) vram (reading_of d) b y m h e

module _ (a : RenderArea) (vram : List ℕ) (d : VdpState) (f : List ℕ) where
  pub frame_step_length : length (frame_after a vram d f) ≡ length f
  unfolding frame_after
  frame_step_length = frame_points_length (screen_of a) vram (reading_of d) f

  pub frame_step_other : (z : ℕ) → row_on (screen_of a) (line_of (counter_up d)) ≢ Some z → row_of (row_size (screen_of a)) z (frame_after a vram d f) ≡
      row_of (row_size (screen_of a)) z f
  unfolding frame_after
  frame_step_other z n = frame_points_other (screen_of a) vram (reading_of d) f z n

  pub frame_step_none : row_on (screen_of a) (line_of (counter_up d)) ≡ None → frame_after a vram d f ≡ f
  unfolding frame_after
  frame_step_none e = frame_points_none (screen_of a) vram (reading_of d) f e

  pub frame_step_refused : first (frame_lines (screen_of a) vram (length f)) ≢ (Ok tt) → frame_after a vram d f ≡ f
  unfolding frame_after
  frame_step_refused n = under_refused (frame_lines (screen_of a) vram (length f)) (λ r. f) _ n

  pub frame_step_here :
      (y : ℕ) → length vram ≡ 16384 → length f ≡ frame_size (screen_of a) → row_on (screen_of a) (line_of (counter_up d)) ≡ Some y
      → row_of (row_size (screen_of a)) y (frame_after a vram d f) ≡ drawn_bytes a vram (counter_up d) y
  unfolding frame_after
  frame_step_here y m h e = frame_points_here (screen_of a) vram (reading_of d) f y m h e
