-- What a step of the home machine does to each part of the device, what a refused one leaves, and which bytes a step can change.
-- Assumes nothing.
use Rattle.std.specs.Prelude.{None, Option, Some, ℕ, Ok}
use mathlib.Core.Path.{◌≡◌, refl, sym, ap, ◌∙◌}
use mathlib.Core.Logic.{◌≢◌}
use mathlib.Core.Bool.{Bool, false, cond, ◌&&◌, ◌||◌}
use mathlib.Core.List.{List}
use Prim.Native.Nat.{ℕ, ◌≤◌}
use lib.ListN.{length, take, drop}
use Rattle.laws.specs.Bits.{bit}
use Rattle.laws.specs.Lists.{row_of}
use Rattle.laws.proofs.Tests.{either}
use Rattle.colour.specs.Home.{home_colours_of}
use Rattle.picture.specs.declared.Screen.TheVariants.{Home}
use Rattle.picture.specs.Screen.{row_size, frame_size}
use Rattle.raster.specs.declared.Raster.{Raster}
use Rattle.raster.specs.Raster.{advanced, line_interrupt, counted, ticked}
use Rattle.front.specs.Front.{front}
use Rattle.refusal.specs.Refusals.{Line, first}
use Rattle.refusal.proofs.Tables.{Passed, Refusing, under_either, under_passed, under_refused, under_told, passed}
use Rattle.points.specs.declared.VdpInt.TheVariants.{NoInterrupt, InterruptGenerated}
use Rattle.points.specs.Points.{row_on, report_by, interrupt_by, points_of, row_lines, frame_lines}
use Rattle.points.proofs.Laws as Points
use Rattle.home.specs.declared.HomeState.{HomeState}
use Rattle.points.specs.declared.Stepped.{Stepped}
use Rattle.home.specs.Home.{home, with_raster, with_status}
use Rattle.home.specs.Step.{register, line_of, colours_now, reading_of, counter_up, cleaned, stepped, refused_step, step_with, row_step_of, frame_step_of}
use Rattle.home.specs.Step.{drawn_bytes, row_after, frame_after}
use Rattle.home.specs.Promises.{Aimed}
use Rattle.home.proofs.Kept.{Clean}

-- ---- refusals
-- a step is refused by the first line of its table that holds
pub step_exact : (ls : List Line) (vram : List ℕ) (h : HomeState) → (step_with ls vram h).outcome ≡ first ls
unfolding step_with stepped points_of
step_exact ls vram h = under_told (λ (s : Stepped HomeState). s.outcome) ls (λ r. refused_step r h) (stepped vram h) (λ r. refl) refl

module _ (ls : List Line) (vram : List ℕ) (h : HomeState) where
  pub step_accepted : Passed ls → step_with ls vram h ≡ stepped vram h
  unfolding step_with
  step_accepted p = under_passed ls (λ r. refused_step r h) (stepped vram h) p

  -- what holds of the device as it was, and after an accepted step, holds of the one that is left
  pub step_either : (P : HomeState → Type 0) → P h → (Passed ls → P (stepped vram h).device) → P (step_with ls vram h).device
  unfolding step_with
  step_either P f g = under_either (λ (s : Stepped HomeState). P s.device) ls (λ r. refused_step r h) (stepped vram h) (λ r. f) g

  -- a refused step gives no interrupt, no display report, no row, and leaves the device
  abbrev Left : Stepped HomeState → Type 0
  Left s = s.outcome ≢ (Ok tt) → s ≡ refused_step s.outcome h

  pub step_left : (step_with ls vram h).outcome ≢ (Ok tt) → step_with ls vram h ≡ refused_step (step_with ls vram h).outcome h
  unfolding step_with stepped points_of
  step_left = under_either Left ls (λ r. refused_step r h) (stepped vram h) (λ r n. refl) (λ p n. absurd (n refl))

  pub refused_raster : (step_with ls vram h).outcome ≢ (Ok tt) → (step_with ls vram h).device.raster ≡ h.raster
  refused_raster n = rw (step_left n)

  -- no line of an accepted step's table holds
  pub taken : Refusing ls → (step_with ls vram h).outcome ≡ (Ok tt) → Passed ls
  taken q e = passed ls q (sym (step_exact ls vram h) ∙ e)

  pub is_stepped : Refusing ls → (step_with ls vram h).outcome ≡ (Ok tt) → step_with ls vram h ≡ stepped vram h
  is_stepped q e = step_accepted (taken q e)

-- what an accepted step tells of its lines, and that on a frame of its frame and its memory
module _ (vram : List ℕ) (size : ℕ) (h : HomeState) where
  pub row_taken : (row_step_of vram size h).outcome ≡ (Ok tt) → Passed (row_lines Home vram size)
  row_taken e = taken (row_lines Home vram size) vram h (Points.row_refusing Home vram size) e

  pub frame_taken : (frame_step_of vram size h).outcome ≡ (Ok tt) → Passed (frame_lines Home vram size)
  frame_taken e = taken (frame_lines Home vram size) vram h (Points.frame_refusing Home vram size) e

  pub frame-fits : (frame_step_of vram size h).outcome ≡ (Ok tt) → size ≡ frame_size Home
  frame-fits e = Points.frame-fits Home vram size (frame_taken e)

  pub frame_memory : (frame_step_of vram size h).outcome ≡ (Ok tt) → length vram ≡ 16384
  frame_memory e = Points.frame_memory Home vram size (frame_taken e)

-- ---- the device after an accepted step, part by part: r is the row that the step draws
abbrev pub dirty_after : Option ℕ → HomeState → Bool
dirty_after None h = h.cram_dirty
dirty_after (Some y) h = false

abbrev pub cache_after : Option ℕ → HomeState → List ℕ
cache_after None h = h.color_cache
cache_after (Some y) h = colours_now h

module _ (vram : List ℕ) (h : HomeState) where
  -- the status that the points leave
  abbrev pub status_after : ℕ
  status_after = (points_of Home vram (reading_of h)).status

  -- with this row, status and raster of its points
  left_by :
      (r : Option ℕ) (status : ℕ) (x : Raster) → with_raster (with_status (cleaned r h (colours_now h)) status) x
      ≡ home (front status h.front.reg h.front.addr h.front.vram_buffer h.front.dest h.front.cmd_byte1) x h.cram
      (dirty_after r h)
      (cache_after r h)
  left_by None status x = refl
  left_by (Some y) status x = refl

  abbrev leaves : Option ℕ → HomeState
  leaves r =
      home (front status_after h.front.reg h.front.addr h.front.vram_buffer h.front.dest h.front.cmd_byte1)
      (ticked (register h) h.raster) h.cram (dirty_after r h) (cache_after r h)

  own : (stepped vram h).device ≡ leaves (row_on Home (line_of (counter_up h)))
  unfolding stepped points_of ticked
  own = left_by (row_on Home (line_of (counter_up h))) status_after (ticked (register h) h.raster)

  module _ {r : Option ℕ} (e : row_on Home (line_of (counter_up h)) ≡ r) where
    pub stepped_home :
        (stepped vram h).device
        ≡ home (front status_after h.front.reg h.front.addr h.front.vram_buffer h.front.dest h.front.cmd_byte1)
        (ticked (register h) h.raster) h.cram (dirty_after r h) (cache_after r h)
    stepped_home = own ∙ ap leaves e

    pub stepped_cache : (stepped vram h).device.color_cache ≡ cache_after r h
    stepped_cache = ap (λ (x : HomeState). x.color_cache) stepped_home

    pub stepped_dirty : (stepped vram h).device.cram_dirty ≡ dirty_after r h
    stepped_dirty = ap (λ (x : HomeState). x.cram_dirty) stepped_home

    pub stepped_row : (stepped vram h).row ≡ r
    unfolding stepped points_of
    stepped_row = e

  pub stepped_refusal : (stepped vram h).outcome ≡ (Ok tt)
  unfolding stepped points_of
  stepped_refusal = refl

  pub stepped_report : (stepped vram h).report ≡ report_by h.front.reg (line_of (counter_up h))
  unfolding stepped points_of
  stepped_report = refl

  pub stepped_raster : (stepped vram h).device.raster ≡ ticked (register h) h.raster
  stepped_raster = ap (λ (x : HomeState). x.raster) (stepped_home refl)

  pub stepped_cram : (stepped vram h).device.cram ≡ h.cram
  stepped_cram = ap (λ (x : HomeState). x.cram) (stepped_home refl)

  pub stepped_status : (stepped vram h).device.front.status ≡ status_after
  stepped_status = ap (λ (x : HomeState). x.front.status) (stepped_home refl)

  -- of the front the status alone changes
  pub stepped_reg : (stepped vram h).device.front.reg ≡ h.front.reg
  stepped_reg = ap (λ (x : HomeState). x.front.reg) (stepped_home refl)

  pub stepped_addr : (stepped vram h).device.front.addr ≡ h.front.addr
  stepped_addr = ap (λ (x : HomeState). x.front.addr) (stepped_home refl)

  pub stepped_buffer : (stepped vram h).device.front.vram_buffer ≡ h.front.vram_buffer
  stepped_buffer = ap (λ (x : HomeState). x.front.vram_buffer) (stepped_home refl)

  pub stepped_dest : (stepped vram h).device.front.dest ≡ h.front.dest
  stepped_dest = ap (λ (x : HomeState). x.front.dest) (stepped_home refl)

  pub stepped_command : (stepped vram h).device.front.cmd_byte1 ≡ h.front.cmd_byte1
  stepped_command = ap (λ (x : HomeState). x.front.cmd_byte1) (stepped_home refl)

  pub stepped_table : (stepped vram h).device.raster.table ≡ h.raster.table
  unfolding ticked counted advanced
  stepped_table = ap (λ (x : _). x.table) stepped_raster

  pub stepped_line : line_of (stepped vram h).device ≡ line_of (counter_up h)
  unfolding ticked counted
  stepped_line = ap (λ (x : _). x.v_counter) stepped_raster

  pub stepped_aimed : Aimed h → Aimed (stepped vram h).device
  stepped_aimed k = rw (stepped_addr, stepped_dest) k

  -- the interrupt, by the status that the step leaves and the line count before it goes down
  pub stepped_interrupt :
      (stepped vram h).interrupt
      ≡ cond ((bit (register h 1) 5 && bit (stepped vram h).device.front.status 7) || line_interrupt (register h) (advanced (register h) h.raster))
      InterruptGenerated NoInterrupt
  unfolding stepped points_of interrupt_by
  stepped_interrupt = refl

-- ---- colours: those that a row is drawn with are the palette's, and stay so
pub colours_now_lem : (h : HomeState) → Clean h → colours_now h ≡ home_colours_of h.cram
colours_now_lem h k = either (λ (c : List ℕ). c ≡ home_colours_of h.cram) h.cram_dirty (λ _. refl) k

drawn_clean : (r : Option ℕ) (h : HomeState) → Clean h → dirty_after r h ≡ false → cache_after r h ≡ home_colours_of h.cram
drawn_clean None h k = k
drawn_clean (Some y) h k = λ _. colours_now_lem h k

pub stepped_clean : (vram : List ℕ) (h : HomeState) → Clean h → Clean (stepped vram h).device
stepped_clean vram h k =
    rw (stepped_dirty vram h refl, stepped_cache vram h refl, stepped_cram vram h) (drawn_clean (row_on Home (line_of (counter_up h))) h k)

-- ---- a row buffer and a frame
module _ (vram : List ℕ) (h : HomeState) (b : List ℕ) where
  pub row_step_length : length (row_after vram h b) ≡ length b
  unfolding row_after
  row_step_length = Points.row_points_length Home vram (reading_of h) b

  pub row_step_past : drop (row_size Home) (row_after vram h b) ≡ drop (row_size Home) b
  unfolding row_after
  row_step_past = Points.row_points_past Home vram (reading_of h) b

  pub row_step_none : row_on Home (line_of (counter_up h)) ≡ None → row_after vram h b ≡ b
  unfolding row_after
  row_step_none e = Points.row_points_none Home vram (reading_of h) b e

  pub row_step_refused : first (row_lines Home vram (length b)) ≢ (Ok tt) → row_after vram h b ≡ b
  unfolding row_after
  row_step_refused n = under_refused (row_lines Home vram (length b)) (λ r. b) _ n

  pub row_step_here :
      (y : ℕ) → length vram ≡ 16384 → row_size Home ≤ length b → row_on Home (line_of (counter_up h)) ≡ Some y
      → take (row_size Home) (row_after vram h b) ≡ drawn_bytes vram (counter_up h) y
  unfolding row_after
  row_step_here y m k e = Points.row_points_here Home vram (reading_of h) b y m k e

module _ (vram : List ℕ) (h : HomeState) (f : List ℕ) where
  pub frame_step_length : length (frame_after vram h f) ≡ length f
  unfolding frame_after
  frame_step_length = Points.frame_points_length Home vram (reading_of h) f

  pub frame_step_other : (z : ℕ) → row_on Home (line_of (counter_up h)) ≢ Some z → row_of (row_size Home) z (frame_after vram h f) ≡ row_of (row_size Home)
      z f
  unfolding frame_after
  frame_step_other z n = Points.frame_points_other Home vram (reading_of h) f z n

  pub frame_step_none : row_on Home (line_of (counter_up h)) ≡ None → frame_after vram h f ≡ f
  unfolding frame_after
  frame_step_none e = Points.frame_points_none Home vram (reading_of h) f e

  pub frame_step_refused : first (frame_lines Home vram (length f)) ≢ (Ok tt) → frame_after vram h f ≡ f
  unfolding frame_after
  frame_step_refused n = under_refused (frame_lines Home vram (length f)) (λ r. f) _ n

  pub frame_step_here :
      (y : ℕ) → length vram ≡ 16384 → length f ≡ frame_size Home → row_on Home (line_of (counter_up h)) ≡ Some y
      → row_of (row_size Home) y (frame_after vram h f) ≡ drawn_bytes vram (counter_up h) y
  unfolding frame_after
  frame_step_here y m k e = Points.frame_points_here Home vram (reading_of h) f y m k e
