-- R13.3 to R13.6, DEMAND 3, said of any machine, and so of the definitions that the contracts of its ports and steps cite.
-- Assumes nothing.
use Rattle.std.specs.Prelude.{◌≡◌, ◌↔◌, ◌≢◌, Bool, true, false, cond, not, ◌&&◌, List, [], ◌∷◌, ℕ, zero, suc, ◌+◌, ◌≤◌, ◌<◌, eqb, length, Some, Ok}
use Rattle.std.specs.Int.{◌∣◌}
use Rattle.laws.specs.Bits.{bit}
use Rattle.laws.specs.Lists.{row_of}
use Rattle.laws.specs.Once.{ExactlyOnce}
use Rattle.picture.specs.Picture.{Row}
use Rattle.picture.specs.Screen.{columns, rows, row_size, picture_of, row_bytes}
use Rattle.raster.specs.declared.LineTable.{LineTable}
use Rattle.raster.specs.Raster.{pass_length}
use Rattle.points.specs.declared.VdpInt.TheVariants.{InterruptGenerated}
use Rattle.points.specs.declared.DisplayRefresh.TheVariants.{NoDisplay}
use Rattle.passes.specs.Machine.{Told, Machine, register, line_of}

-- ---- calls, from a fresh device of either table on
-- the calls made so far, the last one first, and the device after them, which was made with table t before them
abbrev pub History : Machine → Type 0
History M = List M.Call

unfoldable pub device_after : (M : Machine) → LineTable → History M → M.Device
device_after M t [] = M.made t
device_after M t (c ∷ h) = M.after c (device_after M t h)

-- R13.5: the scroll that the counter's last 0 latched: register 9 at that call, and 0 before there was one. (Of any calls, the last one first, where `dev`
-- gives the device after them.)
abbrev pub becomes_zero : (M : Machine) → M.Device → M.Device → Bool
becomes_zero M d d' = not (eqb (line_of M d) 0) && eqb (line_of M d') 0

unfoldable pub latched_along : (M : Machine) {C : Type 0} → (List C → M.Device) → List C → ℕ
latched_along M dev [] = 0
latched_along M dev (c ∷ h) = cond (becomes_zero M (dev h) (dev (c ∷ h))) (register M (dev h) 9) (latched_along M dev h)

abbrev pub latched : (M : Machine) → LineTable → History M → ℕ
latched M t = latched_along M (device_after M t)

-- ---- R13.3: accepted steps on one frame, one after another, with calls between them that do not write it
-- On device d, call c is no accepted step.
abbrev pub NoStepOn : (M : Machine) → M.Device → M.Call → Type 0
NoStepOn M d c = (s : Told M.Device) → M.Steps c d s → ⊥

-- What may be called between two steps: all that is no step, and a step of any kind and area that is refused, whatever the device (a step's
-- refusal does not depend on the device).
abbrev pub NoStep : (M : Machine) → M.Call → Type 0
NoStep M c = (d : M.Device) → NoStepOn M d c

pub record Between (M : Machine) : Type 0 where
  pub call : M.Call
  pub no_step : NoStep M call

-- Steps 0, 1, 2 and so on, without end; a pass is the first 261 or 262 of them, by the device's table. (A run that ends can go on: what is said
-- of its pass stays.)
pub record Run (M : Machine) (a : M.Area) : Type 0 where
  -- the table that the device was made with
  pub table : LineTable
  -- every call since it was made, the last one first
  pub before : History M
  -- the calls made just before step i, the first one first
  pub between : ℕ → List (Between M)
  -- the video memory lent to step i
  pub vram : ℕ → List ℕ
  -- the frame as step 0 finds it
  pub frame : List ℕ
  -- each step is accepted, whatever the device (a step's refusal does not depend on the device); so the frame has exactly its area's size
  pub accepted : (i : ℕ) (d : M.Device) → (M.frame_step_of a (vram i) (length frame) d).outcome ≡ (Ok tt)

unfoldable pub then : {M : Machine} → List (Between M) → History M → History M
then [] h = h
then (c ∷ cs) h = then cs (c.call ∷ h)

module _ {M : Machine} {a : M.Area} where
  -- step i as a call, all calls until just before it, and all up to its end
  abbrev pub step_call : Run M a → ℕ → M.Call
  step_call r i = M.frame_step a (r.vram i) (length r.frame)

  unfoldable pub until : Run M a → ℕ → History M
  until r zero = then {M = M} (r.between 0) r.before
  until r (suc i) = then {M = M} (r.between (suc i)) (step_call r i ∷ until r i)

  abbrev pub through : Run M a → ℕ → History M
  through r i = step_call r i ∷ until r i

  -- the device just before step i, and what step i answers
  unfoldable pub ready : Run M a → ℕ → M.Device
  ready r i = device_after M r.table (until r i)

  unfoldable pub answer : Run M a → ℕ → Told M.Device
  answer r i = M.frame_step_of a (r.vram i) (length r.frame) (ready r i)

  -- the frame after n steps
  unfoldable pub frame_at : Run M a → ℕ → List ℕ
  frame_at r zero = r.frame
  frame_at r (suc i) = M.frame_after a (r.vram i) (ready r i) (frame_at r i)

-- ---- What there is to watch of accepted steps on one frame, step by step. The demands are said of it: of a run on a record, and of one through the C face
-- (crates/demands_face), alike.
pub record Watched (M : Machine) (a : M.Area) : Type 0 where
  pub table : LineTable
  -- the device just before step i, and what step i answers
  pub ready : ℕ → M.Device
  pub answer : ℕ → Told M.Device
  -- the video memory lent to step i, and R13.5 the scroll that is latched as it draws
  pub vram : ℕ → List ℕ
  pub scroll : ℕ → ℕ
  -- the frame after n steps
  pub frame : ℕ → List ℕ

abbrev pub watched : {M : Machine} {a : M.Area} → Run M a → Watched M a
watched {M} r =
    record {
      table = r.table;
      ready = ready r;
      answer = answer r;
      vram = r.vram;
      scroll = λ i. latched M r.table (through r i);
      frame = frame_at r;
    }

module _ {M : Machine} {a : M.Area} where
  -- R4.8: the steps of its pass
  abbrev pub pass : Watched M a → ℕ
  pass w = pass_length w.table

  -- the line that step i sets
  abbrev pub line_set : Watched M a → ℕ → ℕ
  line_set w i = line_of M (w.answer i).device

  -- row y of the frame at the end of the pass
  abbrev pub row_at_end : Watched M a → ℕ → List ℕ
  row_at_end w y = row_of (row_size (M.screen a)) y (w.frame (pass w))

  -- R13.5: the colours of the palette, and the picture of row y, by what there is at step i
  abbrev pub colours_at : Watched M a → ℕ → List ℕ
  colours_at w i = M.colours_of (M.palette (w.ready i))

  abbrev pub picture_at : Watched M a → ℕ → ℕ → Row
  picture_at w i y = picture_of (M.screen a) (M.registers (w.ready i)) (w.scroll i) (w.vram i) y

-- R13.6: the registers under which it counts
pub record LineInterruptsEvery (N : ℕ) (g : ℕ → ℕ) : Type 0 where
  pub line_on : bit (g 0) 4 ≡ true
  pub frame_off : bit (g 1) 5 ≡ false
  pub every : g 10 ≡ N

-- a step that answers s reports an interrupt exactly when Q
abbrev pub InterruptsWhen : {D : Type 0} → Told D → Type 0 → Type 0
InterruptsWhen s Q = (s.interrupt ≡ InterruptGenerated) ↔ Q

-- R13.6, of one step: it sets line k, and reports an interrupt exactly where N + 1 divides k + 2
abbrev pub ForLine : (M : Machine) (N k : ℕ) → Told M.Device → Type 0
ForLine M N k s = (line_of M s.device ≡ k) × InterruptsWhen s (N + 1 ∣ k + 2)

-- ---- the demand
pub record Demand3 {M : Machine} {a : M.Area} (w : Watched M a) : Type 0 where
  -- R13.3: every row once, and no other
  pub row_once : (y : ℕ) → y < rows (M.screen a) → ExactlyOnce (pass w) (λ i. (w.answer i).row ≡ Some y)
  pub no_other : (i y : ℕ) → (w.answer i).row ≡ Some y → y < rows (M.screen a)
  -- a step that does not draw row y leaves row y as it is (the rows are all of the frame)
  pub row_kept :
      (i y : ℕ) → (w.answer i).row ≢ Some y →
      row_of (row_size (M.screen a)) y (w.frame (suc i)) ≡ row_of (row_size (M.screen a)) y (w.frame i)
  -- R13.4: one end of the screen
  pub end_once : ExactlyOnce (pass w) (λ i. (w.answer i).report ≢ NoDisplay)
  -- R13.5: at the end row y is as its own step i drew it
  pub row_bytes_lem :
      (i y : ℕ) → i < pass w → (w.answer i).row ≡ Some y →
      row_at_end w y ≡ row_bytes (colours_at w i) (columns (M.screen a)) (picture_at w i y)
  -- R13.6: where the registers stay so from step i, which sets line 0, to the one that sets line 193, the step of line k reports an interrupt
  -- exactly where N + 1 divides k + 2 (a case of FromLine0, Interrupts.antt, which says it of any calls on any device)
  pub line_interrupts :
      (i N : ℕ) → line_set w i ≡ 0 → ((k : ℕ) → k ≤ 193 → LineInterruptsEvery N (register M (w.ready (i + k)))) →
      (k : ℕ) → k ≤ 193 → ForLine M N k (w.answer (i + k))
