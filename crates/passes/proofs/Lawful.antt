-- What the demands need of a machine, law by law; each machine shows them once (Handheld.antt, Home.antt).
-- Assumes nothing.
use Rattle.std.specs.Prelude.{Some, Ok}
use mathlib.Core.Path.{◌≡◌}
use mathlib.Core.Logic.{◌↔◌, ◌≢◌}
use mathlib.Core.Bool.{true, false}
use mathlib.Core.List.{List}
use Prim.Native.Nat.{ℕ, ◌<◌}
use lib.ListN.{length}
use Rattle.laws.specs.Bits.{bit}
use Rattle.laws.specs.Lists.{row_of}
use Rattle.picture.specs.Screen.{columns, row_size, frame_size, picture_of, row_bytes}
use Rattle.raster.specs.declared.Raster.{Raster}
use Rattle.raster.specs.declared.LineTable.{LineTable}
use Rattle.raster.specs.Raster.{advanced, line_interrupt, ticked}
use Rattle.refusal.specs.Refusals.{refusal_number}
use Rattle.points.specs.declared.VdpInt.TheVariants.{InterruptGenerated}
use Rattle.points.specs.declared.DisplayRefresh.TheVariants.{NoDisplay}
use Rattle.points.specs.Points.{row_on}
use Rattle.passes.specs.Machine.{Told, Machine, register}
use Rattle.passes.specs.Pass.{NoStepOn}
use Rattle.passes.proofs.Counter.{line}

-- the raster of a device as it is made
abbrev pub first_raster : LineTable → Raster
first_raster t = record { v_counter = 0; v_counter_jumped = false; line_interrupt_counter = 0; vertical_scroll = 0; table = t }

-- a call leaves the raster as it is, or ticks it
pub data Moved (g : ℕ → ℕ) (x x' : Raster) : Type 0 where
  stays : x' ≡ x → Moved g x x'
  ticks : x' ≡ ticked g x → Moved g x x'

-- clean colours are the palette's; the address lies in its memory
abbrev pub Clean : (M : Machine) → M.Device → Type 0
Clean M d = M.dirty d ≡ false → M.cache d ≡ M.colours_of (M.palette d)

abbrev pub Aimed : (M : Machine) → M.Device → Type 0
Aimed M d = M.addr d < M.room d

pub record Left (M : Machine) (d d' : M.Device) : Type 0 where
  pub moved : Moved (register M d) (M.raster d) (M.raster d')
  pub clean : Clean M d → Clean M d'
  pub aimed : Aimed M d → Aimed M d'

pub record Lawful (M : Machine) : Type 0 where
  -- as it is made
  pub made_raster : (t : LineTable) → M.raster (M.made t) ≡ first_raster t
  pub made_dirty : (t : LineTable) → M.dirty (M.made t) ≡ true
  pub made_aimed : (t : LineTable) → Aimed M (M.made t)
  -- a call, what is no step, and a step
  pub left : (c : M.Call) (d : M.Device) → Left M d (M.after c d)
  pub quiet : (c : M.Call) (d : M.Device) → NoStepOn M d c → M.raster (M.after c d) ≡ M.raster d
  pub step_raster : (c : M.Call) (d : M.Device) (s : Told M.Device) → M.Steps c d s → M.raster s.device ≡ ticked (register M d)
      (M.raster d)
  pub step_interrupt :
      (c : M.Call) (d : M.Device) (s : Told M.Device) → M.Steps c d s → bit (register M d 1) 5 ≡ false →
      (s.interrupt ≡ InterruptGenerated) ↔ (line_interrupt (register M d) (advanced (register M d) (M.raster d)) ≡ true)
  pub no_seven : (c : M.Call) (d : M.Device) → Aimed M d → refusal_number (M.refusal_of c d) ≢ 7
  -- the step on a frame of n bytes, where it is accepted
  pub frame_is :
      (a : M.Area) (vram : List ℕ) (n : ℕ) (d : M.Device) → (M.frame_step_of a vram n d).outcome ≡ (Ok tt) →
      M.Steps (M.frame_step a vram n) d (M.frame_step_of a vram n d)
  pub frame_left_lem : (a : M.Area) (vram : List ℕ) (n : ℕ) (d : M.Device) → M.after (M.frame_step a vram n) d ≡ (M.frame_step_of a vram n d).device
  pub frame_row :
      (a : M.Area) (vram : List ℕ) (n : ℕ) (d : M.Device) → (M.frame_step_of a vram n d).outcome ≡ (Ok tt) →
      (M.frame_step_of a vram n d).row ≡ row_on (M.screen a) (line (M.raster d))
  pub frame_report :
      (a : M.Area) (vram : List ℕ) (n : ℕ) (d : M.Device) → (M.frame_step_of a vram n d).outcome ≡ (Ok tt) →
      (line (M.raster d) ≡ 193) ↔ ((M.frame_step_of a vram n d).report ≢ NoDisplay)
  pub frame_size_lem : (a : M.Area) (vram : List ℕ) (n : ℕ) (d : M.Device) → (M.frame_step_of a vram n d).outcome ≡ (Ok tt) → n ≡ frame_size (M.screen a)
  -- the frame that it leaves: its length, the other rows, and its own row
  pub frame_length : (a : M.Area) (vram : List ℕ) (d : M.Device) (frame : List ℕ) → length (M.frame_after a vram d frame) ≡ length frame
  pub frame_other :
      (a : M.Area) (vram : List ℕ) (d : M.Device) (frame : List ℕ) (y : ℕ) → row_on (M.screen a) (line (M.raster d)) ≢ Some y →
      row_of (row_size (M.screen a)) y (M.frame_after a vram d frame) ≡ row_of (row_size (M.screen a)) y frame
  pub frame_here :
      (a : M.Area) (vram : List ℕ) (d : M.Device) (frame : List ℕ) (y : ℕ) → (M.frame_step_of a vram (length frame) d).outcome ≡ (Ok tt) → Clean M d →
      row_on (M.screen a) (line (M.raster d)) ≡ Some y →
      row_of (row_size (M.screen a)) y (M.frame_after a vram d frame)
      ≡ row_bytes (M.colours_of (M.palette d)) (columns (M.screen a))
      (picture_of (M.screen a) (M.registers d) (advanced (register M d) (M.raster d)).vertical_scroll vram y)
