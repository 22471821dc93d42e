-- WHAT A MACHINE IS, as the demands see it: a device, the calls on it, and steps that draw. The demands are said once, of any machine.
-- Assumes nothing.
use Rattle.refusal.specs.Refusals.{Outcome}
use Rattle.std.specs.Prelude.{Bool, List, ℕ, Option}
use Rattle.laws.specs.Lists.{at}
use Rattle.picture.specs.declared.Screen.{Screen}
use Rattle.raster.specs.declared.Raster.{Raster}
use Rattle.raster.specs.declared.LineTable.{LineTable}
use Rattle.points.specs.declared.VdpInt.{VdpInt}
use Rattle.points.specs.declared.DisplayRefresh.{DisplayRefresh}

-- What a step answers, and the device that it leaves.
pub record Told (D : Type 0) : Type 0 where
  pub outcome : Outcome
  pub interrupt : VdpInt
  pub report : DisplayRefresh
  pub row : Option ℕ
  pub device : D

pub record Machine : Type 1 where
  -- its record, its areas, and the calls on it, each with the memory and the buffers lent to it
  pub Device : Type 0
  pub Area : Type 0
  pub Call : Type 0
  -- what is drawn for an area
  pub screen : Area → Screen
  -- parts of the record
  pub registers : Device → List ℕ
  pub raster : Device → Raster
  pub palette : Device → List ℕ
  pub dirty : Device → Bool
  pub cache : Device → List ℕ
  -- the address, and the bytes of the memory that is chosen
  pub addr : Device → ℕ
  pub room : Device → ℕ
  -- the colours of a palette
  pub colours_of : List ℕ → List ℕ
  -- the device as it is made with a table, and what a call leaves, refused or not
  pub made : LineTable → Device
  pub after : Call → Device → Device
  pub refusal_of : Call → Device → Outcome
  -- the call is an accepted step on this device, and answers so
  pub Steps : Call → Device → Told Device → Type 0
  -- the step on a frame of so many bytes: as a call, what it answers, and the frame that it leaves
  pub frame_step : Area → (vram : List ℕ) (size : ℕ) → Call
  pub frame_step_of : Area → (vram : List ℕ) (size : ℕ) → Device → Told Device
  pub frame_after : Area → (vram : List ℕ) → Device → (frame : List ℕ) → List ℕ

-- a register, and the line that the counter reads
abbrev pub register : (M : Machine) → M.Device → ℕ → ℕ
register M d = at (M.registers d)

abbrev pub line_of : (M : Machine) → M.Device → ℕ
line_of M d = (M.raster d).v_counter
