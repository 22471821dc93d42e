-- R7.8, R20.9: a device of either machine, and what its port calls and its steps do.
-- Assumes nothing.
use Rattle.refusal.specs.Refusals.{Outcome, outcome_of, byte_given}
use Rattle.std.specs.Prelude.{List, ℕ, length}
use Rattle.picture.specs.declared.RenderArea.{RenderArea}
use Rattle.vdp.specs.declared.VdpState.{VdpState}
use Rattle.vdp.specs.Device.{fresh}
use Rattle.vdp.specs.Ports.{port_write, port_read}
use Rattle.points.specs.declared.VdpInt.{VdpInt}
use Rattle.points.specs.declared.DisplayRefresh.{DisplayRefresh}
use Rattle.points.specs.declared.Stepped.{Stepped}
use Rattle.step.specs.Step.{row_step_of, frame_step_of}
use Rattle.step.specs.Frame.{row_after, frame_after}
use Rattle.home.specs.declared.HomeState.{HomeState}
use Rattle.points.specs.declared.Stepped.{Stepped}
use Rattle.home.specs.Home as homeState
use Rattle.home.specs.Ports as homePorts
use Rattle.home.specs.Step as homeStep
use Rattle.trace_record.specs.declared.Machine.{Machine}
use Rattle.trace_record.specs.declared.Machine.TheVariants.{Handheld, Home}
use Rattle.trace_run.specs.declared.Device.{Device}

-- a device of each machine; the state of the other is as it is made
abbrev pub handheld : VdpState → Device
handheld d = record { machine = Handheld; vdp = d; home = homeState.fresh }

abbrev pub home : HomeState → Device
home h = record { machine = Home; vdp = fresh; home = h }

-- the same device with another state of each
abbrev pub with_vdp : Device → VdpState → Device
with_vdp d x = record { machine = d.machine; vdp = x; home = d.home }

abbrev pub with_home : Device → HomeState → Device
with_home d x = record { machine = d.machine; vdp = d.vdp; home = x }

-- ---- What a call answers and leaves, whichever machine it is made on: a port write, a port read, and a step into a buffer, a row's or a frame.
pub record AfterWrite : Type 0 where
  pub outcome : Outcome
  pub device : Device
  pub vram : List ℕ

pub record AfterRead : Type 0 where
  pub outcome : Outcome
  pub byte : ℕ
  pub device : Device

pub record AfterStep : Type 0 where
  pub outcome : Outcome
  pub counter : ℕ
  pub interrupt : VdpInt
  pub report : DisplayRefresh
  pub device : Device
  pub buffer : List ℕ

abbrev pub wrote : Outcome → Device → List ℕ → AfterWrite
wrote r d m = record { outcome = r; device = d; vram = m }

abbrev pub gave : Outcome → ℕ → Device → AfterRead
gave r b d = record { outcome = r; byte = b; device = d }

abbrev pub went : Outcome → ℕ → VdpInt → DisplayRefresh → Device → List ℕ → AfterStep
went r counter i t d buffer = record { outcome = r; counter = counter; interrupt = i; report = t; device = d; buffer = buffer }

-- a step of each machine, by its own answer
abbrev pub of_handheld : Device → Stepped VdpState → List ℕ → AfterStep
of_handheld d s = went s.outcome s.device.raster.v_counter s.interrupt s.report (with_vdp d s.device)

abbrev pub of_home : Device → Stepped HomeState → List ℕ → AfterStep
of_home d s = went s.outcome s.device.raster.v_counter s.interrupt s.report (with_home d s.device)

-- ---- the calls, by the machine: those of crates `vdp` and `step`, and those of crate `home`
abbrev pub write_on : Machine → Device → List ℕ → ℕ → ℕ → AfterWrite
write_on Handheld d m p v =
    let a = port_write d.vdp m p v in
    wrote a.answer.outcome (with_vdp d a.answer.device) a.vram
write_on Home d m p v =
    let a = homePorts.port_write d.home m p v in
    wrote a.answer.outcome (with_home d a.answer.device) a.vram

abbrev pub read_on : Machine → Device → List ℕ → ℕ → AfterRead
read_on Handheld d m p =
    let a = port_read d.vdp m p in
    gave (outcome_of a.byte) (byte_given a.byte) (with_vdp d a.device)
read_on Home d m p =
    let a = homePorts.port_read d.home m p in
    gave (outcome_of a.byte) (byte_given a.byte) (with_home d a.device)

abbrev pub row_step_on : Machine → RenderArea → Device → List ℕ → List ℕ → AfterStep
row_step_on Handheld a d m row = of_handheld d (row_step_of a m (length row) d.vdp) (row_after a m d.vdp row)
row_step_on Home a d m row = of_home d (homeStep.row_step_of m (length row) d.home) (homeStep.row_after m d.home row)

abbrev pub frame_step_on : Machine → RenderArea → Device → List ℕ → List ℕ → AfterStep
frame_step_on Handheld a d m frame = of_handheld d (frame_step_of a m (length frame) d.vdp) (frame_after a m d.vdp frame)
frame_step_on Home a d m frame = of_home d (homeStep.frame_step_of m (length frame) d.home) (homeStep.frame_after m d.home frame)

-- of a device, with video memory m
abbrev pub device_write : Device → List ℕ → ℕ → ℕ → AfterWrite
device_write d = write_on d.machine d

abbrev pub device_read : Device → List ℕ → ℕ → AfterRead
device_read d = read_on d.machine d

abbrev pub device_row_step : RenderArea → Device → List ℕ → List ℕ → AfterStep
device_row_step a d = row_step_on d.machine a d

abbrev pub device_frame_step : RenderArea → Device → List ℕ → List ℕ → AfterStep
device_frame_step a d = frame_step_on d.machine a d
