-- THE HANDHELD as a machine: its calls, and what each does to the device. What the demands say of any machine they say of this one.
-- Assumes nothing.
use Rattle.refusal.specs.Refusals.{Outcome, outcome_of}
use Rattle.std.specs.Prelude.{◌≡◌, List, ℕ, Ok}
use Rattle.colour.specs.Colour.{colours_of}
use Rattle.picture.specs.declared.RenderArea.{RenderArea}
use Rattle.picture.specs.Area.{screen_of, columns}
use Rattle.vdp.specs.declared.VdpState.{VdpState}
use Rattle.vdp.specs.Device.{made}
use Rattle.vdp.specs.Refusals.{size}
use Rattle.vdp.specs.Ports.{port_write, port_read}
use Rattle.points.specs.declared.Stepped.{Stepped}
use Rattle.step.specs.Step.{reading_of, row_lines, frame_lines, step_with, row_step_of, frame_step_of}
use Rattle.step.specs.Frame.{frame_after}
use Rattle.points.specs.Bytes.{also_layers}
use Rattle.dump.specs.Sheet.{dump_refusal}
use Rattle.pixel.specs.Pixel.{pixel_of}
use Rattle.tile_codes.specs.Calls.{read_tile_refusal, write_tile_refusal}
use Rattle.passes.specs.Machine.{Told, Machine}

-- A call, with the video memory lent to it; `size` is the length of the pixel buffer lent to it (of a tile read, of the buffer for the codes), and
-- `layers` that of the layer buffer. (Nothing is assumed of how the memory lent to one call is related to that lent to the next.)
-- It has the name of its function. The other public functions of these crates make a device, give a number, are parts that the calls are made of, or take no
-- device and give no refusal; the test suite `layout` holds both lists to the code:
-- No calls of vdp: new, with_table.
-- No calls of step: colours_of, join.
-- No calls of look: screen_row, layer_frame_points, row_view.
-- No calls of tile_codes: sheet.
pub data Call : Type 0 where
  out : (port value : ℕ) (vram : List ℕ) → Call
  input : (port : ℕ) (vram : List ℕ) → Call
  frame_step : (area : RenderArea) (vram : List ℕ) (size : ℕ) → Call
  row_step : (area : RenderArea) (vram : List ℕ) (size : ℕ) → Call
  layer_frame_step_lem : (area : RenderArea) (vram : List ℕ) (size layers : ℕ) → Call
  layer_row_step_lem : (area : RenderArea) (vram : List ℕ) (size layers : ℕ) → Call
  dump_tileset : (vram : List ℕ) (size : ℕ) → Call
  pixel_at : (area : RenderArea) (vram : List ℕ) (row column : ℕ) → Call
  write_tile : (vram : List ℕ) (tile : ℕ) (codes : List ℕ) → Call
  read_tile : (vram : List ℕ) (tile size : ℕ) → Call

-- R15.3, R15.4: the two steps with a layer buffer of so many bytes
abbrev pub layer_frame_step : RenderArea → List ℕ → (size layers : ℕ) → VdpState → Stepped VdpState
layer_frame_step a vram size layers d = step_with (also_layers (columns a) layers (frame_lines a vram size)) a vram d

abbrev pub layer_row_step : RenderArea → List ℕ → (size layers : ℕ) → VdpState → Stepped VdpState
layer_row_step a vram size layers d = step_with (also_layers (columns a) layers (row_lines a vram size)) a vram d

-- the device that a call leaves, refused or not; what only reads it, or takes none, leaves it as it is
unfoldable pub after : Call → VdpState → VdpState
after (out port value vram) d = (port_write d vram port value).answer.device
after (input port vram) d = (port_read d vram port).device
after (frame_step a vram size) d = (frame_step_of a vram size d).device
after (row_step a vram size) d = (row_step_of a vram size d).device
after (layer_frame_step_lem a vram size layers) d = (layer_frame_step a vram size layers d).device
after (layer_row_step_lem a vram size layers) d = (layer_row_step a vram size layers d).device
after (dump_tileset vram size) d = d
after (pixel_at a vram row column) d = d
after (write_tile vram tile codes) d = d
after (read_tile vram tile size) d = d

-- the refusal that it gives, 0 among them
unfoldable pub refusal_of : Call → VdpState → Outcome
refusal_of (out port value vram) d = (port_write d vram port value).answer.outcome
refusal_of (input port vram) d = outcome_of (port_read d vram port).byte
refusal_of (frame_step a vram size) d = (frame_step_of a vram size d).outcome
refusal_of (row_step a vram size) d = (row_step_of a vram size d).outcome
refusal_of (layer_frame_step_lem a vram size layers) d = (layer_frame_step a vram size layers d).outcome
refusal_of (layer_row_step_lem a vram size layers) d = (layer_row_step a vram size layers d).outcome
refusal_of (dump_tileset vram size) d = dump_refusal vram size
refusal_of (pixel_at a vram row column) d = outcome_of (pixel_of (screen_of a) vram (reading_of d) row column)
refusal_of (write_tile vram tile codes) d = write_tile_refusal vram tile codes
refusal_of (read_tile vram tile size) d = read_tile_refusal vram tile size

-- what a step answers, and the device that it leaves
abbrev pub told : Stepped VdpState → Told VdpState
told s = record { outcome = s.outcome; interrupt = s.interrupt; report = s.report; row = s.row; device = s.device }

-- R13.3: call c on device d is an accepted step, of either kind and any area, with layers or without, and answers s
abbrev pub Steps : Call → VdpState → Told VdpState → Type 0
Steps (out port value vram) d s = ⊥
Steps (input port vram) d s = ⊥
Steps (frame_step a vram size) d s = (s ≡ told (frame_step_of a vram size d)) × (s.outcome ≡ (Ok tt))
Steps (row_step a vram size) d s = (s ≡ told (row_step_of a vram size d)) × (s.outcome ≡ (Ok tt))
Steps (layer_frame_step_lem a vram size layers) d s = (s ≡ told (layer_frame_step a vram size layers d)) × (s.outcome ≡ (Ok tt))
Steps (layer_row_step_lem a vram size layers) d s = (s ≡ told (layer_row_step a vram size layers d)) × (s.outcome ≡ (Ok tt))
Steps (dump_tileset vram size) d s = ⊥
Steps (pixel_at a vram row column) d s = ⊥
Steps (write_tile vram tile codes) d s = ⊥
Steps (read_tile vram tile size) d s = ⊥

abbrev pub handheld : Machine
handheld =
    record {
      Device = VdpState;
      Area = RenderArea;
      Call = Call;
      screen = screen_of;
      registers = λ d. d.reg;
      raster = λ d. d.raster;
      palette = λ d. d.cram;
      dirty = λ d. d.cram_dirty;
      cache = λ d. d.color_cache;
      addr = λ d. d.addr;
      room = λ d. size d.dest;
      colours_of = colours_of;
      made = made;
      after = after;
      refusal_of = refusal_of;
      Steps = Steps;
      frame_step = frame_step;
      frame_step_of = λ a vram size d. told (frame_step_of a vram size d);
      frame_after = frame_after;
    }
