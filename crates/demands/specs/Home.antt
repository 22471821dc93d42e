-- R20.10, THE HOME MACHINE as a machine: its calls, and what each does to the device. What the demands say of any machine they say of this one.
-- Assumes nothing.
use Rattle.std.specs.Prelude.{◌≡◌, ◌≢◌, List, ℕ, Ok}
use Rattle.colour.specs.Home.{home_colours_of}
use Rattle.picture.specs.declared.Screen.TheVariants.{Home}
use Rattle.refusal.specs.Refusals.{refusal_number, Outcome, outcome_of}
use Rattle.front.specs.Lines.{size_of}
use Rattle.dump.specs.Sheet.{dump_refusal}
use Rattle.home.specs.declared.HomeState.{HomeState}
use Rattle.points.specs.declared.Stepped.{Stepped}
use Rattle.home.specs.Home.{palette_size, made}
use Rattle.home.specs.Ports.{port_write, port_read}
use Rattle.home.specs.Step.{row_step_of, frame_step_of, frame_after}
use Rattle.tile_codes.specs.Calls.{read_tile_refusal, write_tile_refusal}
use Rattle.passes.specs.Machine.{Told, Machine}

-- R20.8: a call, said as the handheld's are (Handheld.antt), in the one area that there is: it tells no layers, and is asked for no single pixel. The other
-- public functions:
-- No calls of home: new, with_table.
-- No calls of look: row_view.
-- No calls of tile_codes: sheet.
pub data Call : Type 0 where
  out : (port value : ℕ) (vram : List ℕ) → Call
  input : (port : ℕ) (vram : List ℕ) → Call
  frame_step : (vram : List ℕ) (size : ℕ) → Call
  row_step : (vram : List ℕ) (size : ℕ) → Call
  dump_tileset : (vram : List ℕ) (size : ℕ) → Call
  write_tile : (vram : List ℕ) (tile : ℕ) (codes : List ℕ) → Call
  read_tile : (vram : List ℕ) (tile size : ℕ) → Call

-- the device that a call leaves, refused or not; what only reads it, or takes none, leaves it as it is
unfoldable pub after : Call → HomeState → HomeState
after (out port value vram) h = (port_write h vram port value).answer.device
after (input port vram) h = (port_read h vram port).device
after (frame_step vram size) h = (frame_step_of vram size h).device
after (row_step vram size) h = (row_step_of vram size h).device
after (dump_tileset vram size) h = h
after (write_tile vram tile codes) h = h
after (read_tile vram tile size) h = h

-- the refusal that it gives, 0 among them
unfoldable pub refusal_of : Call → HomeState → Outcome
refusal_of (out port value vram) h = (port_write h vram port value).answer.outcome
refusal_of (input port vram) h = outcome_of (port_read h vram port).byte
refusal_of (frame_step vram size) h = (frame_step_of vram size h).outcome
refusal_of (row_step vram size) h = (row_step_of vram size h).outcome
refusal_of (dump_tileset vram size) h = dump_refusal vram size
refusal_of (write_tile vram tile codes) h = write_tile_refusal vram tile codes
refusal_of (read_tile vram tile size) h = read_tile_refusal vram tile size

-- what a step answers, and the device that it leaves
abbrev pub told : Stepped HomeState → Told HomeState
told s = record { outcome = s.outcome; interrupt = s.interrupt; report = s.report; row = s.row; device = s.device }

-- R13.3: call c on device h is an accepted step, of either kind, and answers s
abbrev pub Steps : Call → HomeState → Told HomeState → Type 0
Steps (out port value vram) h s = ⊥
Steps (input port vram) h s = ⊥
Steps (frame_step vram size) h s = (s ≡ told (frame_step_of vram size h)) × (s.outcome ≡ (Ok tt))
Steps (row_step vram size) h s = (s ≡ told (row_step_of vram size h)) × (s.outcome ≡ (Ok tt))
Steps (dump_tileset vram size) h s = ⊥
Steps (write_tile vram tile codes) h s = ⊥
Steps (read_tile vram tile size) h s = ⊥

abbrev pub home : Machine
home =
    record {
      Device = HomeState;
      Area = Unit {0};
      Call = Call;
      screen = λ _. Home;
      registers = λ h. h.front.reg;
      raster = λ h. h.raster;
      palette = λ h. h.cram;
      dirty = λ h. h.cram_dirty;
      cache = λ h. h.color_cache;
      addr = λ h. h.front.addr;
      room = λ h. size_of palette_size h.front.dest;
      colours_of = home_colours_of;
      made = made;
      after = after;
      refusal_of = refusal_of;
      Steps = Steps;
      frame_step = λ _. frame_step;
      frame_step_of = λ _ vram size h. told (frame_step_of vram size h);
      frame_after = λ _. frame_after;
    }

-- R20.3: no call of any record, whatever it holds, is refused by 6
abbrev pub NeverSix : Type 0
NeverSix = (c : Call) (h : HomeState) → refusal_number (refusal_of c h) ≢ 6
