-- R21.1, R21.4, THE HOME MACHINE'S C FACE: its calls, each with the name of its function. The test suite `layout` holds the list to the code.
-- Assumes nothing.
use Rattle.std.specs.Prelude.{◌≡◌, List, [], ℕ, ◌<◌, length}
use Rattle.picture.specs.declared.Screen.TheVariants.{Home}
use Rattle.raster.specs.declared.LineTable.{LineTable}
use Rattle.raster.specs.declared.LineTable.TheVariants.{Steps262}
use Rattle.raster.specs.Raster.{line_table_from}
use Rattle.points.specs.Points.{row_lines, frame_lines}
use Rattle.points.specs.Bytes.{row_filled, frame_filled}
use Rattle.word.specs.Called.{Called}
use Rattle.home.specs.Step.{reading_of}
use Rattle.home_block.specs.HomeBlock.{state_of}
use Rattle.face.specs.Home.{new_table_call, new_call, out_call, input_call, step_call, row_step_call, dump_call}
use Rattle.face.specs.HomeLayers.{layer_call}
use Rattle.face.specs.HomePixel.{pixel_call}
use Rattle.demands.specs.Home.{home}
use Rattle.demands_face.specs.Face.{Kind, making, stepping, other, Way, plain, with_layers, Face}

-- A call on a home block, with its other arguments, as the handheld's are (Calls.antt). (Those that take no block are there.)
pub data HomeCall : Type 0 where
  vdp_home_new : HomeCall
  vdp_home_new_table : (table : ℕ) → HomeCall
  vdp_home_out : (vram : List ℕ) (port value : ℕ) → value < 256 → HomeCall
  vdp_home_input : (vram : List ℕ) (port : ℕ) → HomeCall
  vdp_home_step : (vram frame : List ℕ) → HomeCall
  vdp_home_row_step : (vram row : List ℕ) → HomeCall
  vdp_home_layer_step : (vram frame layers : List ℕ) → HomeCall
  vdp_home_layer_row_step : (vram row layers : List ℕ) → HomeCall
  vdp_home_dump_tileset : (vram pixels : List ℕ) → HomeCall
  vdp_home_pixel : (vram : List ℕ) (row column : ℕ) → HomeCall

-- what a call answers on block b, and the block that it leaves
unfoldable pub home_called : HomeCall → List ℕ → Called
home_called vdp_home_new b = new_call b
home_called (vdp_home_new_table t) b = new_table_call b t
home_called (vdp_home_out m p v byte) b = out_call b m p v
home_called (vdp_home_input m p) b = input_call b m p
home_called (vdp_home_step m frame) b = step_call b m frame
home_called (vdp_home_row_step m row) b = row_step_call b m row
home_called (vdp_home_layer_step m frame layers) b =
    layer_call (frame_lines Home m (length frame)) (λ h. frame_filled Home m (reading_of h) frame) b m frame layers
home_called (vdp_home_layer_row_step m row layers) b = layer_call (row_lines Home m (length row)) (λ h. row_filled Home m (reading_of h) row) b m row layers
home_called (vdp_home_dump_tileset m pixels) b = dump_call b m pixels
home_called (vdp_home_pixel m y x) b = record { word = pixel_call b m y x; block = b; lent = [] }

-- a block that a call has made, of whatever 186 bytes it was lent, with its table
pub data MadeHomeBlock : LineTable → List ℕ → Type 0 where
  by_home_new : (b : List ℕ) → (new_call b).word ≡ 0 → MadeHomeBlock Steps262 (new_call b).block
  by_home_new_table : (b : List ℕ) (t : ℕ) → (new_table_call b t).word ≡ 0 → MadeHomeBlock (line_table_from t) (new_table_call b t).block

abbrev pub home_kind : HomeCall → Kind
home_kind vdp_home_new = making
home_kind (vdp_home_new_table t) = making
home_kind (vdp_home_out m p v byte) = other
home_kind (vdp_home_input m p) = other
home_kind (vdp_home_step m frame) = stepping
home_kind (vdp_home_row_step m row) = stepping
home_kind (vdp_home_layer_step m frame layers) = stepping
home_kind (vdp_home_layer_row_step m row layers) = stepping
home_kind (vdp_home_dump_tileset m pixels) = other
home_kind (vdp_home_pixel m y x) = other

-- the two steps on a frame: `vdp_home_step`, and `vdp_home_layer_step`
abbrev pub on_home_frame : Way → (vram frame : List ℕ) → HomeCall
on_home_frame plain m frame = vdp_home_step m frame
on_home_frame (with_layers layers) m frame = vdp_home_layer_step m frame layers

abbrev pub home_face : Face home
home_face =
    record { Call = HomeCall; called = home_called; Made = MadeHomeBlock; device = state_of; kind = home_kind; on_frame_lem = λ _. on_home_frame }
