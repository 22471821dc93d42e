-- THE HANDHELD'S C FACE: its calls, each with the name of its function. The test suite `layout` holds the list to the code.
-- Assumes nothing.
use Rattle.std.specs.Prelude.{◌≡◌, Bool, List, [], ℕ, ◌<◌}
use Rattle.picture.specs.declared.RenderArea.{RenderArea}
use Rattle.raster.specs.declared.LineTable.{LineTable}
use Rattle.raster.specs.declared.LineTable.TheVariants.{Steps262}
use Rattle.raster.specs.Raster.{line_table_from}
use Rattle.block.specs.Block.{state_of}
use Rattle.trace_record.specs.declared.Record.TheVariants.{Write, Read}
use Rattle.trace_record.specs.Writer.{area_number}
use Rattle.face.specs.Face.{Called, new_table_call, new_call, out_call, input_call, step_call, row_step_call, dump_call}
use Rattle.face.specs.Layers.{layer_call, row_table, row_fills, frame_table, frame_fills}
use Rattle.face.specs.Pixel.{pixel_call}
use Rattle.face.specs.Repair.{repair_call}
use Rattle.face.specs.Tiles.{write_tile_call, read_tile_call}
use Rattle.face.specs.Record.{record_call, record_step_call, next_call}
use Rattle.face.specs.Version.{version}
use Rattle.demands.specs.Handheld.{handheld}
use Rattle.demands_face.specs.Face.{Kind, making, stepping, repairing, other, is_repairing, Way, plain, with_layers, Face}

-- A call of the face beside one state block, with its other arguments. Buffers are the bytes that they hold at the call, and a port write's value is a byte.
-- Every function of the face is a call here; those that take no state leave the block.
pub data FaceCall : Type 0 where
  vdp_new : FaceCall
  vdp_new_table : (table : ℕ) → FaceCall
  vdp_out : (vram : List ℕ) (port value : ℕ) → value < 256 → FaceCall
  vdp_input : (vram : List ℕ) (port : ℕ) → FaceCall
  vdp_step : (vram frame : List ℕ) (area : ℕ) → FaceCall
  vdp_row_step : (vram row : List ℕ) (area : ℕ) → FaceCall
  vdp_layer_step : (vram frame layers : List ℕ) (area : ℕ) → FaceCall
  vdp_layer_row_step : (vram row layers : List ℕ) (area : ℕ) → FaceCall
  vdp_dump_tileset : (vram pixels : List ℕ) → FaceCall
  vdp_pixel : (vram : List ℕ) (area row column : ℕ) → FaceCall
  vdp_repair : (list : List ℕ) → FaceCall
  vdp_write_tile : (vram : List ℕ) (tile : ℕ) (codes : List ℕ) → FaceCall
  vdp_read_tile : (vram : List ℕ) (tile : ℕ) (codes : List ℕ) → FaceCall
  vdp_record_out : (recording : List ℕ) (used port value : ℕ) → FaceCall
  vdp_record_input : (recording : List ℕ) (used port : ℕ) → FaceCall
  vdp_record_step : (recording : List ℕ) (used area : ℕ) → FaceCall
  vdp_record_next : (recording : List ℕ) (at : ℕ) → FaceCall
  vdp_version : FaceCall

-- a call that takes no block, beside block b
abbrev pub beside : List ℕ → Called → Called
beside b c = record { word = c.word; block = b; lent = c.lent }

-- what a call answers on block b, and the block that it leaves
unfoldable pub called : FaceCall → List ℕ → Called
called vdp_new b = new_call b
called (vdp_new_table t) b = new_table_call b t
called (vdp_out m p v byte) b = out_call b m p v
called (vdp_input m p) b = input_call b m p
called (vdp_step m frame n) b = step_call b m frame n
called (vdp_row_step m row n) b = row_step_call b m row n
called (vdp_layer_step m frame layers n) b = layer_call (frame_table m frame) (frame_fills m frame) b m frame layers n
called (vdp_layer_row_step m row layers n) b = layer_call (row_table m row) (row_fills m row) b m row layers n
called (vdp_dump_tileset m pixels) b = dump_call b m pixels
called (vdp_pixel m n y x) b = record { word = pixel_call b m n y x; block = b; lent = [] }
called (vdp_repair list) b = repair_call b list
called (vdp_write_tile m tile codes) b = beside b (write_tile_call m tile codes)
called (vdp_read_tile m tile codes) b = beside b (read_tile_call m tile codes)
called (vdp_record_out s k port value) b = beside b (record_call s k (Write port value))
called (vdp_record_input s k port) b = beside b (record_call s k (Read port))
called (vdp_record_step s k n) b = beside b (record_step_call s k n)
called (vdp_record_next s k) b = record { word = next_call s k; block = b; lent = [] }
called vdp_version b = record { word = version; block = b; lent = [] }

-- a block that a call has made, of whatever bytes it was lent, with its table: `vdp_new` of 220, `vdp_new_table` of 219 or 220 (R4.8), or they refuse
pub data MadeBlock : LineTable → List ℕ → Type 0 where
  by_new : (b : List ℕ) → (new_call b).word ≡ 0 → MadeBlock Steps262 (new_call b).block
  by_new_table : (b : List ℕ) (t : ℕ) → (new_table_call b t).word ≡ 0 → MadeBlock (line_table_from t) (new_table_call b t).block

-- what it is for
abbrev pub kind : FaceCall → Kind
kind vdp_new = making
kind (vdp_new_table t) = making
kind (vdp_out m p v byte) = other
kind (vdp_input m p) = other
kind (vdp_step m frame n) = stepping
kind (vdp_row_step m row n) = stepping
kind (vdp_layer_step m frame layers n) = stepping
kind (vdp_layer_row_step m row layers n) = stepping
kind (vdp_dump_tileset m pixels) = other
kind (vdp_pixel m n y x) = other
kind (vdp_repair list) = repairing
kind (vdp_write_tile m tile codes) = other
kind (vdp_read_tile m tile codes) = other
kind (vdp_record_out s k port value) = other
kind (vdp_record_input s k port) = other
kind (vdp_record_step s k n) = other
kind (vdp_record_next s k) = other
kind vdp_version = other

-- the one that repairs
abbrev pub repairs : FaceCall → Bool
repairs c = is_repairing (kind c)

-- the two steps on a frame: `vdp_step`, and `vdp_layer_step`
abbrev pub on_frame_lem : RenderArea → Way → (vram frame : List ℕ) → FaceCall
on_frame_lem a plain m frame = vdp_step m frame (area_number a)
on_frame_lem a (with_layers layers) m frame = vdp_layer_step m frame layers (area_number a)

abbrev pub face : Face handheld
face = record { Call = FaceCall; called = called; Made = MadeBlock; device = state_of; kind = kind; on_frame_lem = on_frame_lem }
