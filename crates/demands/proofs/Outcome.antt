-- One outcome for every public contract: each theorem names the contract that the toolchain generates from the function's own clauses.
-- Assumes nothing.
use mathlib.Core.Path.{◌≡◌, refl, sym, ap, ◌∙◌}
use Prim.Native.Nat.{ℕ, ◌+◌, ◌-◌, ◌%◌, ◌<◌, ◌≤◌}
use native.Mathlib.Omega.{arith}
use denote.RattleType.{RattleType}
use denote.Param.Laws.{Laws, IsCopy}
use mir.Syntax.{Dict}
use Rattle.laws.specs.Lists.{at}
use Rattle.picture.specs.Picture.{top_of}
use Rattle.picture.specs.Area.{Names}
use Rattle.picture.specs.declared.RenderArea.{RenderArea}
use Rattle.picture.specs.declared.UnknownArea.{UnknownArea}
use Rattle.sprites.specs.Sprites.{Follows}
use Rattle.sprites.specs.declared.Next.{Next}
use Rattle.std.specs.Prelude.{MatchOption, IfSome, Result, Ok, Err}
use Rattle.std.specs.declared.option.Option.{Option}
use Rattle.std.specs.declared.option.Option.TheVariants.{None, Some}
use Rattle.demands.specs.Outcome.{OneOutcome, OneOutcomeSeen, PaintedRow}
use Rattle.bitmap.proofs.Bitmap.new as bitmap-new
use Rattle.bitmap.proofs.Bitmap.set as bitmap-set
use Rattle.bitmap.proofs.Bitmap.get as bitmap-get
use Rattle.bitmap.proofs.Bitmap.join as bitmap-join
use Rattle.bitmap.proofs.window
use Rattle.bitmap.proofs.lower
use Rattle.bitmap.proofs.upper
use Rattle.colour.proofs.rgb
use Rattle.colour.proofs.palette_recompute
use Rattle.colour.proofs.home_rgb
use Rattle.colour.proofs.home_palette_recompute
use Rattle.raster.proofs.Raster.advance
use Rattle.raster.proofs.Raster.line_interrupt_is_up
use Rattle.raster.proofs.Raster.line_interrupt_update
use Rattle.raster.proofs.U8FromLineTable.from as table-number
use Rattle.raster.proofs.table_from
use Rattle.raster.proofs.unnamed_table
use Rattle.picture.proofs.area_from
use Rattle.picture.proofs.RenderAreaTryFromU8.try_from as area-named
use Rattle.picture.proofs.U8FromRenderArea.from as area-numbered
use Rattle.picture.proofs.screen_of
use Rattle.small.proofs.four_at
use Rattle.small.proofs.weight
use Rattle.small.proofs.is_set
use Rattle.tile.proofs.mark
use Rattle.tile.proofs.pixel_code
use Rattle.tile.proofs.pixel_set_full
use Rattle.tile.proofs.bytes_of
use Rattle.tile.proofs.character_line
use Rattle.tile.proofs.character_whole
use Rattle.tile.proofs.sprite_columns
use Rattle.tile.proofs.character_line_sprite
use Rattle.tile.proofs.character_line_sprite_bitmap
use Rattle.tile.proofs.own_columns
use Rattle.background.proofs.names_at
use Rattle.background.proofs.line_at as tile-line-at
use Rattle.background.proofs.cut_of
use Rattle.background.proofs.home_column
use Rattle.background.proofs.home_line
use Rattle.background.proofs.render_background_line
use Rattle.stand.proofs.settings
use Rattle.sprites.proofs.early_of
use Rattle.sprites.proofs.table_at
use Rattle.sprites.proofs.height
use Rattle.sprites.proofs.line_at as sprite-line-at
use Rattle.sprites.proofs.next_sprite
use Rattle.picture.specs.Tile.{map_colour}
use Rattle.pixel.specs.Column.{line_at}
use Rattle.pixel.proofs.one_column.column_at
use Rattle.pixel.proofs.spot_at
use Rattle.row.proofs.render_line
use Rattle.refusal.proofs.refusal_number
use Rattle.refusal.proofs.U8FromRefusal.from as refusal-numbered
use Rattle.front.proofs.Front.write as front_write
use Rattle.front.proofs.Front.read as front_read
use Rattle.vdp.proofs.VdpState.new
use Rattle.vdp.proofs.VdpState.with_table
use Rattle.vdp.proofs.VdpState.out
use Rattle.vdp.proofs.VdpState.input
use Rattle.points.proofs.U8FromVdpInt.from as interrupt-number
use Rattle.points.proofs.U8FromDisplayRefresh.from as report-number
use Rattle.points.proofs.row_size
use Rattle.points.proofs.row_due
use Rattle.points.proofs.row_count
use Rattle.points.proofs.frame_due
use Rattle.points.proofs.layer_due
use Rattle.points.proofs.finish
use Rattle.row.proofs.points_run.draw
use Rattle.row.proofs.points_run.draw_in
use Rattle.row.proofs.points_run.row_points
use Rattle.row.proofs.points_run.frame_points
use Rattle.row.proofs.points_run.layer_row_points
use Rattle.std.specs.declared.clone.Clone as Clone
use Rattle.row.specs.declared.machine.Machine as Machine
use Rattle.row.specs.Machine.{joined_by}
use Rattle.row.proofs.machine.Machine.registers as machine-registers
use Rattle.row.proofs.machine.Machine.raster as machine-raster
use Rattle.row.proofs.machine.Machine.status as machine-status
use Rattle.row.proofs.machine.Machine.colours as machine-colours
use Rattle.row.proofs.machine.Machine.after as machine-after
use Rattle.row.proofs.machine.join as machine-join
use Rattle.row.proofs.machine.row_step as machine-row-step
use Rattle.row.proofs.machine.frame_step as machine-frame-step
use Rattle.row.proofs.machine.layer_row_step as machine-layer-row-step
use Rattle.look.proofs.machine_look.layer_frame_step as machine-layer-frame-step
use Rattle.look.proofs.layer_frame_points
use Rattle.step.proofs.row_step
use Rattle.step.proofs.frame_step
use Rattle.step.proofs.layer_row_step
use Rattle.step.proofs.colours_of
use Rattle.step.proofs.join
use Rattle.look.proofs.layer_frame_step
use Rattle.look.proofs.row_view
use Rattle.look.proofs.screen_row
use Rattle.sprites.proofs.render_sprites_line
use Rattle.dump.proofs.dump_tileset as dump-sheet
use Rattle.raster.proofs.Raster.with_table as raster-with-table
use Rattle.front.proofs.Front.new as front-new
use Rattle.look.proofs.dump_tileset
use Rattle.look.proofs.pixel_at
use Rattle.home.proofs.HomeState.new as home-new
use Rattle.home.proofs.HomeState.with_table as home-with-table
use Rattle.home.proofs.HomeState.out as home-out
use Rattle.home.proofs.HomeState.input as home-input
use Rattle.home.proofs.row_step as home-row-step
use Rattle.home.proofs.frame_step as home-frame-step
use Rattle.look.proofs.home_look.row_view as home-row-view
use Rattle.look.proofs.home_look.dump_tileset as home-dump-tileset
use Rattle.tile_codes.proofs.write_tile
use Rattle.tile_codes.proofs.read_tile
use Rattle.tile_codes.proofs.sheet
use Rattle.fields.proofs.flag_of
use Rattle.fields.proofs.latch_in
use Rattle.fields.proofs.address_in
use Rattle.fields.proofs.store_latch
use Rattle.fields.proofs.store_address
use Rattle.fields.proofs.store_colour
use Rattle.inplace.proofs.write as write-in-place
use Rattle.inplace.proofs.read as read_in_place
use Rattle.block_ports.proofs.out as out-in-place
use Rattle.block_ports.proofs.input as input-in-place
use Rattle.block.proofs.well_formed
use Rattle.block.proofs.fresh
use Rattle.block.proofs.mark_of
use Rattle.block.proofs.has_room
use Rattle.block.proofs.registers
use Rattle.block.proofs.raster_in
use Rattle.block.proofs.palette_in
use Rattle.block.proofs.cache_in
use Rattle.block.proofs.cached_colour
use Rattle.block_repair.proofs.repair
use Rattle.trace_record.proofs.record_at
use Rattle.trace_record.proofs.record_on
use Rattle.trace_record.proofs.area_number
use Rattle.trace_record.proofs.put_all
use Rattle.trace_record.proofs.put_record
use Rattle.trace_record.proofs.size_of
use Rattle.trace_reader.proofs.past_record
use Rattle.trace_reader.proofs.at_end
use Rattle.face.proofs.vdp_new
use Rattle.face.proofs.vdp_repair
use Rattle.face.proofs.vdp_new_table
use Rattle.face.proofs.vdp_out
use Rattle.face.proofs.vdp_input
use Rattle.face.proofs.vdp_step
use Rattle.face.proofs.vdp_row_step
use Rattle.face.proofs.vdp_layer_step
use Rattle.face.proofs.vdp_layer_row_step
use Rattle.face.proofs.vdp_dump_tileset
use Rattle.face.proofs.vdp_version
use Rattle.face.proofs.vdp_write_tile
use Rattle.face.proofs.vdp_read_tile
use Rattle.face.proofs.vdp_pixel
use Rattle.face.proofs.vdp_record_out
use Rattle.face.proofs.vdp_record_input
use Rattle.face.proofs.vdp_record_step
use Rattle.face.proofs.vdp_record_next
use Rattle.trace_run.proofs.Device.handheld as device-handheld
use Rattle.trace_run.proofs.Device.home as device-home
use Rattle.trace_text.proofs.end.put_last
use Rattle.trace_text.proofs.end.pixel_count
use Rattle.trace_text.proofs.end.put_picture
use Rattle.trace_run.proofs.output.trace
use Rattle.trace_run.proofs.output.snapshot
use Rattle.trace_run.specs.Run.{World}
use Rattle.trace_text.proofs.put_numbered
use Rattle.trace_text.proofs.put_answer
use Rattle.trace_run.proofs.turn
use Rattle.column.proofs.fates
use Rattle.column.proofs.owner_of
use Rattle.word.proofs.asked
use Rattle.word.proofs.number
use Rattle.word.proofs.word_of

-- ---- bitmap
pub bitmap_new_once : OneOutcome 0 bitmap-new.Kinds.ps bitmap-new.Kinds.r bitmap-new.Reads.Asked bitmap-new.Reads.Learnt
bitmap_new_once κs a q z z' w w' e f = (λ i. record { bits = (e ∙ sym f) i }, refl)

pub bitmap_set_once : OneOutcome 0 bitmap-set.Kinds.ps bitmap-set.Kinds.r bitmap-set.Reads.Asked bitmap-set.Reads.Learnt
bitmap_set_once κs a q z z' w w' e f = (λ i. record { bits = (e ∙ sym f) i }, refl)

pub bitmap_get_once : OneOutcome 0 bitmap-get.Kinds.ps bitmap-get.Kinds.r bitmap-get.Reads.Asked bitmap-get.Reads.Learnt
bitmap_get_once κs a q z z' w w' e f = (e ∙ sym f, refl)

pub bitmap_join_once : OneOutcome 0 bitmap-join.Kinds.ps bitmap-join.Kinds.r bitmap-join.Reads.Asked bitmap-join.Reads.Learnt
bitmap_join_once κs a q z z' w w' e f = (λ i. record { bits = (e ∙ sym f) i }, refl)

pub window_once : OneOutcome 0 window.Kinds.ps window.Kinds.r window.Reads.Asked window.Reads.Learnt
window_once κs a q z z' w w' e f = (e ∙ sym f, refl)

pub lower_once : OneOutcome 0 lower.Kinds.ps lower.Kinds.r lower.Reads.Asked lower.Reads.Learnt
lower_once κs a q z z' w w' e f = (e ∙ sym f, refl)

pub upper_once : OneOutcome 0 upper.Kinds.ps upper.Kinds.r upper.Reads.Asked upper.Reads.Learnt
upper_once κs a q z z' w w' e f = (e ∙ sym f, refl)

-- ---- colour
pub rgb_once : OneOutcome 0 rgb.Kinds.ps rgb.Kinds.r rgb.Reads.Asked rgb.Reads.Learnt
rgb_once κs a q z z' w w' e f = (e ∙ sym f, refl)

pub palette_recompute_once : OneOutcome 0 palette_recompute.Kinds.ps palette_recompute.Kinds.r palette_recompute.Reads.Asked
    palette_recompute.Reads.Learnt
palette_recompute_once κs a q z z' w w' e f = (e ∙ sym f, refl)

pub home_rgb_once : OneOutcome 0 home_rgb.Kinds.ps home_rgb.Kinds.r home_rgb.Reads.Asked home_rgb.Reads.Learnt
home_rgb_once κs a q z z' w w' e f = (e ∙ sym f, refl)

pub home_palette_recompute_once : OneOutcome 0 home_palette_recompute.Kinds.ps home_palette_recompute.Kinds.r home_palette_recompute.Reads.Asked
    home_palette_recompute.Reads.Learnt
home_palette_recompute_once κs a q z z' w w' e f = (e ∙ sym f, refl)

-- ---- raster
pub table_number_once : OneOutcome 0 table-number.Kinds.ps table-number.Kinds.r table-number.Reads.Asked table-number.Reads.Learnt
table_number_once κs a q z z' w w' e f = (e ∙ sym f, refl)

pub table_from_once : OneOutcome 0 table_from.Kinds.ps table_from.Kinds.r table_from.Reads.Asked table_from.Reads.Learnt
table_from_once κs a q z z' w w' e f = (e ∙ sym f, refl)

pub unnamed_table_once : OneOutcome 0 unnamed_table.Kinds.ps unnamed_table.Kinds.r unnamed_table.Reads.Asked unnamed_table.Reads.Learnt
unnamed_table_once κs a q z z' w w' e f = (e ∙ sym f, refl)

pub advance_once : OneOutcome 0 advance.Kinds.ps advance.Kinds.r advance.Reads.Asked advance.Reads.Learnt
advance_once κs a q z z' w w' e f = (e ∙ sym f, refl)

pub line_interrupt_is_up_once : OneOutcome 0 line_interrupt_is_up.Kinds.ps line_interrupt_is_up.Kinds.r line_interrupt_is_up.Reads.Asked
    line_interrupt_is_up.Reads.Learnt
line_interrupt_is_up_once κs a q z z' w w' e f = (e ∙ sym f, refl)

pub line_interrupt_update_once : OneOutcome 0 line_interrupt_update.Kinds.ps line_interrupt_update.Kinds.r line_interrupt_update.Reads.Asked
    line_interrupt_update.Reads.Learnt
line_interrupt_update_once κs a q z z' w w' e f = (e ∙ sym f, refl)

-- ---- picture
pub area_from_once : OneOutcome 0 area_from.Kinds.ps area_from.Kinds.r area_from.Reads.Asked area_from.Reads.Learnt
area_from_once κs a q z z' w w' e f = (e ∙ sym f, refl)

names_one : (n : ℕ) (r s : Result RenderArea UnknownArea) → Names n r → Names n s → r ≡ s
names_one n (Ok a) (Ok b) e f = ap Ok (e.1 ∙ sym f.1)
names_one n (Ok a) (Err y) e f = absurd (omega (arith, e.0))
names_one n (Err x) (Ok b) e f = absurd (omega (arith, f.0))
names_one n (Err x) (Err y) e f = refl

pub area_named_once : OneOutcome 0 area-named.Kinds.ps area-named.Kinds.r area-named.Reads.Asked area-named.Reads.Learnt
area_named_once κs a q z z' w w' e f = (names_one a.0 z z' e f, refl)

pub area_numbered_once : OneOutcome 0 area-numbered.Kinds.ps area-numbered.Kinds.r area-numbered.Reads.Asked area-numbered.Reads.Learnt
area_numbered_once κs a q z z' w w' e f = (e ∙ sym f, refl)

pub screen_of_once : OneOutcome 0 screen_of.Kinds.ps screen_of.Kinds.r screen_of.Reads.Asked screen_of.Reads.Learnt
screen_of_once κs a q z z' w w' e f = (e ∙ sym f, refl)

-- ---- small
pub four_at_once : OneOutcome 1 four_at.Kinds.ps four_at.Kinds.r four_at.Reads.Asked four_at.Reads.Learnt
four_at_once κs a q z z' w w' e f = (e ∙ sym f, refl)

pub weight_once : OneOutcome 0 weight.Kinds.ps weight.Kinds.r weight.Reads.Asked weight.Reads.Learnt
weight_once κs a q z z' w w' e f = (e.0 ∙ sym f.0, refl)

pub is_set_once : OneOutcome 0 is_set.Kinds.ps is_set.Kinds.r is_set.Reads.Asked is_set.Reads.Learnt
is_set_once κs a q z z' w w' e f = (e ∙ sym f, refl)

-- ---- column
pub fates_once : OneOutcome 0 fates.Kinds.ps fates.Kinds.r fates.Reads.Asked fates.Reads.Learnt
fates_once κs a q z z' w w' e f = (
  λ i. record { marks = (e.0 ∙ sym f.0) i; drawn = (e.1 ∙ sym f.1) i; held = (e.2 ∙ sym f.2) i },
  refl,
)

pub owner_of_once : OneOutcome 0 owner_of.Kinds.ps owner_of.Kinds.r owner_of.Reads.Asked owner_of.Reads.Learnt
owner_of_once κs a q z z' w w' e f = (e ∙ sym f, refl)

-- ---- tile
pub mark_once : OneOutcome 0 mark.Kinds.ps mark.Kinds.r mark.Reads.Asked mark.Reads.Learnt
mark_once κs a q z z' w w' e f = (e ∙ sym f, refl)

pub pixel_code_once : OneOutcome 1 pixel_code.Kinds.ps pixel_code.Kinds.r pixel_code.Reads.Asked pixel_code.Reads.Learnt
pixel_code_once κs a q z z' w w' e f = (e.0 ∙ sym f.0, refl)

pub pixel_set_full_once : OneOutcome 1 pixel_set_full.Kinds.ps pixel_set_full.Kinds.r pixel_set_full.Reads.Asked pixel_set_full.Reads.Learnt
pixel_set_full_once κs a q z z' w w' e f = (refl, λ i. ((e ∙ sym f) i, w.1))

pub bytes_of_once : OneOutcome 1 bytes_of.Kinds.ps bytes_of.Kinds.r bytes_of.Reads.Asked bytes_of.Reads.Learnt
bytes_of_once κs a q z z' w w' e f = (e.0 ∙ sym f.0, refl)

pub character_line_once : OneOutcome 3 character_line.Kinds.ps character_line.Kinds.r character_line.Reads.Asked character_line.Reads.Learnt
character_line_once κs a q z z' w w' e f = (e.1 ∙ sym f.1, λ i. ((e.0 ∙ sym f.0) i, w.1))

pub character_whole_once : OneOutcome 3 character_whole.Kinds.ps character_whole.Kinds.r character_whole.Reads.Asked character_whole.Reads.Learnt
character_whole_once κs a q z z' w w' e f = (e.1 ∙ sym f.1, λ i. ((e.0 ∙ sym f.0) i, w.1))

pub character_line_sprite_once : OneOutcome 4 character_line_sprite.Kinds.ps character_line_sprite.Kinds.r character_line_sprite.Reads.Asked
    character_line_sprite.Reads.Learnt
character_line_sprite_once κs a q z z' w w' e f = (
  λ i. record {
    marks = (e.1.0 ∙ sym f.1.0) i;
    drawn = (e.1.1 ∙ sym f.1.1) i;
    held = (e.1.2 ∙ sym f.1.2) i;
  },
  λ i. ((e.0 ∙ sym f.0) i, w.1),
)

pub sprite_columns_once : OneOutcome 3 sprite_columns.Kinds.ps sprite_columns.Kinds.r sprite_columns.Reads.Asked sprite_columns.Reads.Learnt
sprite_columns_once κs a q z z' w w' e f = (
  λ i. record {
    marks = (e.1.0 ∙ sym f.1.0) i;
    drawn = (e.1.1 ∙ sym f.1.1) i;
    held = (e.1.2 ∙ sym f.1.2) i;
  },
  λ i. ((e.0 ∙ sym f.0) i, w.1),
)

pub character_line_sprite_bitmap_once : OneOutcome 1 character_line_sprite_bitmap.Kinds.ps character_line_sprite_bitmap.Kinds.r
    character_line_sprite_bitmap.Reads.Asked character_line_sprite_bitmap.Reads.Learnt
character_line_sprite_bitmap_once κs a q z z' w w' e f = (e ∙ sym f, refl)

pub own_columns_once : OneOutcome 1 own_columns.Kinds.ps own_columns.Kinds.r own_columns.Reads.Asked own_columns.Reads.Learnt
own_columns_once κs a q z z' w w' e f = (refl, λ i. ((e ∙ sym f) i, w.1))

-- ---- background
pub names_at_once : OneOutcome 0 names_at.Kinds.ps names_at.Kinds.r names_at.Reads.Asked names_at.Reads.Learnt
names_at_once κs a q z z' w w' e f = (e.0 ∙ sym f.0, refl)

pub tile_line_at_once : OneOutcome 0 tile-line-at.Kinds.ps tile-line-at.Kinds.r tile-line-at.Reads.Asked tile-line-at.Reads.Learnt
tile_line_at_once κs a q z z' w w' e f = (e.0 ∙ sym f.0, refl)

pub cut_of_once : OneOutcome 0 cut_of.Kinds.ps cut_of.Kinds.r cut_of.Reads.Asked cut_of.Reads.Learnt
cut_of_once κs a q z z' w w' e f = (e.0 ∙ sym f.0, refl)

pub home_column_once : OneOutcome 0 home_column.Kinds.ps home_column.Kinds.r home_column.Reads.Asked home_column.Reads.Learnt
home_column_once κs a q z z' w w' e f = (e.0 ∙ sym f.0, refl)

pub home_line_once : OneOutcome 0 home_line.Kinds.ps home_line.Kinds.r home_line.Reads.Asked home_line.Reads.Learnt
home_line_once κs a q z z' w w' e f = (e ∙ sym f, refl)

pub render_background_line_once : OneOutcome 3 render_background_line.Kinds.ps render_background_line.Kinds.r render_background_line.Reads.Asked
    render_background_line.Reads.Learnt
render_background_line_once κs a q z z' w w' e f =
    (λ i. record { bits = (e.1 ∙ sym f.1) i }, λ i. ((e.0 ∙ sym f.0) i, w.1))

-- ---- sprites
pub settings_once : OneOutcome 0 settings.Kinds.ps settings.Kinds.r settings.Reads.Asked settings.Reads.Learnt
settings_once κs a q z z' w w' e f = (e.0 ∙ sym f.0, refl)

pub early_of_once : OneOutcome 0 early_of.Kinds.ps early_of.Kinds.r early_of.Reads.Asked early_of.Reads.Learnt
early_of_once κs a q z z' w w' e f = (e.0 ∙ sym f.0, refl)

pub table_at_once : OneOutcome 0 table_at.Kinds.ps table_at.Kinds.r table_at.Reads.Asked table_at.Reads.Learnt
table_at_once κs a q z z' w w' e f = (e.0 ∙ sym f.0, refl)

pub height_once : OneOutcome 0 height.Kinds.ps height.Kinds.r height.Reads.Asked height.Reads.Learnt
height_once κs a q z z' w w' e f = (e.0 ∙ sym f.0, refl)

pub sprite_line_at_once : OneOutcome 0 sprite-line-at.Kinds.ps sprite-line-at.Kinds.r sprite-line-at.Reads.Asked sprite-line-at.Reads.Learnt
sprite_line_at_once κs a q z z' w w' e f = (e.0 ∙ sym f.0, refl)

-- what the list begins with is one sprite, and its line one; it begins with none, or with one
same_next : (m g : ℕ → ℕ) (l from : ℕ) (z z' : Option Next)
    → MatchOption z (Follows m g l from 64 0) (λ s. Follows m g l from s.n s.d) → IfSome z (λ s. (from ≤ s.n) × (s.n < 64) × (s.d < 16))
    → MatchOption z' (Follows m g l from 64 0) (λ s. Follows m g l from s.n s.d) → IfSome z' (λ s. (from ≤ s.n) × (s.n < 64) × (s.d < 16)) → z ≡ z'
same_next m g l from None None e b f c = refl
same_next m g l from None (Some s) e b f c =
    let s = sym (f.next c.1) ∙ e.none (omega arith) in absurd (let z : ◌≡◌ {A = ℕ} 0 1 = cc in omega arith)
same_next m g l from (Some s) None e b f c =
    let s = sym (e.next b.1) ∙ f.none (omega arith) in absurd (let z : ◌≡◌ {A = ℕ} 0 1 = cc in omega arith)
same_next m g l from (Some s) (Some t) e b f c =
    let both = sym (e.next b.1) ∙ f.next c.1 in
    let n : s.n ≡ t.n = cc in
    let d : s.d ≡ t.d = e.below b.1 ∙ ap (λ (i : ℕ). l - top_of m g i) n ∙ sym (f.below c.1) in
    λ i. Some (record { n = n i; d = d i })

pub next_sprite_once : OneOutcome 1 next_sprite.Kinds.ps next_sprite.Kinds.r next_sprite.Reads.Asked next_sprite.Reads.Learnt
next_sprite_once κs a q z z' w w' e f = (same_next _ _ _ _ z z' e.0 e.1 f.0 f.1, refl)

-- the contract speaks of a row that is painted in the colours, as `row` lends it
pub render_sprites_line_once :
    OneOutcome 4 render_sprites_line.Kinds.ps render_sprites_line.Kinds.r
    (λ κs a. PaintedRow a.0.now a.1.0.now a.1.1.1.0.now a.1.1.1.1.1.1.1.0 a.1.1.1.1.1.1.1.1.0.bits)
    render_sprites_line.Reads.Learnt
render_sprites_line_once κs a q z z' w w' e f =
    let x = e q.row₀ q.layers₀ q.mask q.colour q.is_mask q.is_painted q.is_clear in
    let y = f q.row₀ q.layers₀ q.mask q.colour q.is_mask q.is_painted q.is_clear in (
      λ i. record { hit = (x.struck ∙ sym y.struck) i; ninth = (x.many ∙ sym y.many) i },
      λ i. ((x.bytes ∙ sym y.bytes) i, ((x.owners ∙ sym y.owners) i, w.1.1)),
    )

-- ---- pixel
-- of any marks and any map that agree with the scene's at the column, its own among them
pub column_at_once : OneOutcome 1 column_at.Kinds.ps column_at.Kinds.r column_at.Reads.Asked column_at.Reads.Learnt
column_at_once κs a q z z' w w' e f =
    let b = a.1.1.1.0 in
    let col = a.1.1.1.1.1.0 in
    let m : ℕ → ℕ = λ x. map_colour (at a.0.now) b.names ((b.sx + col) % 256) (line_at b col) in
    (e _ m (λ i h. refl) refl ∙ sym (f _ m (λ i h. refl) refl), refl)

pub spot_at_once : OneOutcome 1 spot_at.Kinds.ps spot_at.Kinds.r spot_at.Reads.Asked spot_at.Reads.Learnt
spot_at_once κs a q z z' w w' e f = (e.0 ∙ sym f.0, refl)

-- ---- row
pub render_line_once : OneOutcome 4 render_line.Kinds.ps render_line.Kinds.r render_line.Reads.Asked render_line.Reads.Learnt
render_line_once κs a q z z' w w' e f =
    (e.0.status ∙ sym f.0.status, λ i. ((e.0.bytes ∙ sym f.0.bytes) i, ((e.1 ∙ sym f.1) i, w.1.1)))

-- ---- vdp
pub refusal_numbered_once : OneOutcome 0 refusal-numbered.Kinds.ps refusal-numbered.Kinds.r refusal-numbered.Reads.Asked refusal-numbered.Reads.Learnt
refusal_numbered_once κs a q z z' w w' e f = (e ∙ sym f, refl)

pub refusal_number_once : OneOutcome 0 refusal_number.Kinds.ps refusal_number.Kinds.r refusal_number.Reads.Asked refusal_number.Reads.Learnt
refusal_number_once κs a q z z' w w' e f = (e.0 ∙ sym f.0, refl)

pub new_once : OneOutcome 0 new.Kinds.ps new.Kinds.r new.Reads.Asked new.Reads.Learnt
new_once κs a q z z' w w' e f = (e ∙ sym f, refl)

pub with_table_once : OneOutcome 0 with_table.Kinds.ps with_table.Kinds.r with_table.Reads.Asked with_table.Reads.Learnt
with_table_once κs a q z z' w w' e f = (e ∙ sym f, refl)

pub front_write_once : OneOutcome 1 front_write.Kinds.ps front_write.Kinds.r front_write.Reads.Asked front_write.Reads.Learnt
front_write_once κs a q z z' w w' e f = (e.answer ∙ sym f.answer, λ i. (tt, ((e.memory ∙ sym f.memory) i, w.1.1)))

pub front_read_once : OneOutcome 1 front_read.Kinds.ps front_read.Kinds.r front_read.Reads.Asked front_read.Reads.Learnt
front_read_once κs a q z z' w w' e f = (e ∙ sym f, refl)

pub out_once : OneOutcome 1 out.Kinds.ps out.Kinds.r out.Reads.Asked out.Reads.Learnt
out_once κs a q z z' w w' e f = (e.answer ∙ sym f.answer, λ i. (tt, ((e.memory ∙ sym f.memory) i, w.1.1)))

pub input_once : OneOutcome 1 input.Kinds.ps input.Kinds.r input.Reads.Asked input.Reads.Learnt
input_once κs a q z z' w w' e f = (e ∙ sym f, refl)

-- ---- step
pub interrupt_number_once : OneOutcome 0 interrupt-number.Kinds.ps interrupt-number.Kinds.r interrupt-number.Reads.Asked interrupt-number.Reads.Learnt
interrupt_number_once κs a q z z' w w' e f = (e.0 ∙ sym f.0, refl)

pub report_number_once : OneOutcome 0 report-number.Kinds.ps report-number.Kinds.r report-number.Reads.Asked report-number.Reads.Learnt
report_number_once κs a q z z' w w' e f = (e.0 ∙ sym f.0, refl)

pub row_size_once : OneOutcome 0 row_size.Kinds.ps row_size.Kinds.r row_size.Reads.Asked row_size.Reads.Learnt
row_size_once κs a q z z' w w' e f = (e ∙ sym f, refl)

pub row_count_once : OneOutcome 0 row_count.Kinds.ps row_count.Kinds.r row_count.Reads.Asked row_count.Reads.Learnt
row_count_once κs a q z z' w w' e f = (e ∙ sym f, refl)

pub finish_once : OneOutcome 0 finish.Kinds.ps finish.Kinds.r finish.Reads.Asked finish.Reads.Learnt
finish_once κs a q z z' w w' e f = (e ∙ sym f, refl)

pub row_due_once : OneOutcome 1 row_due.Kinds.ps row_due.Kinds.r row_due.Reads.Asked row_due.Reads.Learnt
row_due_once κs a q z z' w w' e f = (e ∙ sym f, refl)

pub frame_due_once : OneOutcome 1 frame_due.Kinds.ps frame_due.Kinds.r frame_due.Reads.Asked frame_due.Reads.Learnt
frame_due_once κs a q z z' w w' e f = (e ∙ sym f, refl)

pub layer_due_once : OneOutcome 0 layer_due.Kinds.ps layer_due.Kinds.r layer_due.Reads.Asked layer_due.Reads.Learnt
layer_due_once κs a q z z' w w' e f = (e.0 ∙ sym f.0, refl)

pub draw_once : OneOutcome 4 draw.Kinds.ps draw.Kinds.r draw.Reads.Asked draw.Reads.Learnt
draw_once κs a q z z' w w' e f = (
  e.0 ∙ sym f.0,
  λ i. (tt, (tt, (tt, (tt, ((e.1.0 ∙ sym f.1.0) i, ((e.1.1 ∙ sym f.1.1) i, w.1.1.1.1.1.1)))))),
)

pub draw_in_once : OneOutcome 4 draw_in.Kinds.ps draw_in.Kinds.r draw_in.Reads.Asked draw_in.Reads.Learnt
draw_in_once κs a q z z' w w' e f = (
  e.0 ∙ sym f.0,
  λ i. (tt, (tt, (tt, (tt, ((e.1.0 ∙ sym f.1.0) i, ((e.1.1 ∙ sym f.1.1) i, w.1.1.1.1.1.1)))))),
)

pub row_points_once : OneOutcome 3 row_points.Kinds.ps row_points.Kinds.r row_points.Reads.Asked row_points.Reads.Learnt
row_points_once κs a q z z' w w' e f =
    (e.answer ∙ sym f.answer, λ i. (tt, (tt, (tt, (tt, (tt, ((e.bytes ∙ sym f.bytes) i, w.1.1.1.1.1.1)))))))

pub frame_points_once : OneOutcome 3 frame_points.Kinds.ps frame_points.Kinds.r frame_points.Reads.Asked frame_points.Reads.Learnt
frame_points_once κs a q z z' w w' e f =
    (e.answer ∙ sym f.answer, λ i. (tt, (tt, (tt, (tt, (tt, ((e.bytes ∙ sym f.bytes) i, w.1.1.1.1.1.1)))))))

pub layer_row_points_once : OneOutcome 4 layer_row_points.Kinds.ps layer_row_points.Kinds.r layer_row_points.Reads.Asked layer_row_points.Reads.Learnt
layer_row_points_once κs a q z z' w w' e f = (
  e.points.answer ∙ sym f.points.answer,
  λ i. (tt, (tt, (tt, (tt, (tt, ((e.points.bytes ∙ sym f.points.bytes) i, ((e.owners ∙ sym f.owners) i, w.1.1.1.1.1.1.1))))))),
)

pub colours_of_once : OneOutcome 0 colours_of.Kinds.ps colours_of.Kinds.r colours_of.Reads.Asked colours_of.Reads.Learnt
colours_of_once κs a q z z' w w' e f = (e ∙ sym f, refl)

pub join_once : OneOutcome 0 join.Kinds.ps join.Kinds.r join.Reads.Asked join.Reads.Learnt
join_once κs a q z z' w w' e f = (e ∙ sym f, refl)

pub row_step_once : OneOutcome 2 row_step.Kinds.ps row_step.Kinds.r row_step.Reads.Asked row_step.Reads.Learnt
row_step_once κs a q z z' w w' e f = (e.answer ∙ sym f.answer, λ i. (tt, (tt, ((e.bytes ∙ sym f.bytes) i, w.1.1.1))))

pub frame_step_once : OneOutcome 2 frame_step.Kinds.ps frame_step.Kinds.r frame_step.Reads.Asked frame_step.Reads.Learnt
frame_step_once κs a q z z' w w' e f = (e.answer ∙ sym f.answer, λ i. (tt, (tt, ((e.bytes ∙ sym f.bytes) i, w.1.1.1))))

pub layer_row_step_once : OneOutcome 3 layer_row_step.Kinds.ps layer_row_step.Kinds.r layer_row_step.Reads.Asked layer_row_step.Reads.Learnt
layer_row_step_once κs a q z z' w w' e f =
    (e.answer ∙ sym f.answer, λ i. (tt, (tt, ((e.bytes ∙ sym f.bytes) i, ((e.owners ∙ sym f.owners) i, w.1.1.1.1)))))

-- ---- the step of any machine: its type T, the type U of its record, and the members of its `Machine`
pub machine_registers_once :
    (T U : RattleType) (L : Laws T) (M : Laws U) (C : IsCopy U) (g : Machine.Ghosts T.Denot U.Denot) (i : Dict) (k : Clone.Ghosts U.Denot) (j : Dict) →
    OneOutcome 3 (machine-registers.Kinds.ps T U L M C) (machine-registers.Kinds.r T U L M C) (machine-registers.Reads.Asked T U L M C g i k j)
    (machine-registers.Reads.Learnt T U L M C g i k j)
machine_registers_once T U L M C g i k j κs a q z z' w w' e f = (e ∙ sym f, refl)

pub machine_raster_once :
    (T U : RattleType) (L : Laws T) (M : Laws U) (C : IsCopy U) (g : Machine.Ghosts T.Denot U.Denot) (i : Dict) (k : Clone.Ghosts U.Denot) (j : Dict) →
    OneOutcome 3 (machine-raster.Kinds.ps T U L M C) (machine-raster.Kinds.r T U L M C) (machine-raster.Reads.Asked T U L M C g i k j)
    (machine-raster.Reads.Learnt T U L M C g i k j)
machine_raster_once T U L M C g i k j κs a q z z' w w' e f = (e ∙ sym f, refl)

pub machine_status_once :
    (T U : RattleType) (L : Laws T) (M : Laws U) (C : IsCopy U) (g : Machine.Ghosts T.Denot U.Denot) (i : Dict) (k : Clone.Ghosts U.Denot) (j : Dict) →
    OneOutcome 3 (machine-status.Kinds.ps T U L M C) (machine-status.Kinds.r T U L M C) (machine-status.Reads.Asked T U L M C g i k j)
    (machine-status.Reads.Learnt T U L M C g i k j)
machine_status_once T U L M C g i k j κs a q z z' w w' e f = (e ∙ sym f, refl)

pub machine_colours_once :
    (T U : RattleType) (L : Laws T) (M : Laws U) (C : IsCopy U) (g : Machine.Ghosts T.Denot U.Denot) (i : Dict) (k : Clone.Ghosts U.Denot) (j : Dict) →
    OneOutcome 3 (machine-colours.Kinds.ps T U L M C) (machine-colours.Kinds.r T U L M C) (machine-colours.Reads.Asked T U L M C g i k j)
    (machine-colours.Reads.Learnt T U L M C g i k j)
machine_colours_once T U L M C g i k j κs a q z z' w w' e f = (e ∙ sym f, refl)

pub machine_after_once :
    (T U : RattleType) (L : Laws T) (M : Laws U) (C : IsCopy U) (g : Machine.Ghosts T.Denot U.Denot) (i : Dict) (k : Clone.Ghosts U.Denot) (j : Dict) →
    OneOutcome 2 (machine-after.Kinds.ps T U L M C) (machine-after.Kinds.r T U L M C) (machine-after.Reads.Asked T U L M C g i k j)
    (machine-after.Reads.Learnt T U L M C g i k j)
machine_after_once T U L M C g i k j κs a q z z' w w' e f = (e ∙ sym f, refl)

pub machine_join_once :
    (T U : RattleType) (L : Laws T) (M : Laws U) (C : IsCopy U) (g : Machine.Ghosts T.Denot U.Denot) (i : Dict) (k : Clone.Ghosts U.Denot) (j : Dict) →
    OneOutcome 2 (machine-join.Kinds.ps T U L M C) (machine-join.Kinds.r T U L M C) (machine-join.Reads.Asked T U L M C g i k j)
    (machine-join.Reads.Learnt T U L M C g i k j)
machine_join_once T U L M C g i k j κs a q z z' w w' e f = (e ∙ sym f, refl)

pub machine_row_step_once :
    (T U : RattleType) (L : Laws T) (M : Laws U) (C : IsCopy U) (g : Machine.Ghosts T.Denot U.Denot) (i : Dict) (k : Clone.Ghosts U.Denot) (j : Dict) →
    OneOutcome 4 (machine-row-step.Kinds.ps T U L M C) (machine-row-step.Kinds.r T U L M C) (machine-row-step.Reads.Asked T U L M C g i k j)
    (machine-row-step.Reads.Learnt T U L M C g i k j)
machine_row_step_once T U L M C g i k j κs a q z z' w w' e f = (
  e.answer ∙ ap (joined_by g.after a.0) (e.left.answer ∙ sym f.left.answer) ∙ sym f.answer,
  λ i. (tt, (tt, ((e.left.bytes ∙ sym f.left.bytes) i, w.1.1.1))),
)

pub machine_frame_step_once :
    (T U : RattleType) (L : Laws T) (M : Laws U) (C : IsCopy U) (g : Machine.Ghosts T.Denot U.Denot) (i : Dict) (k : Clone.Ghosts U.Denot) (j : Dict) →
    OneOutcome 4 (machine-frame-step.Kinds.ps T U L M C) (machine-frame-step.Kinds.r T U L M C) (machine-frame-step.Reads.Asked T U L M C g i k j)
    (machine-frame-step.Reads.Learnt T U L M C g i k j)
machine_frame_step_once T U L M C g i k j κs a q z z' w w' e f = (
  e.answer ∙ ap (joined_by g.after a.0) (e.left.answer ∙ sym f.left.answer) ∙ sym f.answer,
  λ i. (tt, (tt, ((e.left.bytes ∙ sym f.left.bytes) i, w.1.1.1))),
)

pub machine_layer_row_step_once :
    (T U : RattleType) (L : Laws T) (M : Laws U) (C : IsCopy U) (g : Machine.Ghosts T.Denot U.Denot) (i : Dict) (k : Clone.Ghosts U.Denot) (j : Dict) →
    OneOutcome 5 (machine-layer-row-step.Kinds.ps T U L M C) (machine-layer-row-step.Kinds.r T U L M C) (machine-layer-row-step.Reads.Asked T U L M C g i k j)
    (machine-layer-row-step.Reads.Learnt T U L M C g i k j)
machine_layer_row_step_once T U L M C g i k j κs a q z z' w w' e f = (
  e.answer ∙ ap (joined_by g.after a.0) (e.left.points.answer ∙ sym f.left.points.answer) ∙ sym f.answer,
  λ i. (tt, (tt, ((e.left.points.bytes ∙ sym f.left.points.bytes) i, ((e.left.owners ∙ sym f.left.owners) i, w.1.1.1.1)))),
)

pub machine_layer_frame_step_once :
    (T U : RattleType) (L : Laws T) (M : Laws U) (C : IsCopy U) (g : Machine.Ghosts T.Denot U.Denot) (i : Dict) (k : Clone.Ghosts U.Denot) (j : Dict) →
    OneOutcome 5 (machine-layer-frame-step.Kinds.ps T U L M C) (machine-layer-frame-step.Kinds.r T U L M C)
    (machine-layer-frame-step.Reads.Asked T U L M C g i k j) (machine-layer-frame-step.Reads.Learnt T U L M C g i k j)
machine_layer_frame_step_once T U L M C g i k j κs a q z z' w w' e f = (
  e.answer ∙ ap (joined_by g.after a.0) (e.left.points.answer ∙ sym f.left.points.answer) ∙ sym f.answer,
  λ i. (tt, (tt, ((e.left.points.bytes ∙ sym f.left.points.bytes) i, ((e.left.owners ∙ sym f.left.owners) i, w.1.1.1.1)))),
)

-- ---- home
pub home_new_once : OneOutcome 0 home-new.Kinds.ps home-new.Kinds.r home-new.Reads.Asked home-new.Reads.Learnt
home_new_once κs a q z z' w w' e f = (e ∙ sym f, refl)

pub home_with_table_once : OneOutcome 0 home-with-table.Kinds.ps home-with-table.Kinds.r home-with-table.Reads.Asked home-with-table.Reads.Learnt
home_with_table_once κs a q z z' w w' e f = (e ∙ sym f, refl)

pub home_out_once : OneOutcome 1 home-out.Kinds.ps home-out.Kinds.r home-out.Reads.Asked home-out.Reads.Learnt
home_out_once κs a q z z' w w' e f = (e.answer ∙ sym f.answer, λ i. (tt, ((e.memory ∙ sym f.memory) i, w.1.1)))

pub home_input_once : OneOutcome 1 home-input.Kinds.ps home-input.Kinds.r home-input.Reads.Asked home-input.Reads.Learnt
home_input_once κs a q z z' w w' e f = (e ∙ sym f, refl)

pub home_row_step_once : OneOutcome 2 home-row-step.Kinds.ps home-row-step.Kinds.r home-row-step.Reads.Asked home-row-step.Reads.Learnt
home_row_step_once κs a q z z' w w' e f = (e.answer ∙ sym f.answer, λ i. (tt, (tt, ((e.bytes ∙ sym f.bytes) i, w.1.1.1))))

pub home_frame_step_once : OneOutcome 2 home-frame-step.Kinds.ps home-frame-step.Kinds.r home-frame-step.Reads.Asked home-frame-step.Reads.Learnt
home_frame_step_once κs a q z z' w w' e f = (e.answer ∙ sym f.answer, λ i. (tt, (tt, ((e.bytes ∙ sym f.bytes) i, w.1.1.1))))

-- ---- look
pub layer_frame_points_once : OneOutcome 4 layer_frame_points.Kinds.ps layer_frame_points.Kinds.r layer_frame_points.Reads.Asked
    layer_frame_points.Reads.Learnt
layer_frame_points_once κs a q z z' w w' e f = (
  e.points.answer ∙ sym f.points.answer,
  λ i. (tt, (tt, (tt, (tt, (tt, ((e.points.bytes ∙ sym f.points.bytes) i, ((e.owners ∙ sym f.owners) i, w.1.1.1.1.1.1.1))))))),
)

pub layer_frame_step_once : OneOutcome 3 layer_frame_step.Kinds.ps layer_frame_step.Kinds.r layer_frame_step.Reads.Asked layer_frame_step.Reads.Learnt
layer_frame_step_once κs a q z z' w w' e f =
    (e.answer ∙ sym f.answer, λ i. (tt, (tt, ((e.bytes ∙ sym f.bytes) i, ((e.owners ∙ sym f.owners) i, w.1.1.1.1)))))

pub dump_tileset_once : OneOutcome 2 dump_tileset.Kinds.ps dump_tileset.Kinds.r dump_tileset.Reads.Asked dump_tileset.Reads.Learnt
dump_tileset_once κs a q z z' w w' e f = (e.outcome ∙ sym f.outcome, λ i. (tt, (tt, ((e.bytes ∙ sym f.bytes) i, tt))))

pub pixel_at_once : OneOutcome 1 pixel_at.Kinds.ps pixel_at.Kinds.r pixel_at.Reads.Asked pixel_at.Reads.Learnt
pixel_at_once κs a q z z' w w' e f = (e ∙ sym f, refl)

-- its answer is a part of the frame that it is lent: the bytes are told, and no contract tells an address
pub row_view_once : OneOutcomeSeen 1 row_view.Kinds.ps row_view.Kinds.r row_view.Reads.Asked row_view.Reads.Learnt (λ κs z. z.now)
row_view_once κs a q z z' w w' e f = (e ∙ sym f, refl)

pub screen_row_once : OneOutcomeSeen 1 screen_row.Kinds.ps screen_row.Kinds.r screen_row.Reads.Asked screen_row.Reads.Learnt (λ κs z. z.now)
screen_row_once κs a q z z' w w' e f = (e ∙ sym f, refl)

pub home_row_view_once : OneOutcomeSeen 1 home-row-view.Kinds.ps home-row-view.Kinds.r home-row-view.Reads.Asked home-row-view.Reads.Learnt
    (λ κs z. z.now)
home_row_view_once κs a q z z' w w' e f = (e ∙ sym f, refl)

pub home_dump_tileset_once : OneOutcome 2 home-dump-tileset.Kinds.ps home-dump-tileset.Kinds.r home-dump-tileset.Reads.Asked
    home-dump-tileset.Reads.Learnt
home_dump_tileset_once κs a q z z' w w' e f = (e.outcome ∙ sym f.outcome, λ i. (tt, (tt, ((e.bytes ∙ sym f.bytes) i, tt))))

-- ---- dump
pub dump_sheet_once : OneOutcome 3 dump-sheet.Kinds.ps dump-sheet.Kinds.r dump-sheet.Reads.Asked dump-sheet.Reads.Learnt
dump_sheet_once κs a q z z' w w' e f = (e.outcome ∙ sym f.outcome, λ i. (tt, (tt, (tt, ((e.bytes ∙ sym f.bytes) i, tt)))))

-- ---- fresh parts
pub raster_with_table_once : OneOutcome 0 raster-with-table.Kinds.ps raster-with-table.Kinds.r raster-with-table.Reads.Asked
    raster-with-table.Reads.Learnt
raster_with_table_once κs a q z z' w w' e f = (e ∙ sym f, refl)

pub front_new_once : OneOutcome 0 front-new.Kinds.ps front-new.Kinds.r front-new.Reads.Asked front-new.Reads.Learnt
front_new_once κs a q z z' w w' e f = (e ∙ sym f, refl)

-- ---- tile_codes
pub write_tile_once : OneOutcome 2 write_tile.Kinds.ps write_tile.Kinds.r write_tile.Reads.Asked write_tile.Reads.Learnt
write_tile_once κs a q z z' w w' e f = (e.outcome ∙ sym f.outcome, λ i. ((e.memory ∙ sym f.memory) i, w.1))

pub read_tile_once : OneOutcome 2 read_tile.Kinds.ps read_tile.Kinds.r read_tile.Reads.Asked read_tile.Reads.Learnt
read_tile_once κs a q z z' w w' e f = (e.outcome ∙ sym f.outcome, λ i. (tt, (tt, ((e.buffer ∙ sym f.buffer) i, tt))))

pub sheet_once : OneOutcome 2 sheet.Kinds.ps sheet.Kinds.r sheet.Reads.Asked sheet.Reads.Learnt
sheet_once κs a q z z' w w' e f = (e.0.count ∙ sym f.0.count, λ i. (tt, ((e.0.bytes ∙ sym f.0.bytes) i, tt)))

-- ---- block
pub well_formed_once : OneOutcome 1 well_formed.Kinds.ps well_formed.Kinds.r well_formed.Reads.Asked well_formed.Reads.Learnt
well_formed_once κs a q z z' w w' e f = (e ∙ sym f, refl)

pub mark_of_once : OneOutcome 0 mark_of.Kinds.ps mark_of.Kinds.r mark_of.Reads.Asked mark_of.Reads.Learnt
mark_of_once κs a q z z' w w' e f = (e ∙ sym f, refl)

pub has_room_once : OneOutcome 0 has_room.Kinds.ps has_room.Kinds.r has_room.Reads.Asked has_room.Reads.Learnt
has_room_once κs a q z z' w w' e f = (e ∙ sym f, refl)

pub fresh_once : OneOutcome 1 fresh.Kinds.ps fresh.Kinds.r fresh.Reads.Asked fresh.Reads.Learnt
fresh_once κs a q z z' w w' e f = (refl, λ i. ((e ∙ sym f) i, w.1))

pub registers_once : OneOutcome 1 registers.Kinds.ps registers.Kinds.r registers.Reads.Asked registers.Reads.Learnt
registers_once κs a q z z' w w' e f = (e ∙ sym f, refl)

pub raster_in_once : OneOutcome 1 raster_in.Kinds.ps raster_in.Kinds.r raster_in.Reads.Asked raster_in.Reads.Learnt
raster_in_once κs a q z z' w w' e f = (e ∙ sym f, refl)

pub palette_in_once : OneOutcome 1 palette_in.Kinds.ps palette_in.Kinds.r palette_in.Reads.Asked palette_in.Reads.Learnt
palette_in_once κs a q z z' w w' e f = (e ∙ sym f, refl)

pub cache_in_once : OneOutcome 1 cache_in.Kinds.ps cache_in.Kinds.r cache_in.Reads.Asked cache_in.Reads.Learnt
cache_in_once κs a q z z' w w' e f = (e ∙ sym f, refl)

pub cached_colour_once : OneOutcome 1 cached_colour.Kinds.ps cached_colour.Kinds.r cached_colour.Reads.Asked cached_colour.Reads.Learnt
cached_colour_once κs a q z z' w w' e f = (e ∙ sym f, refl)

-- ---- the fields of a block, and the ports in place
pub flag_of_once : OneOutcome 0 flag_of.Kinds.ps flag_of.Kinds.r flag_of.Reads.Asked flag_of.Reads.Learnt
flag_of_once κs a q z z' w w' e f = (e ∙ sym f, refl)

pub latch_in_once : OneOutcome 1 latch_in.Kinds.ps latch_in.Kinds.r latch_in.Reads.Asked latch_in.Reads.Learnt
latch_in_once κs a q z z' w w' e f = (e ∙ sym f, refl)

pub address_in_once : OneOutcome 1 address_in.Kinds.ps address_in.Kinds.r address_in.Reads.Asked address_in.Reads.Learnt
address_in_once κs a q z z' w w' e f = (e ∙ sym f, refl)

pub store_latch_once : OneOutcome 1 store_latch.Kinds.ps store_latch.Kinds.r store_latch.Reads.Asked store_latch.Reads.Learnt
store_latch_once κs a q z z' w w' e f = (refl, λ i. ((e ∙ sym f) i, w.1))

pub store_address_once : OneOutcome 1 store_address.Kinds.ps store_address.Kinds.r store_address.Reads.Asked store_address.Reads.Learnt
store_address_once κs a q z z' w w' e f = (refl, λ i. ((e ∙ sym f) i, w.1))

pub store_colour_once : OneOutcome 1 store_colour.Kinds.ps store_colour.Kinds.r store_colour.Reads.Asked store_colour.Reads.Learnt
store_colour_once κs a q z z' w w' e f = (refl, λ i. ((e ∙ sym f) i, w.1))

pub write_in_place_once : OneOutcome 2 write-in-place.Kinds.ps write-in-place.Kinds.r write-in-place.Reads.Asked write-in-place.Reads.Learnt
write_in_place_once κs a q z z' w w' e f = (
  λ i. record { outcome = (e.0.outcome ∙ sym f.0.outcome) i; palette = (e.0.palette ∙ sym f.0.palette) i },
  λ i. ((e.0.block ∙ sym f.0.block) i, ((e.1 ∙ sym f.1) i, w.1.1)),
)

pub read_in_place_once : OneOutcome 2 read_in_place.Kinds.ps read_in_place.Kinds.r read_in_place.Reads.Asked read_in_place.Reads.Learnt
read_in_place_once κs a q z z' w w' e f =
    (e.byte ∙ sym f.byte, λ i. ((e.block ∙ sym f.block) i, w.1))

pub out_in_place_once : OneOutcome 2 out-in-place.Kinds.ps out-in-place.Kinds.r out-in-place.Reads.Asked out-in-place.Reads.Learnt
out_in_place_once κs a q z z' w w' e f =
    (e.outcome ∙ sym f.outcome, λ i. ((e.block ∙ sym f.block) i, ((e.memory ∙ sym f.memory) i, w.1.1)))

pub input_in_place_once : OneOutcome 2 input-in-place.Kinds.ps input-in-place.Kinds.r input-in-place.Reads.Asked input-in-place.Reads.Learnt
input_in_place_once κs a q z z' w w' e f =
    (e.byte ∙ sym f.byte, λ i. ((e.block ∙ sym f.block) i, w.1))

-- ---- salvage
pub repair_once : OneOutcome 2 repair.Kinds.ps repair.Kinds.r repair.Reads.Asked repair.Reads.Learnt
repair_once κs a q z z' w w' e f = (
  e.0.answer ∙ sym f.0.answer,
  λ i. ((e.0.block ∙ sym f.0.block) i, ((e.0.list ∙ sym f.0.list) i, tt)),
)

-- ---- record
pub record_at_once : OneOutcome 1 record_at.Kinds.ps record_at.Kinds.r record_at.Reads.Asked record_at.Reads.Learnt
record_at_once κs a q z z' w w' e f = (e ∙ sym f, refl)

pub record_on_once : OneOutcome 1 record_on.Kinds.ps record_on.Kinds.r record_on.Reads.Asked record_on.Reads.Learnt
record_on_once κs a q z z' w w' e f = (e ∙ sym f, refl)

pub area_number_once : OneOutcome 0 area_number.Kinds.ps area_number.Kinds.r area_number.Reads.Asked area_number.Reads.Learnt
area_number_once κs a q z z' w w' e f = (e ∙ sym f, refl)

pub put_all_once : OneOutcome 2 put_all.Kinds.ps put_all.Kinds.r put_all.Reads.Asked put_all.Reads.Learnt
put_all_once κs a q z z' w w' e f = (e.0 ∙ sym f.0, λ i. ((e.1 ∙ sym f.1) i, w.1))

pub put_record_once : OneOutcome 1 put_record.Kinds.ps put_record.Kinds.r put_record.Reads.Asked put_record.Reads.Learnt
put_record_once κs a q z z' w w' e f = (e.0.answer ∙ sym f.0.answer, λ i. ((e.0.recording ∙ sym f.0.recording) i, w.1))

pub size_of_once : OneOutcome 0 size_of.Kinds.ps size_of.Kinds.r size_of.Reads.Asked size_of.Reads.Learnt
size_of_once κs a q z z' w w' e f = (e.0 ∙ sym f.0, refl)

-- ---- reader
pub past_record_once : OneOutcome 1 past_record.Kinds.ps past_record.Kinds.r past_record.Reads.Asked past_record.Reads.Learnt
past_record_once κs a q z z' w w' e f = (e ∙ sym f, refl)

pub at_end_once : OneOutcome 1 at_end.Kinds.ps at_end.Kinds.r at_end.Reads.Asked at_end.Reads.Learnt
at_end_once κs a q z z' w w' e f = (e ∙ sym f, refl)

-- ---- face
pub vdp_repair_once : OneOutcome 2 vdp_repair.Kinds.ps vdp_repair.Kinds.r vdp_repair.Reads.Asked vdp_repair.Reads.Learnt
vdp_repair_once κs a q z z' w w' e f = (e.word ∙ sym f.word, λ i. ((e.block ∙ sym f.block) i, ((e.lent ∙ sym f.lent) i, tt)))

pub vdp_new_table_once : OneOutcome 1 vdp_new_table.Kinds.ps vdp_new_table.Kinds.r vdp_new_table.Reads.Asked vdp_new_table.Reads.Learnt
vdp_new_table_once κs a q z z' w w' e f = (e.word ∙ sym f.word, λ i. ((e.block ∙ sym f.block) i, w.1))

pub vdp_new_once : OneOutcome 1 vdp_new.Kinds.ps vdp_new.Kinds.r vdp_new.Reads.Asked vdp_new.Reads.Learnt
vdp_new_once κs a q z z' w w' e f = (e.word ∙ sym f.word, λ i. ((e.block ∙ sym f.block) i, w.1))

pub vdp_out_once : OneOutcome 2 vdp_out.Kinds.ps vdp_out.Kinds.r vdp_out.Reads.Asked vdp_out.Reads.Learnt
vdp_out_once κs a q z z' w w' e f = (e.word ∙ sym f.word, λ i. ((e.block ∙ sym f.block) i, ((e.lent ∙ sym f.lent) i, w.1.1)))

pub vdp_input_once : OneOutcome 2 vdp_input.Kinds.ps vdp_input.Kinds.r vdp_input.Reads.Asked vdp_input.Reads.Learnt
vdp_input_once κs a q z z' w w' e f = (e.word ∙ sym f.word, λ i. ((e.block ∙ sym f.block) i, w.1))

pub vdp_step_once : OneOutcome 3 vdp_step.Kinds.ps vdp_step.Kinds.r vdp_step.Reads.Asked vdp_step.Reads.Learnt
vdp_step_once κs a q z z' w w' e f =
    (e.word ∙ sym f.word, λ i. ((e.block ∙ sym f.block) i, (tt, ((e.lent ∙ sym f.lent) i, w.1.1.1))))

pub vdp_row_step_once : OneOutcome 3 vdp_row_step.Kinds.ps vdp_row_step.Kinds.r vdp_row_step.Reads.Asked vdp_row_step.Reads.Learnt
vdp_row_step_once κs a q z z' w w' e f =
    (e.word ∙ sym f.word, λ i. ((e.block ∙ sym f.block) i, (tt, ((e.lent ∙ sym f.lent) i, w.1.1.1))))

pub vdp_layer_step_once : OneOutcome 4 vdp_layer_step.Kinds.ps vdp_layer_step.Kinds.r vdp_layer_step.Reads.Asked vdp_layer_step.Reads.Learnt
vdp_layer_step_once κs a q z z' w w' e f = (
  e.call.word ∙ sym f.call.word,
  λ i. ((e.call.block ∙ sym f.call.block) i, (tt, ((e.call.lent ∙ sym f.call.lent) i, ((e.owners ∙ sym f.owners) i, w.1.1.1.1)))),
)

pub vdp_layer_row_step_once : OneOutcome 4 vdp_layer_row_step.Kinds.ps vdp_layer_row_step.Kinds.r vdp_layer_row_step.Reads.Asked
    vdp_layer_row_step.Reads.Learnt
vdp_layer_row_step_once κs a q z z' w w' e f = (
  e.call.word ∙ sym f.call.word,
  λ i. ((e.call.block ∙ sym f.call.block) i, (tt, ((e.call.lent ∙ sym f.call.lent) i, ((e.owners ∙ sym f.owners) i, w.1.1.1.1)))),
)

pub vdp_dump_tileset_once : OneOutcome 3 vdp_dump_tileset.Kinds.ps vdp_dump_tileset.Kinds.r vdp_dump_tileset.Reads.Asked vdp_dump_tileset.Reads.Learnt
vdp_dump_tileset_once κs a q z z' w w' e f = (e.word ∙ sym f.word, λ i. (tt, (tt, ((e.lent ∙ sym f.lent) i, tt))))

pub vdp_version_once : OneOutcome 0 vdp_version.Kinds.ps vdp_version.Kinds.r vdp_version.Reads.Asked vdp_version.Reads.Learnt
vdp_version_once κs a q z z' w w' e f = (e ∙ sym f, refl)

pub vdp_write_tile_once : OneOutcome 2 vdp_write_tile.Kinds.ps vdp_write_tile.Kinds.r vdp_write_tile.Reads.Asked vdp_write_tile.Reads.Learnt
vdp_write_tile_once κs a q z z' w w' e f = (e.word ∙ sym f.word, λ i. ((e.lent ∙ sym f.lent) i, w.1))

pub vdp_read_tile_once : OneOutcome 2 vdp_read_tile.Kinds.ps vdp_read_tile.Kinds.r vdp_read_tile.Reads.Asked vdp_read_tile.Reads.Learnt
vdp_read_tile_once κs a q z z' w w' e f = (e.word ∙ sym f.word, λ i. (tt, (tt, ((e.lent ∙ sym f.lent) i, tt))))

pub vdp_pixel_once : OneOutcome 2 vdp_pixel.Kinds.ps vdp_pixel.Kinds.r vdp_pixel.Reads.Asked vdp_pixel.Reads.Learnt
vdp_pixel_once κs a q z z' w w' e f = (e ∙ sym f, refl)

pub vdp_record_out_once : OneOutcome 1 vdp_record_out.Kinds.ps vdp_record_out.Kinds.r vdp_record_out.Reads.Asked vdp_record_out.Reads.Learnt
vdp_record_out_once κs a q z z' w w' e f = (e.word ∙ sym f.word, λ i. ((e.lent ∙ sym f.lent) i, w.1))

pub vdp_record_input_once : OneOutcome 1 vdp_record_input.Kinds.ps vdp_record_input.Kinds.r vdp_record_input.Reads.Asked vdp_record_input.Reads.Learnt
vdp_record_input_once κs a q z z' w w' e f = (e.word ∙ sym f.word, λ i. ((e.lent ∙ sym f.lent) i, w.1))

pub vdp_record_step_once : OneOutcome 1 vdp_record_step.Kinds.ps vdp_record_step.Kinds.r vdp_record_step.Reads.Asked vdp_record_step.Reads.Learnt
vdp_record_step_once κs a q z z' w w' e f = (e.word ∙ sym f.word, λ i. ((e.lent ∙ sym f.lent) i, w.1))

pub vdp_record_next_once : OneOutcome 1 vdp_record_next.Kinds.ps vdp_record_next.Kinds.r vdp_record_next.Reads.Asked vdp_record_next.Reads.Learnt
vdp_record_next_once κs a q z z' w w' e f = (e ∙ sym f, refl)

-- ---- word
pub asked_once : OneOutcome 0 asked.Kinds.ps asked.Kinds.r asked.Reads.Asked asked.Reads.Learnt
asked_once κs a q z z' w w' e f = (e ∙ sym f, refl)

pub number_once : OneOutcome 0 number.Kinds.ps number.Kinds.r number.Reads.Asked number.Reads.Learnt
number_once κs a q z z' w w' e f = (e.0 ∙ sym f.0, refl)

pub word_of_once : OneOutcome 0 word_of.Kinds.ps word_of.Kinds.r word_of.Reads.Asked word_of.Reads.Learnt
word_of_once κs a q z z' w w' e f = (e ∙ sym f, refl)

-- ---- a trace
pub put_numbered_once : OneOutcome 2 put_numbered.Kinds.ps put_numbered.Kinds.r put_numbered.Reads.Asked put_numbered.Reads.Learnt
put_numbered_once κs a q z z' w w' e f = (e.0 ∙ sym f.0, λ i. ((e.1 ∙ sym f.1) i, w.1))

pub put_last_once : OneOutcome 2 put_last.Kinds.ps put_last.Kinds.r put_last.Reads.Asked put_last.Reads.Learnt
put_last_once κs a q z z' w w' e f = (e.0 ∙ sym f.0, λ i. ((e.1 ∙ sym f.1) i, w.1))

pub pixel_count_once : OneOutcome 0 pixel_count.Kinds.ps pixel_count.Kinds.r pixel_count.Reads.Asked pixel_count.Reads.Learnt
pixel_count_once κs a q z z' w w' e f = (e.0 ∙ sym f.0, refl)

pub put_picture_once : OneOutcome 3 put_picture.Kinds.ps put_picture.Kinds.r put_picture.Reads.Asked put_picture.Reads.Learnt
put_picture_once κs a q z z' w w' e f = (e.0 ∙ sym f.0, λ i. ((e.1 ∙ sym f.1) i, w.1))

pub put_answer_once : OneOutcome 1 put_answer.Kinds.ps put_answer.Kinds.r put_answer.Reads.Asked put_answer.Reads.Learnt
put_answer_once κs a q z z' w w' e f = (e.0 ∙ sym f.0, λ i. ((e.1 ∙ sym f.1) i, w.1))

pub turn_once : OneOutcome 4 turn.Kinds.ps turn.Kinds.r turn.Reads.Asked turn.Reads.Learnt
turn_once κs a q z z' w w' e f = (
  λ i. record {
    answer = (e.answer ∙ sym f.answer) i;
    run = ap (λ (x : World). x.run) (e.world ∙ sym f.world) i;
  },
  λ i. (
    tt,
    (
      tt,
      (
        tt,
        (
          ap (λ (x : World). x.vram) (e.world ∙ sym f.world) i,
          (ap (λ (x : World). x.row) (e.world ∙ sym f.world) i, (ap (λ (x : World). x.frame) (e.world ∙ sym f.world) i, tt)),
        ),
      ),
    ),
  ),
)

pub device_handheld_once : OneOutcome 0 device-handheld.Kinds.ps device-handheld.Kinds.r device-handheld.Reads.Asked device-handheld.Reads.Learnt
device_handheld_once κs a q z z' w w' e f = (e ∙ sym f, refl)

pub device_home_once : OneOutcome 0 device-home.Kinds.ps device-home.Kinds.r device-home.Reads.Asked device-home.Reads.Learnt
device_home_once κs a q z z' w w' e f = (e ∙ sym f, refl)

pub trace_once : OneOutcome 4 trace.Kinds.ps trace.Kinds.r trace.Reads.Asked trace.Reads.Learnt
trace_once κs a q z z' w w' e f = (
  e.0.count ∙ sym f.0.count,
  λ i. (tt, (tt, ((e.0.memory ∙ sym f.0.memory) i, ((e.0.pixels ∙ sym f.0.pixels) i, ((e.0.bytes ∙ sym f.0.bytes) i, tt))))),
)

pub snapshot_once : OneOutcome 5 snapshot.Kinds.ps snapshot.Kinds.r snapshot.Reads.Asked snapshot.Reads.Learnt
snapshot_once κs a q z z' w w' e f = (
  e.0.count ∙ sym f.0.count,
  λ i. (
    tt,
    (
      tt,
      (
        tt,
        (
          (e.0.memory ∙ sym f.0.memory) i,
          ((e.0.pixels ∙ sym f.0.pixels) i, ((e.0.picture ∙ sym f.0.picture) i, ((e.0.bytes ∙ sym f.0.bytes) i, tt))),
        ),
      ),
    ),
  ),
)
