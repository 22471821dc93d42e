-- One outcome for every public contract of the home machine's calls for C, and of the parts that they share with the handheld's (Outcome.antt has the rest).
-- Assumes nothing.
use mathlib.Core.Path.{refl, sym, ◌∙◌}
use Rattle.demands.specs.Outcome.{OneOutcome}
use Rattle.block_parts.proofs.stamp as part-stamped
use Rattle.block_parts.proofs.colour_at as part-colour
use Rattle.block_parts.proofs.colours_at as part-colours
use Rattle.block_parts.proofs.store_cache as part-cache-stored
use Rattle.block_parts.proofs.fields_fit as part-fields
use Rattle.block_parts.proofs.registers as part-registers
use Rattle.block_parts.proofs.raster_in as part-raster
use Rattle.block_parts.proofs.store_raster as part-raster-stored
use Rattle.home_block.proofs.well_formed as home-well-formed
use Rattle.home_block.proofs.fresh as home-fresh
use Rattle.home_block.proofs.registers as home-registers
use Rattle.home_block.proofs.raster_in as home-raster-in
use Rattle.home_block.proofs.palette_in as home-palette-in
use Rattle.home_block.proofs.cache_in as home-cache-in
use Rattle.home_block.proofs.cached_colour as home-cached-colour
use Rattle.home_block.proofs.out as home-block-out
use Rattle.home_block.proofs.input as home-block-input
use Rattle.face.proofs.home_calls.vdp_home_new_table as vdp_home_new_table
use Rattle.face.proofs.home_calls.vdp_home_new as vdp_home_new
use Rattle.face.proofs.home_calls.vdp_home_out as vdp_home_out
use Rattle.face.proofs.home_calls.vdp_home_input as vdp_home_input
use Rattle.face.proofs.home_calls.vdp_home_step as vdp_home_step
use Rattle.face.proofs.home_calls.vdp_home_row_step as vdp_home_row_step
use Rattle.face.proofs.home_calls.vdp_home_layer_step as vdp_home_layer_step
use Rattle.face.proofs.home_calls.vdp_home_layer_row_step as vdp_home_layer_row_step
use Rattle.face.proofs.home_calls.vdp_home_dump_tileset as vdp_home_dump_tileset
use Rattle.face.proofs.home_calls.vdp_home_pixel as vdp_home_pixel
use Rattle.word.proofs.byte_word as byte-word
use Rattle.word.proofs.pixel_word as pixel-word

-- ---- the parts of either machine's block
pub part_stamped_once : OneOutcome 1 part-stamped.Kinds.ps part-stamped.Kinds.r part-stamped.Reads.Asked part-stamped.Reads.Learnt
part_stamped_once κs a q z z' w w' e f = (refl, λ i. ((e ∙ sym f) i, w.1))

pub part_colour_once : OneOutcome 1 part-colour.Kinds.ps part-colour.Kinds.r part-colour.Reads.Asked part-colour.Reads.Learnt
part_colour_once κs a q z z' w w' e f = (e ∙ sym f, refl)

pub part_colours_once : OneOutcome 1 part-colours.Kinds.ps part-colours.Kinds.r part-colours.Reads.Asked part-colours.Reads.Learnt
part_colours_once κs a q z z' w w' e f = (e ∙ sym f, refl)

pub part_cache_stored_once : OneOutcome 2 part-cache-stored.Kinds.ps part-cache-stored.Kinds.r part-cache-stored.Reads.Asked part-cache-stored.Reads.Learnt
part_cache_stored_once κs a q z z' w w' e f = (refl, λ i. ((e ∙ sym f) i, w.1))

pub part_fields_once : OneOutcome 1 part-fields.Kinds.ps part-fields.Kinds.r part-fields.Reads.Asked part-fields.Reads.Learnt
part_fields_once κs a q z z' w w' e f = (e ∙ sym f, refl)

pub part_registers_once : OneOutcome 1 part-registers.Kinds.ps part-registers.Kinds.r part-registers.Reads.Asked part-registers.Reads.Learnt
part_registers_once κs a q z z' w w' e f = (e ∙ sym f, refl)

pub part_raster_once : OneOutcome 1 part-raster.Kinds.ps part-raster.Kinds.r part-raster.Reads.Asked part-raster.Reads.Learnt
part_raster_once κs a q z z' w w' e f = (e ∙ sym f, refl)

pub part_raster_stored_once : OneOutcome 1 part-raster-stored.Kinds.ps part-raster-stored.Kinds.r part-raster-stored.Reads.Asked part-raster-stored.Reads.Learnt
part_raster_stored_once κs a q z z' w w' e f = (refl, λ i. ((e ∙ sym f) i, w.1))

-- ---- the home machine's block
pub home_well_formed_once : OneOutcome 1 home-well-formed.Kinds.ps home-well-formed.Kinds.r home-well-formed.Reads.Asked home-well-formed.Reads.Learnt
home_well_formed_once κs a q z z' w w' e f = (e ∙ sym f, refl)

pub home_fresh_once : OneOutcome 1 home-fresh.Kinds.ps home-fresh.Kinds.r home-fresh.Reads.Asked home-fresh.Reads.Learnt
home_fresh_once κs a q z z' w w' e f = (refl, λ i. ((e ∙ sym f) i, w.1))

pub home_registers_once : OneOutcome 1 home-registers.Kinds.ps home-registers.Kinds.r home-registers.Reads.Asked home-registers.Reads.Learnt
home_registers_once κs a q z z' w w' e f = (e ∙ sym f, refl)

pub home_raster_in_once : OneOutcome 1 home-raster-in.Kinds.ps home-raster-in.Kinds.r home-raster-in.Reads.Asked home-raster-in.Reads.Learnt
home_raster_in_once κs a q z z' w w' e f = (e ∙ sym f, refl)

pub home_palette_in_once : OneOutcome 1 home-palette-in.Kinds.ps home-palette-in.Kinds.r home-palette-in.Reads.Asked home-palette-in.Reads.Learnt
home_palette_in_once κs a q z z' w w' e f = (e ∙ sym f, refl)

pub home_cache_in_once : OneOutcome 1 home-cache-in.Kinds.ps home-cache-in.Kinds.r home-cache-in.Reads.Asked home-cache-in.Reads.Learnt
home_cache_in_once κs a q z z' w w' e f = (e ∙ sym f, refl)

pub home_cached_colour_once : OneOutcome 1 home-cached-colour.Kinds.ps home-cached-colour.Kinds.r home-cached-colour.Reads.Asked home-cached-colour.Reads.Learnt
home_cached_colour_once κs a q z z' w w' e f = (e ∙ sym f, refl)

pub home_block_out_once : OneOutcome 2 home-block-out.Kinds.ps home-block-out.Kinds.r home-block-out.Reads.Asked home-block-out.Reads.Learnt
home_block_out_once κs a q z z' w w' e f =
    (e.outcome ∙ sym f.outcome, λ i. ((e.block ∙ sym f.block) i, ((e.memory ∙ sym f.memory) i, w.1.1)))

pub home_block_input_once : OneOutcome 2 home-block-input.Kinds.ps home-block-input.Kinds.r home-block-input.Reads.Asked home-block-input.Reads.Learnt
home_block_input_once κs a q z z' w w' e f =
    (e.byte ∙ sym f.byte, λ i. ((e.block ∙ sym f.block) i, w.1))

-- ---- the home machine's calls
pub vdp_home_new_table_once : OneOutcome 1 vdp_home_new_table.Kinds.ps vdp_home_new_table.Kinds.r vdp_home_new_table.Reads.Asked vdp_home_new_table.Reads.Learnt
vdp_home_new_table_once κs a q z z' w w' e f = (e.word ∙ sym f.word, λ i. ((e.block ∙ sym f.block) i, w.1))

pub vdp_home_new_once : OneOutcome 1 vdp_home_new.Kinds.ps vdp_home_new.Kinds.r vdp_home_new.Reads.Asked vdp_home_new.Reads.Learnt
vdp_home_new_once κs a q z z' w w' e f = (e.word ∙ sym f.word, λ i. ((e.block ∙ sym f.block) i, w.1))

pub vdp_home_out_once : OneOutcome 2 vdp_home_out.Kinds.ps vdp_home_out.Kinds.r vdp_home_out.Reads.Asked vdp_home_out.Reads.Learnt
vdp_home_out_once κs a q z z' w w' e f = (e.word ∙ sym f.word, λ i. ((e.block ∙ sym f.block) i, ((e.lent ∙ sym f.lent) i, w.1.1)))

pub vdp_home_input_once : OneOutcome 2 vdp_home_input.Kinds.ps vdp_home_input.Kinds.r vdp_home_input.Reads.Asked vdp_home_input.Reads.Learnt
vdp_home_input_once κs a q z z' w w' e f = (e.word ∙ sym f.word, λ i. ((e.block ∙ sym f.block) i, w.1))

pub vdp_home_step_once : OneOutcome 3 vdp_home_step.Kinds.ps vdp_home_step.Kinds.r vdp_home_step.Reads.Asked vdp_home_step.Reads.Learnt
vdp_home_step_once κs a q z z' w w' e f =
    (e.word ∙ sym f.word, λ i. ((e.block ∙ sym f.block) i, (tt, ((e.lent ∙ sym f.lent) i, w.1.1.1))))

pub vdp_home_row_step_once : OneOutcome 3 vdp_home_row_step.Kinds.ps vdp_home_row_step.Kinds.r vdp_home_row_step.Reads.Asked vdp_home_row_step.Reads.Learnt
vdp_home_row_step_once κs a q z z' w w' e f =
    (e.word ∙ sym f.word, λ i. ((e.block ∙ sym f.block) i, (tt, ((e.lent ∙ sym f.lent) i, w.1.1.1))))

pub vdp_home_layer_step_once :
    OneOutcome 4 vdp_home_layer_step.Kinds.ps vdp_home_layer_step.Kinds.r vdp_home_layer_step.Reads.Asked vdp_home_layer_step.Reads.Learnt
vdp_home_layer_step_once κs a q z z' w w' e f = (
  e.call.word ∙ sym f.call.word,
  λ i. ((e.call.block ∙ sym f.call.block) i, (tt, ((e.call.lent ∙ sym f.call.lent) i, ((e.owners ∙ sym f.owners) i, w.1.1.1.1)))),
)

pub vdp_home_layer_row_step_once :
    OneOutcome 4 vdp_home_layer_row_step.Kinds.ps vdp_home_layer_row_step.Kinds.r vdp_home_layer_row_step.Reads.Asked vdp_home_layer_row_step.Reads.Learnt
vdp_home_layer_row_step_once κs a q z z' w w' e f = (
  e.call.word ∙ sym f.call.word,
  λ i. ((e.call.block ∙ sym f.call.block) i, (tt, ((e.call.lent ∙ sym f.call.lent) i, ((e.owners ∙ sym f.owners) i, w.1.1.1.1)))),
)

pub vdp_home_dump_tileset_once :
    OneOutcome 3 vdp_home_dump_tileset.Kinds.ps vdp_home_dump_tileset.Kinds.r vdp_home_dump_tileset.Reads.Asked vdp_home_dump_tileset.Reads.Learnt
vdp_home_dump_tileset_once κs a q z z' w w' e f = (e.word ∙ sym f.word, λ i. (tt, (tt, ((e.lent ∙ sym f.lent) i, tt))))

pub vdp_home_pixel_once : OneOutcome 2 vdp_home_pixel.Kinds.ps vdp_home_pixel.Kinds.r vdp_home_pixel.Reads.Asked vdp_home_pixel.Reads.Learnt
vdp_home_pixel_once κs a q z z' w w' e f = (e ∙ sym f, refl)

-- ---- the word of a pixel
pub byte_word_once : OneOutcome 0 byte-word.Kinds.ps byte-word.Kinds.r byte-word.Reads.Asked byte-word.Reads.Learnt
byte_word_once κs a q z z' w w' e f = (e ∙ sym f, refl)

pub pixel_word_once : OneOutcome 0 pixel-word.Kinds.ps pixel-word.Kinds.r pixel-word.Reads.Asked pixel-word.Reads.Learnt
pixel_word_once κs a q z z' w w' e f = (e ∙ sym f, refl)
