-- `face::home_calls::vdp_home_pixel` meets its contract: one pixel of the row as it would be drawn now; the block is only read.
use Rattle.std.specs.Prelude.{ℕ, Option, Some, None, Ok}
use mathlib.Core.Path.{◌≡◌, ap, ◌∙◌}
use Rattle.face.proofs.HomeLaws.{room}
use Rattle.face.proofs.HomePixels.{pixel_asked, pixel_done}
use Rattle.face.proofs.home_calls.vdp_home_pixel.Goals as goal

pub returns-then-refused-ne0 : goal.returns-then-refused-ne0
returns-then-refused-ne0 c =
    c.from.ensures ∙ pixel_asked c.args.state.now c.args.vram.now c.args.row c.args.column c.asked-refused.ensures
    c.if-refused-ne0.true

pub raster_in-raster-requires : goal.raster_in-raster-requires
raster_in-raster-requires c =
    room c.args.state.now c.asked-refused.ensures c.if-refused-ne0.false

pub registers-requires : goal.registers-requires
registers-requires c =
    room c.args.state.now c.asked-refused.ensures c.if-refused-ne0.false

pub shown-requires : goal.shown-requires
shown-requires c =
    let e : ◌≡◌ {A = Option ℕ} c.in-Ok-Some.field-0 (Some c.in-Ok-Some.n) = rw c.in-Ok-Some.is at c.in-Ok-Some.field-0-is in (
      room c.args.state.now c.asked-refused.ensures c.if-refused-ne0.false,
      c.spot_at-spot.ensures.colour_bound c.in-Ok-Some.n (c.in-Ok-Some.is ∙ ap Ok e),
    )

pub returns-in-Ok-Some : goal.returns-in-Ok-Some
returns-in-Ok-Some c =
    let e : ◌≡◌ {A = Option ℕ} c.in-Ok-Some.field-0 (Some c.in-Ok-Some.n) = rw c.in-Ok-Some.is at c.in-Ok-Some.field-0-is in
    pixel_done c.args.state.now c.args.vram.now c.args.row c.args.column c.asked-refused.ensures
    c.if-refused-ne0.false
    c.registers.ensures c.raster_in-raster.ensures c.spot_at-spot.ensures.value (c.pixel_word.ensures ∙ rw (c.shown.ensures, c.in-Ok-Some.is, e))

pub returns-in-Ok-None : goal.returns-in-Ok-None
returns-in-Ok-None c =
    let e : ◌≡◌ {A = Option ℕ} c.in-Ok-None.field-0 None = rw c.in-Ok-None.is at c.in-Ok-None.field-0-is in
    pixel_done c.args.state.now c.args.vram.now c.args.row c.args.column c.asked-refused.ensures
    c.if-refused-ne0.false
    c.registers.ensures c.raster_in-raster.ensures c.spot_at-spot.ensures.value (c.pixel_word-in-Ok-None.ensures ∙ rw (c.in-Ok-None.is, e))

pub returns-in-Err : goal.returns-in-Err
returns-in-Err c =
    pixel_done c.args.state.now c.args.vram.now c.args.row c.args.column c.asked-refused.ensures
    c.if-refused-ne0.false
    c.registers.ensures c.raster_in-raster.ensures c.spot_at-spot.ensures.value (c.pixel_word-in-Err.ensures ∙ rw c.in-Err.is)
