-- `face::home_calls::stepped` meets its contract: a step, whose row goes to its target.
use mathlib.Core.Path.{refl, sym}
use mathlib.Core.List.{[]}
use native.Mathlib.Omega.{arith}
use lib.ListN.{length}
use Rattle.picture.specs.declared.Screen.TheVariants.{Home}
use Rattle.face.specs.Steps.{colours_stored}
use Rattle.face.proofs.Steps.{target_fits, not_due, undrawn_bits, undrawn, undrawn_layers}
use Rattle.face.proofs.HomeLaws.{room, colours_room, points_room, kept}
use Rattle.face.proofs.home_calls.stepped.Goals as goal

pub registers-reg-requires : goal.registers-reg-requires
registers-reg-requires c = room c.args.state.now c.asked-refused.ensures c.if-refused-ne0.false

pub raster_in-raster-requires : goal.raster_in-raster-requires
raster_in-raster-requires c = room c.args.state.now c.asked-refused.ensures c.if-refused-ne0.false

pub colours_of-colours-requires : goal.colours_of-colours-requires
colours_of-colours-requires c = room c.args.state.now c.asked-refused.ensures c.if-refused-ne0.false

pub draw-bits-requires : goal.draw-bits-requires
draw-bits-requires c =
    let a = c.args in
    target_fits a.target a.told Home c.registers-reg.result c.raster_in-raster.result a.vram.now
    (length a.pixels.now) (length a.layers.now) c.due-due.ensures

pub store_colours-requires : goal.store_colours-requires
store_colours-requires c = colours_room c.args.state.now c.asked-refused.ensures c.if-refused-ne0.false

pub left-requires : goal.left-requires
left-requires c = points_room c.args.state.now c.asked-refused.ensures c.if-refused-ne0.false c.args.state.now refl

pub returns-in_default : goal.returns-in_default
returns-in_default c =
    let a = c.args in
    let e = c.in_default.is in
    kept a.state.now a.vram.now a.pixels.now c.asked-refused.ensures c.if-refused-ne0.false
    (λ i. omega (arith, c.slice_known-1.given i)) c.due-due.result c.registers-reg.ensures
    c.raster_in-raster.ensures (not_due e Home) (undrawn_bits e Home _) (λ i. colours_stored 24 58 (sym e i) [] a.state.now)
    c.left.ensures.value c.left.ensures.state_after a.target a.told a.layers.now c.due-due.ensures
    (undrawn e Home a.target _ _ a.pixels.now) (undrawn_layers e Home _ a.layers.now)

pub left-requires-2 : goal.left-requires-2
left-requires-2 c =
    points_room c.args.state.now c.asked-refused.ensures c.if-refused-ne0.false c.store_colours.new.state
    c.store_colours.auto.state

pub returns : goal.returns
returns c =
    let a = c.args in
    kept a.state.now a.vram.now a.pixels.now c.asked-refused.ensures c.if-refused-ne0.false
    (λ i. omega (arith, c.slice_known-1.given i)) c.due-due.result c.registers-reg.ensures
    c.raster_in-raster.ensures c.colours_of-colours.ensures c.draw-bits.ensures.value c.store_colours.ensures
    c.left-2.ensures.value c.left-2.ensures.state_after a.target a.told a.layers.now c.due-due.ensures
    c.draw-bits.ensures.pixels_after c.draw-bits.ensures.layers_after
