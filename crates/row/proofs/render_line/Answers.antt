-- `row::render_line` meets its contract: row `line` of a screen, by the registers, the latched scroll, the cached colours and video memory.
use Rattle.row.proofs.Home.{drawn_is}
use Rattle.row.proofs.render_line.Goals as goal

pub returns-clause-drawn : goal.returns-clause-drawn
returns-clause-drawn c =
    let a = c.args in
    let whole = drawn_is a.vram.now a.reg a.scroll a.line a.row.now a.layers.now a.colours.now a.screen
    c.background_of-back.result c.requires.1
    (rw (c.from.ensures, c.from-2.ensures) at c.background_of-back.ensures) c.clear.ensures
    c.render_sprites_line.ensures c.status_bits-bits.ensures
    c.fill_over.ensures.row_after c.fill_over.ensures.layers_after in whole.0

pub returns-clause-layers_after : goal.returns-clause-layers_after
returns-clause-layers_after c =
    let a = c.args in
    let whole = drawn_is a.vram.now a.reg a.scroll a.line a.row.now a.layers.now a.colours.now a.screen
    c.background_of-back.result c.requires.1
    (rw (c.from.ensures, c.from-2.ensures) at c.background_of-back.ensures) c.clear.ensures
    c.render_sprites_line.ensures c.status_bits-bits.ensures
    c.fill_over.ensures.row_after c.fill_over.ensures.layers_after in whole.1
