-- `background::render_tile` meets its contract: n pixels from x on, which all lie in one tile.
use Rattle.std.proofs.Common.{◌+◌, ◌%◌, ◌<◌, ◌∙◌, arith}
use Rattle.laws.proofs.Paint.{painted_cong}
use Rattle.tile.specs.Line.{line_solid}
use Rattle.background.proofs.Laws.{back_shade, back_in_front, tile_marks}
use Rattle.background.proofs.render_tile.Goals as goal

pub returns-clause-row_after : goal.returns-clause-row_after
returns-clause-row_after c =
    let a = c.args in
    let p = c.requires in
    let fl = c.is_set.ensures in
    let ad = c.line_at-addr.ensures.value in
    c.character_line-bits.ensures.row_after
    ∙ painted_cong _ _ _ _ _ (λ i h.
    let l : (a.sx + a.x) % 8 + i < 8 = omega (arith, p.n_bound.0) in
    back_shade a.vram.now a.names a.sx a.y a.x i l a.colours.now fl c.is_set-2.ensures
    c.weight.ensures.value ad)

pub returns-clause-bits_value : goal.returns-clause-bits_value
returns-clause-bits_value c =
    let a = c.args in
    let p = c.requires in
    let fl = c.is_set.ensures in
    let ad = c.line_at-addr.ensures.value in
    λ e.
    tile_marks a.vram.now a.names a.sx a.y a.cut a.x a.n p.n_bound_2.0 p.n_bound_2.2
    (line_solid a.vram.now c.line_at-addr.result c.is_set.result ((a.sx + a.x) % 256 % 8))
    c.is_set-3.result
    (λ j h.
    let l : (a.sx + a.x) % 8 + j < 8 = omega (arith, p.n_bound.0) in
    back_in_front a.vram.now a.names a.sx a.y a.x j l fl c.is_set-3.ensures ad)
    e c.character_line-bits.ensures.value (rw c.place_of.ensures at c.with_marks.ensures)
