-- `row::points_run::draw_in` meets its contract: the row drawn at its place in the frame.
use Rattle.points.specs.Due.{due_picture}
use Rattle.row.proofs.Steps.{framed}
use Rattle.row.proofs.points_run.draw_in.Goals as goal

pub returns-in-Some-clause-frame_after : goal.returns-in-Some-clause-frame_after
returns-in-Some-clause-frame_after c =
    let a = c.args in
    let f = c.requires _ c.in-Some.is in
    rw (c.row_size-size.ensures, c.from.ensures)
    (framed a.screen a.colours.now (due_picture a.screen a.vram.now a.reg a.due) a.frame.now c.in-Some.line c.in-Some.is f.1.1 f.1.0
    (rw (c.row_size-size.ensures, c.from.ensures) at c.render_line.ensures.drawn.bytes))
