-- `trace_run::output::has_room` meets its contract: whether a frame is one of this screen, and there is room for its picture.
use Rattle.trace_run.proofs.Outputs.{a_picture}
use Rattle.trace_run.proofs.output.has_room.Goals as goal

pub returns-then-count-out : goal.returns-then-count-out
returns-then-count-out c =
    let a = c.args in
    a_picture a.screen a.frame a.out c.pixel_count-count.ensures.0 c.if-count-out.true
