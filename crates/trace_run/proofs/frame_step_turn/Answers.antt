-- `trace_run::frame_step_turn` meets its contract: a step into the frame.
use Rattle.trace_run.specs.Run.{held}
use Rattle.trace_run.proofs.Turns.{handheld_frame, home_frame, frame_stepped}
use Rattle.trace_run.proofs.frame_step_turn.Goals as goal

pub returns-in-Handheld : goal.returns-in-Handheld
returns-in-Handheld c =
    let a = c.args in
    λ f. frame_stepped a.area (held a.run a.vram.now f a.frame.now) c.stepped.ensures
    (handheld_frame a.area a.run.device a.vram.now c.in-Handheld.is
    c.frame_step.ensures)

pub returns-in-Home : goal.returns-in-Home
returns-in-Home c =
    let a = c.args in
    λ f. frame_stepped a.area (held a.run a.vram.now f a.frame.now) c.stepped-in-Home.ensures
    (home_frame a.area a.run.device a.vram.now c.in-Home.is
    c.frame_step-in-Home.ensures)
