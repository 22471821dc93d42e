-- `step::frame_step` meets its contract: a step on a whole frame.
use Rattle.step.proofs.Steps.{frame-joined}
use Rattle.step.proofs.frame_step.Goals as goal

pub returns : goal.returns
returns c =
    let e = c.frame_step.ensures in
    frame-joined c.args.area c.args.vram.now c.args.vdp e.answer c.args.frame.now (rw c.screen_of.ensures at e.left)
