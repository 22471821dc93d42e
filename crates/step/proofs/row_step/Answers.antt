-- `step::row_step` meets its contract: a step, whose row goes to the first bytes of the row buffer.
use Rattle.step.proofs.Steps.{row_joined}
use Rattle.step.proofs.row_step.Goals as goal

pub returns : goal.returns
returns c =
    let e = c.row_step.ensures in
    row_joined c.args.area c.args.vram.now c.args.vdp e.answer c.args.row.now (rw c.screen_of.ensures at e.left)
