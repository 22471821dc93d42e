-- `home::row_step` meets its contract: a step, whose row goes to the first bytes of the row buffer.
use Rattle.home.proofs.Steps.{row_joined}
use Rattle.home.proofs.row_step.Goals as goal

pub returns : goal.returns
returns c = let e = c.row_step.ensures in row_joined c.args.vram.now c.args.home e.answer c.args.row.now e.left
