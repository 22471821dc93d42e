-- `home::frame_step` meets its contract: a step on a whole frame.
use Rattle.home.proofs.Steps.{frame-joined}
use Rattle.home.proofs.frame_step.Goals as goal

pub returns : goal.returns
returns c = let e = c.frame_step.ensures in frame-joined c.args.vram.now c.args.home e.answer c.args.frame.now e.left
