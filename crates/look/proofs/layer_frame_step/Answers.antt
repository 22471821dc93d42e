-- `look::layer_frame_step` meets its contract: a step on a frame, with the layers of its row.
use Rattle.look.proofs.Steps.{frame-layers_joined}
use Rattle.look.proofs.layer_frame_step.Goals as goal

pub returns : goal.returns
returns c =
    let e = c.layer_frame_step.ensures in
    frame-layers_joined c.args.area c.args.vram.now c.args.vdp e.answer c.args.frame.now c.args.layers.now (rw c.screen_of.ensures at e.left)
