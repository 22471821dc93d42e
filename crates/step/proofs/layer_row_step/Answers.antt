-- `step::layer_row_step` meets its contract: a step on a row buffer, with the layers of its row.
use Rattle.step.proofs.Steps.{row_layers_joined}
use Rattle.step.proofs.layer_row_step.Goals as goal

pub returns : goal.returns
returns c =
    let e = c.layer_row_step.ensures in
    row_layers_joined c.args.area c.args.vram.now c.args.vdp e.answer c.args.row.now c.args.layers.now (rw c.screen_of.ensures at e.left)
