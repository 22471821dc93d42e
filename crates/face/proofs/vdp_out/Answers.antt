-- `face::vdp_out` meets its contract: a port write.
use Rattle.face.proofs.Laws.{out_refused, out_done}
use Rattle.face.proofs.vdp_out.Goals as goal

pub returns-then-refused-ne0 : goal.returns-then-refused-ne0
returns-then-refused-ne0 c =
    out_refused c.args.state.now c.asked-refused.ensures c.if-refused-ne0.true c.args.vram.now c.args.port
    c.args.value

pub returns : goal.returns
returns c =
    out_done c.args.state.now c.asked-refused.ensures c.if-refused-ne0.false c.args.vram.now c.args.port
    c.args.value c.out.ensures c.number.ensures.0
