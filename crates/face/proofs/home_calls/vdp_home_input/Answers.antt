-- `face::home_calls::vdp_home_input` meets its contract: a port read.
use Rattle.face.proofs.HomeLaws.{input_refused, input_done}
use Rattle.face.proofs.home_calls.vdp_home_input.Goals as goal

pub returns-then-refused-ne0 : goal.returns-then-refused-ne0
returns-then-refused-ne0 c =
    input_refused c.args.state.now c.asked-refused.ensures c.if-refused-ne0.true c.args.vram.now c.args.port

pub returns : goal.returns
returns c =
    input_done c.args.state.now c.asked-refused.ensures c.if-refused-ne0.false c.args.vram.now c.args.port
    c.input.ensures c.byte_word.ensures
