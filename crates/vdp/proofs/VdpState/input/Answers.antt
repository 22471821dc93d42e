-- `vdp::VdpState::input` meets its contract: a port read, all of it the front's but for the line counter.
use Rattle.vdp.specs.Ports.{port_read}
use Rattle.vdp.proofs.VdpState.input.Goals as goal

pub returns : goal.returns
unfolding port_read
returns c =
    simp (c.with_front.ensures, c.read-read.ensures, c.front.ensures)
