-- `home::HomeState::input` meets its contract: a port read, all of it the front's but for the line counter.
use Rattle.home.specs.Ports.{port_read}
use Rattle.home.proofs.HomeState.input.Goals as goal

pub returns : goal.returns
unfolding port_read
returns c =
    simp c.read-read.ensures
