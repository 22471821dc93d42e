-- `inplace::read_status` meets its contract: the status, which the read clears.
use Rattle.inplace.proofs.Ports.{status_is, emptied_stored, given_by}
use Rattle.inplace.proofs.Stores.{eleven, status_stored}
use Rattle.front.specs.Front.{emptied}
use Rattle.fields.specs.Stored.{front_in}
use Rattle.inplace.proofs.read_status.Goals as goal

pub returns : goal.returns
returns c =
    given_by (rw (status_is c.args.block.now))
    (status_stored c.args.block.now (emptied (front_in c.args.block.now))
    (eleven c.args.block.now c.requires.long) (emptied_stored c.args.block.now c.requires))
