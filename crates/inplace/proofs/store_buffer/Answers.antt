-- `inplace::store_buffer` meets its contract: a byte in the read buffer, and the address one on from this one.
use Rattle.inplace.proofs.Stores.{buffer_stored}
use Rattle.inplace.proofs.store_buffer.Goals as goal

pub returns : goal.returns
returns c =
    buffer_stored c.args.block.now c.requires.0 c.args.byte c.args.address
    c.store_address.ensures
