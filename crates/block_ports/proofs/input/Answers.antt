-- `block_ports::input` meets its contract: a port read, all of it the front's.
use native.Mathlib.Omega.{arith}
use Rattle.block_ports.proofs.Front.{formed}
use Rattle.block_ports.proofs.Calls.{read_in_place}
use Rattle.block_ports.proofs.input.Goals as goal

pub read-requires : goal.read-requires
read-requires c =
    formed c.args.block.now c.requires (λ i. omega (arith, c.slice_known-1.given i))

pub returns : goal.returns
returns c =
    read_in_place c.args.block.now c.requires (λ i. omega (arith, c.slice_known-1.given i)) c.args.vram.now
    c.args.port c.read.ensures
