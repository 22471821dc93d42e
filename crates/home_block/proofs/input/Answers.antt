-- `home_block::input` meets its contract: a port read, all of it the front's.
use native.Mathlib.Omega.{arith}
use Rattle.home_block.proofs.Ports.{formed, read_in_place}
use Rattle.home_block.proofs.input.Goals as goal

pub read-requires : goal.read-requires
read-requires c =
    formed c.args.block.now c.requires (λ i. omega (arith, c.slice_known-1.given i))

pub returns : goal.returns
returns c =
    read_in_place c.args.block.now c.requires (λ i. omega (arith, c.slice_known-1.given i)) c.args.vram.now
    c.args.port c.read.ensures
