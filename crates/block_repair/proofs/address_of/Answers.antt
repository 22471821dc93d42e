-- `block_repair::address_of` meets its contract: the address, reduced to its memory.
use Prim.Native.Nat.{◌+◌, ◌*◌}
use mathlib.Core.Path.{◌≡◌}
use native.Mathlib.Omega.{arith}
use Rattle.laws.specs.Lists.{at}
use Rattle.block_repair.specs.Repair.{address}
use Rattle.block_repair.proofs.address_of.Goals as goal

pub returns : goal.returns
unfolding address
returns c =
    let b = c.args.old.now in
    let e : c.from_le_bytes.result ≡ at b 17 + 256 * at b 18 = omega (arith, c.from_le_bytes.ensures) in
    rw (e, c.memory_size.ensures.value, c.in_range.ensures)
