-- `tile_codes::code_at` meets its contract: the code that bit i of four bytes has, the first one's the lowest.
use native.Mathlib.Omega.{arith}
use Rattle.laws.specs.Lists.{at}
use Rattle.tile_codes.proofs.Loops.{code_sum}
use Rattle.tile_codes.proofs.code_at.Goals as goal

pub returns : goal.returns
returns c =
    let a = c.args in
    let m = at a.bytes.now in (
      code_sum (m a.k0) (m a.k1) (m a.k2) (m a.k3) a.i c.weighed.ensures.value c.weighed-2.ensures.value
          c.weighed-3.ensures.value c.weighed-4.ensures.value,
      omega arith,
    )
