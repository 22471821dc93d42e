-- `tile_codes::get_tile` meets its contract: the 64 codes of the tile whose bytes start at `from`, into a buffer of that length.
use Prim.Native.Nat.{◌<◌}
use mathlib.Core.Path.{◌≡◌, ◌∙◌}
use native.Mathlib.Omega.{arith}
use lib.ListN.{length, length-set}
use Rattle.laws.specs.Lists.{at}
use Rattle.laws.proofs.Lists.{fill_step, filled_whole}
use Rattle.tile_codes.specs.Tiles.{codes_at}
use Rattle.tile_codes.proofs.Loops.{codes_long, code_is}
use Rattle.tile_codes.proofs.get_tile.Goals as goal

pub loop-k-preserved : goal.loop-k-preserved
loop-k-preserved c =
    let a = c.args in
    let l = c.loop-k in
    let s = codes_at (at a.src.now) a.from in
    let h : l.k < length s = omega (arith, codes_long (at a.src.now) a.from) in (
      fill_step a.codes.now 0 s l.k (omega arith) h (omega arith)
          (code_is (at a.src.now) a.from l.k (omega arith) c.code_at.ensures.0) l.invariant.0,
      simp length-set l.invariant.1,
    )

pub returns : goal.returns
returns c =
    let a = c.args in
    let l = c.loop-k in
    let h : length a.codes.now ≡ 64 = omega arith in
    let e : l.k ≡ 64 = omega arith in
    l.invariant.0 ∙ filled_whole a.codes.now (codes_at (at a.src.now) a.from) 64 h (codes_long (at a.src.now) a.from) e
