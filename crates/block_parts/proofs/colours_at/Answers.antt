-- `block_parts::colours_at` meets its contract: the 32 colours that stand from this place on.
use mathlib.Core.Path.{◌≡◌, ◌∙◌}
use native.Mathlib.Omega.{arith}
use lib.ListN.{length-set}
use Rattle.block_parts.proofs.Copies.{colours_step, colours_all}
use Rattle.block_parts.proofs.colours_at.Goals as goal

pub loop-i-preserved : goal.loop-i-preserved
loop-i-preserved c =
    let l = c.loop-i in
    let a = c.args in
    (colours_step a.place a.src.now l.i (omega arith) c.colour_at.ensures l.invariant.0, simp length-set l.invariant.1)

pub returns : goal.returns
returns c =
    let l = c.loop-i in
    let a = c.args in
    let e : l.i ≡ 32 = omega arith in
    l.invariant.0 ∙ colours_all a.place a.src.now l.i e
