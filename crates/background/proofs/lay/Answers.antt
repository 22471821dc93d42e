-- `background::lay` meets its contract: the mask with the marks of a row of tiles.
use Rattle.std.proofs.Common.{◌≡◌, get_or, ◌∙◌, arith, w8, Fits, rules}
use Rattle.laws.specs.Lists.{at}
use Rattle.background.proofs.Marks.{lay_none, lay_step, lay_all}
use Rattle.background.proofs.lay.Goals as goal

pub loop-i-init : goal.loop-i-init
loop-i-init c =
    let a = c.args in
    lay_none a.marks a.shift a.prio.bits (search rules) (λ k. let f : Fits w8 (get_or a.prio.bits k 0) = search rules in f.fits)

pub loop-i-preserved : goal.loop-i-preserved
loop-i-preserved c =
    let a = c.args in
    let v = c.loop-i.invariant in
    let i = c.loop-i.i in
    let f : Fits w8 (at a.marks i) = search rules in
    lay_step a.marks a.shift a.prio.bits i (search rules) (omega arith) f.fits v (rw (c.lower.ensures, c.upper.ensures))

pub returns : goal.returns
returns c =
    let a = c.args in
    let e : c.loop-i.i ≡ 32 = omega arith in
    c.loop-i.invariant ∙ lay_all a.marks a.shift a.prio.bits e
