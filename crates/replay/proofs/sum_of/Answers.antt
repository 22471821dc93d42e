-- `replay::sum_of` meets its contract: the checksum of the first n bytes.
use Rattle.std.proofs.Common.{◌≡◌, ℕ, arith, refl, ap, ◌∙◌}
use Rattle.replay.specs.Replay.{sum_of}
use Rattle.replay.proofs.Laws.{sum_step}
use Rattle.replay.proofs.sum_of.Goals as goal

pub loop-i-init : goal.loop-i-init
unfolding sum_of
loop-i-init c = (refl, omega arith)

pub loop-i-preserved : goal.loop-i-preserved
loop-i-preserved c = (sum_step c.args.bytes.now c.loop-i.i c.loop-i.invariant.0 c.part-sum.ensures.0, omega arith)

pub returns : goal.returns
returns c =
    let e : c.loop-i.i ≡ c.args.n = omega arith in
    c.loop-i.invariant.0 ∙ ap (λ (k : ℕ). sum_of k c.args.bytes.now) e
