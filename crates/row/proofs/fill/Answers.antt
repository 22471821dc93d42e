-- `row::fill` meets its contract: the first eight pixels in one colour, where `on`.
use mathlib.Core.Path.{refl, ap, ◌∙◌}
use lib.ListN.{length}
use Rattle.laws.specs.Paint.{painted}
use Rattle.laws.proofs.Paint.{length-painted}
use Rattle.row.proofs.Home.{fill_step}
use Rattle.row.proofs.fill.Goals as goal

pub loop-x-init : goal.loop-x-init
unfolding painted
loop-x-init c = (refl, refl)

pub loop-x-preserved : goal.loop-x-preserved
loop-x-preserved c =
    let e = fill_step c.args.row.now c.loop-x.x c.args.c c.loop-x.invariant.1
    c.pixel_set_full.ensures in
    (ap length e ∙ length-painted _ _ _ _, e)
