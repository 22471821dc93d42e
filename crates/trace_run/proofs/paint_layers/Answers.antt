-- `trace_run::paint_layers` meets its contract: the layers of a row as colours, into its place in the frame.
use mathlib.Core.Path.{refl}
use Rattle.laws.specs.Paint.{painted}
use Rattle.laws.proofs.Paint.{painted_step}
use Rattle.trace_run.proofs.paint_layers.Goals as goal

pub loop-x-init : goal.loop-x-init
unfolding painted
loop-x-init c = refl

pub loop-x-preserved : goal.loop-x-preserved
loop-x-preserved c = painted_step _ _ _ _ c.loop-x.invariant c.layer_colour.ensures c.pixel_set_full.ensures
