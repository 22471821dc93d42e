-- `trace_run::paint_layers` meets its contract: the layers of a row as colours, into its place in the frame.
use mathlib.Core.Path.{◌≡◌}
use Rattle.laws.specs.Lists.{at}
use Rattle.laws.specs.Paint.{painted}
use Rattle.trace_run.specs.Run.{layer_colour}
use Rattle.trace_run.proofs.paint_layers.Given as goal

abbrev pub invariant-loop-x : goal.invariant-loop-x
invariant-loop-x l =
    (l.frame ≡ painted l.initial.frame l.first l.x (λ k. layer_colour (at l.layers k)))
