-- `trace_run::output::trace` meets its contract: the text of a recording, run on this device, at the start of out, and how long it is.
use mathlib.Core.Path.{◌≡◌}
use lib.ListN.{length}
use Rattle.laws.specs.Lists.{written}
use Rattle.trace_run.specs.Run.{held, row_turn, after, lines}
use Rattle.trace_run.proofs.output.trace.Given as goal

abbrev pub invariant-loop-i : goal.invariant-loop-i
invariant-loop-i l =
    (held l.run l.vram l.row l.none ≡ after row_turn l._i l.input (held l.initial.run l.initial.vram l.initial.row l.initial.none))
    × (l.len ≡ length (lines row_turn l._i l.input (held l.initial.run l.initial.vram l.initial.row l.initial.none)))
    × (l.out ≡ written l.initial.out 0 (lines row_turn l._i l.input (held l.initial.run l.initial.vram l.initial.row l.initial.none)))
