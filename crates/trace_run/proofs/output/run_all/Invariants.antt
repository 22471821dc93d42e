-- `trace_run::output::run_all` meets its contract: a whole recording, record by record.
use mathlib.Core.Path.{◌≡◌}
use Rattle.trace_run.specs.Run.{held, turn_for, after}
use Rattle.trace_run.proofs.output.run_all.Given as goal

abbrev pub invariant-loop-i : goal.invariant-loop-i
invariant-loop-i l =
    held l.run l.vram l.row l.frame ≡ after (turn_for l.shown) l._i l.input (held l.initial.run l.initial.vram l.initial.row l.initial.frame)
