-- `trace_text::put_answer` meets its contract: the line of an answer; without one no line.
use Rattle.trace_text.proofs.Lines.{line_done, no_line}
use mathlib.Core.Path.{refl}
use Rattle.trace_text.specs.Text.{line_of}
use Rattle.trace_text.proofs.put_answer.Goals as goal

pub returns-in_default : goal.returns-in_default
returns-in_default c =
    let whole = no_line c.args.out.now c.args.at c.in_default.is in
    record { value = whole.0; out_after = whole.1 }

pub returns-in-Wrote : goal.returns-in-Wrote
unfolding line_of
returns-in-Wrote c =
    let whole = line_done c.args.out.now c.args.at c.in-Some.is c.in-Wrote.is refl (c.put_line.ensures.value, c.put_line.ensures.out_after) in
    record { value = whole.0; out_after = whole.1 }
