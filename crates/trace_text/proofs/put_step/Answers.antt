-- `trace_text::put_step` meets its contract: the line of a step.
use Rattle.trace_text.proofs.Lines.{put_as, step_line}
use Rattle.trace_text.proofs.put_step.Goals as goal

pub returns : goal.returns
returns c =
    let a = c.args in
    let whole = put_as a.out.now a.at
    (step_line a.refusal a.counter a.interrupt a.report c.hex_digit-high.ensures c.hex_digit-low.ensures
    c.from-i.ensures c.from-d.ensures)
    (c.put_line.ensures.value, c.put_line.ensures.out_after) in
    record { value = whole.0; out_after = whole.1 }
