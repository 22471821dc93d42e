-- `trace_text::end::put_last` meets its contract: the last line of a trace: the count of records, or where the recording is bad.
use Rattle.trace_text.proofs.Endings.{last_end, last_bad}
use Rattle.trace_text.proofs.Lines.{put_as}
use Rattle.trace_text.proofs.end.put_last.Goals as goal

pub returns-then-input-stopped : goal.returns-then-input-stopped
returns-then-input-stopped c =
    let a = c.args in
    let whole = put_as a.out.now a.at (last_end a.input.now a.stopped a.count c.if-input-stopped.true)
    (c.put_numbered.ensures.value, c.put_numbered.ensures.out_after) in
    record { value = whole.0; out_after = whole.1 }

pub returns : goal.returns
returns c =
    let a = c.args in
    let whole = put_as a.out.now a.at (last_bad a.input.now a.stopped a.count c.if-input-stopped.false)
    (c.put_numbered-2.ensures.value, c.put_numbered-2.ensures.out_after) in
    record { value = whole.0; out_after = whole.1 }
