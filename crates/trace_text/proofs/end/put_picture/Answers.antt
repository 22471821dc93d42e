-- `trace_text::end::put_picture` meets its contract: what is written of a run that stopped: its picture, or where the recording is bad.
use mathlib.Core.Path.{ap, ◌∙◌}
use lib.ListN.{length}
use Rattle.laws.specs.Lists.{written}
use Rattle.trace_text.proofs.Endings.{drawn_end, drawn_bad}
use Rattle.trace_text.proofs.Lines.{put_as}
use Rattle.trace_text.specs.End.{drawn}
use native.Mathlib.Nat.{zero-add}
use Rattle.trace_text.proofs.end.put_picture.Goals as goal

pub returns-then-input-stopped : goal.returns-then-input-stopped
returns-then-input-stopped c =
    let a = c.args in
    let q = drawn_end a.screen a.input.now a.stopped a.frame.now c.if-input-stopped.true in
    let p = c.put_ppm.ensures in
    record { value = p.value ∙ ap length q; out_after = p.out_after ∙ ap (written a.out.now 0) q }

pub returns : goal.returns
returns c =
    let a = c.args in
    let g = put_as a.out.now 0 (drawn_bad a.screen a.input.now a.stopped a.frame.now c.if-input-stopped.false)
    (c.put_numbered.ensures.value, c.put_numbered.ensures.out_after) in
    record { value = g.0 ∙ zero-add (length (drawn a.screen a.input.now a.stopped a.frame.now)); out_after = g.1 }
