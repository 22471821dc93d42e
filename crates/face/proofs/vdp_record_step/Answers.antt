-- `face::vdp_record_step` meets its contract: the record of a step.
use Rattle.trace_record.specs.declared.Record.TheVariants.{Step}
use Rattle.face.proofs.Records.{record_kept, step_kept}
use Rattle.face.proofs.vdp_record_step.Goals as goal

pub returns-else-area-gt-LAST_AREA : goal.returns-else-area-gt-LAST_AREA
returns-else-area-gt-LAST_AREA c =
    let a = c.args in
    let r = c.area_from in
    step_kept a.recording.now a.used a.area c.if-area-gt-LAST_AREA.false r.ensures
    (record_kept a.recording.now a.used (Step r.result) c.put_record.ensures.record_leaves c.recorded_word.ensures)
