-- `face::vdp_record_input` meets its contract: the record of a port read.
use Rattle.trace_record.specs.declared.Record.TheVariants.{Read}
use Rattle.face.proofs.Records.{record_kept}
use Rattle.face.proofs.vdp_record_input.Goals as goal

pub returns : goal.returns
returns c =
    let a = c.args in
    record_kept a.recording.now a.used (Read a.port) c.put_record.ensures.record_leaves c.recorded_word.ensures
