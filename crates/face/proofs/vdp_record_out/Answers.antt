-- `face::vdp_record_out` meets its contract: the record of a port write.
use Rattle.trace_record.specs.declared.Record.TheVariants.{Write}
use Rattle.face.proofs.Records.{record_kept}
use Rattle.face.proofs.vdp_record_out.Goals as goal

pub returns : goal.returns
returns c =
    let a = c.args in
    record_kept a.recording.now a.used (Write a.port a.value) c.put_record.ensures.record_leaves c.recorded_word.ensures
