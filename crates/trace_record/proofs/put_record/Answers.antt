-- `trace_record::put_record` meets its contract: a record into the bytes from offset `used` on.
use Rattle.trace_record.proofs.Records.{left_full, left_stored}
use Rattle.trace_record.proofs.put_record.Goals as goal

pub returns-clause-record_leaves : goal.returns-clause-record_leaves
returns-clause-record_leaves c =
    left_stored c.args.recording.now c.args.used c.args.call c.size_of-count.ensures.value
    (rw c.from-size.ensures at c.has_room.ensures) c.if-not-has_room.false c.bytes_of-bytes.result
    c.bytes_of-bytes.ensures (rw c.from-size.ensures at c.put_all.ensures.out_after)

pub returns-then-not-has_room-clause-record_leaves : goal.returns-then-not-has_room-clause-record_leaves
returns-then-not-has_room-clause-record_leaves c =
    left_full c.args.recording.now c.args.used c.args.call c.size_of-count.ensures.value (rw c.from-size.ensures at c.has_room.ensures)
    c.if-not-has_room.true
