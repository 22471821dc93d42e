-- `trace_reader::past_record` meets its contract: the offset behind the record at this offset.
use Prim.Native.Nat.{◌-◌, ◌≤◌}
use lib.ListN.{length}
use Rattle.trace_record.specs.Reader.{past}
use Rattle.trace_record.proofs.Records.{fits}
use borrow.Author.Rules.{rules}
use Rattle.trace_reader.proofs.past_record.Goals as goal

pub overflow_add-result : goal.overflow_add-result
overflow_add-result c =
    let a = c.args in
    let h : c.size_of.result ≤ length a.s.now - a.at = rw (c.size_of.ensures.value, c.record_at-call.ensures) (fits a.s.now a.at) in
    search rules

pub returns : goal.returns
unfolding past
returns c = rw (c.from.ensures, c.size_of.ensures.value, c.record_at-call.ensures)
