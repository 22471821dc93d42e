-- `face::vdp_record_next` meets its contract: what stands at an offset of a recording: which kind of record, its port or area, its value and its length.
use mathlib.Core.Path.{refl, ap, ◌∙◌}
use Prim.Native.Nat.{ℕ}
use Rattle.face.specs.Record.{bytes_word, record_word}
use Rattle.face.proofs.Records.{next_is}
use Rattle.face.proofs.vdp_record_next.Goals as goal

pub returns-in-Write : goal.returns-in-Write
unfolding record_word
returns-in-Write c =
    let a = c.args in
    next_is a.recording.now a.at c.record_at.ensures c.in-Write.is c.bytes_word.ensures

pub returns-in-Read : goal.returns-in-Read
unfolding record_word
returns-in-Read c =
    let a = c.args in
    next_is a.recording.now a.at c.record_at.ensures c.in-Read.is c.bytes_word-in-Read.ensures

pub returns-in-Step : goal.returns-in-Step
unfolding record_word
returns-in-Step c =
    let a = c.args in
    next_is a.recording.now a.at c.record_at.ensures c.in-Step.is
    (c.bytes_word-in-Step.ensures ∙ ap (λ (n : ℕ). bytes_word 3 n 0 3) c.area_number.ensures)

pub returns-in-Bad : goal.returns-in-Bad
unfolding record_word
returns-in-Bad c =
    let a = c.args in
    next_is a.recording.now a.at c.record_at.ensures c.in-Bad.is refl

pub returns-in-End : goal.returns-in-End
unfolding record_word
returns-in-End c =
    let a = c.args in
    next_is a.recording.now a.at c.record_at.ensures c.in-End.is refl
