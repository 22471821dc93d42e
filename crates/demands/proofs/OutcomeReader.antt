-- One outcome for the five functions of `Reader`, whose contracts are proved by hand: each theorem names the clauses that the toolchain has of the function.
-- Assumes nothing.
use mathlib.Core.Path.{◌≡◌, refl, sym, ◌∙◌}
use lib.Dec.{leb}
use lib.ListN.{length}
use Rattle.trace_record.specs.Record.{record_at}
use Rattle.trace_record.specs.Reader.{past}
use Rattle.demands.specs.Outcome.{OneOutcomeSaid}
use Rattle.trace_reader.specs.contracts.Reader.new as reader-new
use Rattle.trace_reader.specs.contracts.Reader.next_record as reader-next
use Rattle.trace_reader.specs.contracts.Reader.past as reader-past
use Rattle.trace_reader.specs.contracts.Reader.ended as reader-ended
use Rattle.trace_reader.specs.contracts.Reader.place as reader-place

pub reader_new_once : OneOutcomeSaid reader-new.ended (λ m. reader-new.clauses m.𝓛 m.𝓜.mem m.𝓡.run)
reader_new_once = record {
  learnt = λ κs a z s. (z.recording ≡ a.0) × (z.at ≡ 0);
  is_said = λ m κs a g z s. refl;
  once = λ κs a z z' w w' e f. (λ i. record { recording = (e.0 ∙ sym f.0) i; at = (e.1 ∙ sym f.1) i }, refl);
}

pub next_record_once : OneOutcomeSaid reader-next.ended (λ m. reader-next.clauses m.𝓛 m.𝓜.mem m.𝓡.run)
next_record_once = record {
  learnt = λ κs a z s. z ≡ record_at a.0.recording.now a.0.at;
  is_said = λ m κs a g z s. refl;
  once = λ κs a z z' w w' e f. (e ∙ sym f, refl);
}

pub reader_past_once : OneOutcomeSaid reader-past.ended (λ m. reader-past.clauses m.𝓛 m.𝓜.mem m.𝓡.run)
reader_past_once = record {
  learnt = λ κs a z s. (z.recording ≡ a.0.recording) × (z.at ≡ past a.0.recording.now a.0.at);
  is_said = λ m κs a g z s. refl;
  once = λ κs a z z' w w' e f. (λ i. record { recording = (e.0 ∙ sym f.0) i; at = (e.1 ∙ sym f.1) i }, refl);
}

pub reader_ended_once : OneOutcomeSaid reader-ended.ended (λ m. reader-ended.clauses m.𝓛 m.𝓜.mem m.𝓡.run)
reader_ended_once = record {
  learnt = λ κs a z s. z ≡ leb (length a.0.recording.now) a.0.at;
  is_said = λ m κs a g z s. refl;
  once = λ κs a z z' w w' e f. (e ∙ sym f, refl);
}

pub reader_place_once : OneOutcomeSaid reader-place.ended (λ m. reader-place.clauses m.𝓛 m.𝓜.mem m.𝓡.run)
reader_place_once = record {
  learnt = λ κs a z s. z ≡ a.0.at;
  is_said = λ m κs a g z s. refl;
  once = λ κs a z z' w w' e f. (e ∙ sym f, refl);
}
