-- R19.5, R19.6: what is written reads back, and what is read is written again.
-- Assumes nothing.
use Rattle.std.specs.Prelude.{◌≡◌, Bool, true, ◌&&◌, List, [], ◌∷◌, ◌++◌, ℕ, ◌+◌, ◌<◌, ◌≤◌, length, take}
use Rattle.laws.specs.Lists.{at}
use Rattle.trace_record.specs.declared.Record.{Record}
use Rattle.trace_record.specs.declared.Record.TheVariants.{End}
use Rattle.trace_record.specs.Record.{record_at}
use Rattle.trace_record.specs.Writer.{record_bytes, size, recorded}
use Rattle.trace_record.specs.Reader.{is_call, records, stop}

-- every record of a list is a write, a read or a step
abbrev pub calls : List Record → Bool
calls [] = true
calls (x ∷ xs) = is_call x && calls xs

-- the bytes of records, one after another
abbrev pub all_bytes : List Record → List ℕ
all_bytes [] = []
all_bytes (x ∷ xs) = record_bytes x ++ all_bytes xs

-- the buffer b once the writer has put these records in it, each behind the one before, from offset k on
abbrev pub recorded_all : List ℕ → ℕ → List Record → List ℕ
recorded_all b k [] = b
recorded_all b k (x ∷ xs) = recorded_all (recorded b k x) (k + size x) xs

-- a recording with no bad record: where a reader stops, it is at the end
abbrev pub NoBad : List ℕ → Type 0
NoBad s = record_at s (stop s) ≡ End

-- R19.5: behind a recording with no bad record, in the first k bytes of a buffer, the writer puts records that fit: a reader hands out the old ones and
-- then these, and stops at the end
abbrev pub WrittenReads : Type 0
WrittenReads =
    (b : List ℕ) (k : ℕ) (xs : List Record) → ((i : ℕ) → at b i < 256) → k + length (all_bytes xs) ≤ length b → NoBad (take k b) → calls xs ≡ true
    → let s = take (k + length (all_bytes xs)) (recorded_all b k xs) in
    (records s ≡ records (take k b) ++ xs) × (stop s ≡ length s) × NoBad s

-- R19.6: the records of a recording with no bad record, put by the writer in a buffer of its length, are its bytes again
abbrev pub ReadWrites : Type 0
ReadWrites = (s b : List ℕ) → ((i : ℕ) → at s i < 256) → NoBad s → length b ≡ length s → recorded_all b 0 (records s) ≡ s

pub record Promises : Type 0 where
  pub written_reads : WrittenReads
  pub read_writes : ReadWrites
