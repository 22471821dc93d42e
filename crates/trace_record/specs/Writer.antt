-- R19.1, R19.2: a record put behind those that a recording has.
-- Assumes nothing.
use Rattle.std.specs.Prelude.{◌≡◌, List, [], ◌∷◌, ℕ, ◌+◌, ltb, length, Result, Err}
use Rattle.laws.specs.Lists.{written}
use Rattle.refusal.specs.declared.Refusal.{Refusal}
use Rattle.refusal.specs.declared.Refusal.TheVariants.{RecordRoom}
use Rattle.refusal.specs.Refusals.{Line, line, first, under, answered}
use Rattle.trace_record.specs.declared.Record.{Record}
use Rattle.trace_record.specs.declared.Record.TheVariants.{Write, Read, Step, Bad, End}
-- R7.9: the number of an area
pub use Rattle.picture.specs.Area.{area_number}

-- R7.9: the bytes of a record: `PW` port value, `PR` port, `LS` area; a bad one and the end are none
abbrev pub record_bytes : Record → List ℕ
record_bytes (Write port value) = 0x50 ∷ 0x57 ∷ port ∷ value ∷ []
record_bytes (Read port) = 0x50 ∷ 0x52 ∷ port ∷ []
record_bytes (Step area) = 0x4C ∷ 0x53 ∷ area_number area ∷ []
record_bytes Bad = []
record_bytes End = []

abbrev pub size : Record → ℕ
size x = length (record_bytes x)

-- R19.2, refusal 18: the record is longer than the room from offset k to the end of s; past the end there is none
abbrev pub record_lines : List ℕ → ℕ → Record → List Line
record_lines s k x = line (ltb (length s) (k + size x)) (Err RecordRoom) ∷ []

-- R19.1: the recording with the record in its bytes from offset k on, and all others as they were; refused, it stays
unfoldable pub recorded : List ℕ → ℕ → Record → List ℕ
recorded s k x = under (record_lines s k x) (λ r. s) (written s k (record_bytes x))

-- What the writer promises of its answer r, the bytes that the record took or why it was refused, and of the recording after it.
pub record RecordLeaves (s : List ℕ) (k : ℕ) (x : Record) (r : Result ℕ Refusal) (s' : List ℕ) : Type 0 where
  pub answer : r ≡ answered (size x) (first (record_lines s k x))
  pub recording : s' ≡ recorded s k x
