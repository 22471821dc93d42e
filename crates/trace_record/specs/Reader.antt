-- R19.3, R19.4: a reader, which holds a recording and its place in it, and hands out one record after another.
-- Assumes nothing.
use Rattle.std.specs.Prelude.{Bool, true, false, cond, List, [], ◌∷◌, ℕ, zero, suc, ◌+◌, length}
use Rattle.trace_record.specs.declared.Record.{Record}
use Rattle.trace_record.specs.declared.Record.TheVariants.{Write, Read, Step, Bad, End}
use Rattle.trace_record.specs.Record.{record_at}
use Rattle.trace_record.specs.Writer.{size}

-- whether it is a write, a read or a step
abbrev pub is_call : Record → Bool
is_call (Write port value) = true
is_call (Read port) = true
is_call (Step area) = true
is_call Bad = false
is_call End = false

-- R19.3: the offset behind the record at offset k; at a bad record and at the end the reader stays where it is
unfoldable pub past : List ℕ → ℕ → ℕ
past s k = k + size (record_at s k)

-- R19.4: the calls that it hands out in n turns from offset k on, until there is none, and where it then stands
unfoldable pub handed : ℕ → List ℕ → ℕ → List Record
handed zero s k = []
handed (suc n) s k = cond (is_call (record_at s k)) (record_at s k ∷ handed n s (past s k)) []

unfoldable pub place : ℕ → List ℕ → ℕ → ℕ
place zero s k = k
place (suc n) s k = place n s (past s k)

-- all of a recording, from its first byte on: a turn for each of its bytes is enough
unfoldable pub records : List ℕ → List Record
records s = handed (length s) s 0

unfoldable pub stop : List ℕ → ℕ
stop s = place (length s) s 0
