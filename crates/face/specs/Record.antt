-- R19.8 in the C face: the calls that write a record, and the one that reads one. They take no block.
-- Assumes nothing.
use Rattle.std.specs.Prelude.{List, [], ℕ, ◌+◌, ◌*◌}
use Rattle.laws.specs.Lists.{written}
use Rattle.refusal.specs.Refusals.{under}
use Rattle.trace_record.specs.declared.Record.{Record}
use Rattle.trace_record.specs.declared.Record.TheVariants.{Write, Read, Step, Bad, End}
use Rattle.trace_record.specs.Record.{record_at}
use Rattle.trace_record.specs.Writer.{area_number, record_bytes, size, record_lines}
use Rattle.face.specs.Face.{Called, refused, on_area}

-- the number of bytes written stands from bit 8 on; the buffer that may be written is the recording s, and k the place in it
unfoldable pub record_call : List ℕ → ℕ → Record → Called
record_call s k x =
    under (record_lines s k x) (λ r. refused r [] s) (record { word = 256 * size x; block = []; lent = written s k (record_bytes x) })

-- R2.1: of a step, first the area number
unfoldable pub record_step_call : List ℕ → ℕ → ℕ → Called
record_step_call s k n = on_area n [] s (λ a. record_call s k (Step a))

-- what stands at an offset: nothing more, a write, a read, a step, a bad record
abbrev pub kind_number : Record → ℕ
kind_number End = 0
kind_number (Write port value) = 1
kind_number (Read port) = 2
kind_number (Step area) = 3
kind_number Bad = 4

-- its port or area, and its value
abbrev pub first_byte : Record → ℕ
first_byte (Write port value) = port
first_byte (Read port) = port
first_byte (Step area) = area_number area
first_byte Bad = 0
first_byte End = 0

abbrev pub value_byte : Record → ℕ
value_byte (Write port value) = value
value_byte (Read port) = 0
value_byte (Step area) = 0
value_byte Bad = 0
value_byte End = 0

-- bits 0 to 7, 8 to 15, 16 to 23, and from bit 24 on its length
abbrev pub bytes_word : ℕ → ℕ → ℕ → ℕ → ℕ
bytes_word a b c d = a + 256 * b + 65536 * c + 16777216 * d

unfoldable pub record_word : Record → ℕ
record_word x = bytes_word (kind_number x) (first_byte x) (value_byte x) (size x)

abbrev pub next_call : List ℕ → ℕ → ℕ
next_call s k = record_word (record_at s k)
