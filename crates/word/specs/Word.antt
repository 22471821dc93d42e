-- R7.7, R16.6, the answer word of a call. Of a step: the refusal, from bit 8 on its interrupt, from bit 9 on its report, from bit 16 on its row, and bit 24
-- where it drew one. Of a read: the refusal, and from bit 8 on its byte.
-- Assumes nothing.
use Rattle.std.specs.Prelude.{Bool, cond, ℕ, ◌+◌, ◌*◌, ◌%◌, None, Option, Some}
use Rattle.refusal.specs.Refusals.{refusal_number, Outcome}
use Rattle.points.specs.declared.VdpInt.{VdpInt}
use Rattle.points.specs.declared.DisplayRefresh.{DisplayRefresh}
use Rattle.points.specs.declared.Points.{Points}
use Rattle.points.specs.Points.{interrupt_number, report_number}

abbrev pub row_bits : Option ℕ → ℕ
row_bits None = 0
row_bits (Some y) = 65536 * y + 16777216

unfoldable pub answer_word : Outcome → VdpInt → DisplayRefresh → Option ℕ → ℕ
answer_word r i p row = refusal_number r + 256 * interrupt_number i + 512 * report_number p + row_bits row

abbrev pub points_word : Points → ℕ
points_word p = answer_word p.outcome p.interrupt p.report p.row

abbrev pub byte_word : Outcome → ℕ → ℕ
byte_word r byte = refusal_number r + 256 * byte

-- R16.6, of one pixel: bit 24 where there is one, and its four bytes in bits 32 to 63, red lowest
abbrev pub pixel_bits : Bool → ℕ → ℕ
pixel_bits there colour = cond there 16777216 0 + 4294967296 * colour

-- the refusal is the word's low byte
abbrev pub refusal_in : ℕ → ℕ
refusal_in word = word % 256
