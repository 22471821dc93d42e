-- `pixel::one_column::marks_near` meets its contract: whether a sprite marks one of the places that the column needs.
use Rattle.std.proofs.Common.{◌≡◌}
use Rattle.laws.specs.Bits.{number}
use Rattle.pixel.specs.Column.{marks_left}
use Rattle.pixel.proofs.one_column.marks_near.Given as goal

abbrev pub invariant-loop-j : goal.invariant-loop-j
invariant-loop-j l = l.bits ≡ number l.j (marks_left l.vram l.b l.s l.addr l.col l.off)
