-- `pixel::one_column::none_of` meets its contract: whether none of the 16 Y bytes from k on is that of a sprite on the line, or ends the list.
use Rattle.std.proofs.Common.{◌≡◌, ℕ, ◌+◌, ◌<◌, true}
use Rattle.laws.specs.Lists.{at}
use Rattle.pixel.specs.Column.{Clear}
use Rattle.pixel.proofs.one_column.none_of.Given as goal

abbrev pub invariant-loop-i : goal.invariant-loop-i
invariant-loop-i l = l.none ≡ true → (j : ℕ) → j < l.i → Clear l.line l.lines (at l.vram (l.k + j))
