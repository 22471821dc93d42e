-- `background::lay` meets its contract: the mask with the marks of a row of tiles.
use Rattle.std.proofs.Common.{◌≡◌}
use Rattle.background.proofs.Marks.{laid_to}
use Rattle.background.proofs.lay.Given as goal

abbrev pub invariant-loop-i : goal.invariant-loop-i
invariant-loop-i l = l.prio.bits ≡ laid_to l.marks l.shift l.initial.prio.bits l.i
