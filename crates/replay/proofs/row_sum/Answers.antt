-- `replay::row_sum` meets its contract: the checksum of the row that a step drew, 0 where it drew none.
use Rattle.std.proofs.Common.{eq-eqb, ne_eqb}
use Rattle.laws.specs.Bits.{bit}
use Rattle.replay.specs.Replay.{row_sum}
use Rattle.replay.proofs.Laws.{wide_row, narrow_row}
use Rattle.replay.proofs.row_sum.Goals as goal

pub returns-then-word-ne1 : goal.returns-then-word-ne1
unfolding row_sum bit
returns-then-word-ne1 c = simp (ne_eqb _ _ c.if-word-ne1.true)

pub returns-then-area-eq1 : goal.returns-then-area-eq1
unfolding row_sum bit
returns-then-area-eq1 c = simp (eq-eqb _ _ c.if-word-ne1.false, wide_row _ c.if-area-eq1.true, c.sum_of.ensures)

pub returns : goal.returns
unfolding row_sum bit
returns c = simp (eq-eqb _ _ c.if-word-ne1.false, narrow_row _ c.if-area-eq1.false, c.sum_of-2.ensures)
