-- `block::fresh` meets its contract: a fresh device of this table into a block, in the version that its length tells.
use mathlib.Core.Path.{sym, ◌∙◌}
use Rattle.block.specs.Block.{fresh_in}
use Rattle.block.proofs.Made.{fresh_old, fresh_new}
use Rattle.block.proofs.fresh.Goals as goal

pub returns-then-not-has_room : goal.returns-then-not-has_room
unfolding fresh_in
returns-then-not-has_room c = simp (sym c.has_room.ensures ∙ c.if-not-has_room.true)

pub returns-then-len-gt-OLD_SIZE : goal.returns-then-len-gt-OLD_SIZE
returns-then-len-gt-OLD_SIZE c =
    fresh_new c.args.table c.args.block.now (sym c.has_room.ensures ∙ c.if-not-has_room.false)
    c.stamp.ensures c.mark_of.ensures c.if-len-gt-OLD_SIZE.true c.from.ensures

pub returns-else-len-gt-OLD_SIZE : goal.returns-else-len-gt-OLD_SIZE
returns-else-len-gt-OLD_SIZE c =
    fresh_old c.args.table c.args.block.now (sym c.has_room.ensures ∙ c.if-not-has_room.false)
    c.stamp.ensures c.mark_of.ensures c.if-len-gt-OLD_SIZE.false
