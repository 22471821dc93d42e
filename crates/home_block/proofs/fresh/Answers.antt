-- `home_block::fresh` meets its contract: a fresh device of this table into a block.
use Rattle.home_block.proofs.Whole.{fresh_block}
use Rattle.home_block.proofs.fresh.Goals as goal

pub returns : goal.returns
returns c =
    fresh_block c.args.table c.args.block.now c.requires c.stamp.ensures c.from.ensures
