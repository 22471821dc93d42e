-- `tile::paint_whole` meets its contract: the colours that the eight lanes name, from pixel x of the row on.
use Rattle.tile.proofs.Store.{eight_set}
use Rattle.tile.proofs.paint_whole.Goals as goal

pub returns : goal.returns
returns c =
    eight_set _ _ _ c.lane_colours-left.ensures c.lane_colours-right.ensures c.four_set_full.ensures
    c.four_set_full-2.ensures
