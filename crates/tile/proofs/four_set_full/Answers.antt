-- `tile::four_set_full` meets its contract: four colours, from pixel x of the row on.
use Rattle.tile.proofs.Store.{four_set}
use Rattle.tile.proofs.four_set_full.Goals as goal

pub returns : goal.returns
returns c =
    four_set _ _ _ c.pixel_set_full.ensures c.pixel_set_full-2.ensures c.pixel_set_full-3.ensures
    c.pixel_set_full-4.ensures
