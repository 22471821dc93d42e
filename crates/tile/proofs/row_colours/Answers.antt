-- `tile::row_colours` meets its contract: the colours of the four pixels from pixel x of the row on.
use Rattle.tile.specs.Fours.{fours}
use Rattle.tile.proofs.row_colours.Goals as goal

pub returns : goal.returns
unfolding fours
returns c =
    rw (c.four_at-4.ensures, c.four_at-3.ensures, c.four_at-2.ensures, c.four_at.ensures)
