-- `pixel::one_column::column_front` meets its contract: whether column x of the row stands in front of sprites, where that is asked.
use Rattle.background.specs.Background.{back_front}
use Rattle.pixel.proofs.one_column.column_front.Goals as goal

pub returns : goal.returns
unfolding back_front
returns c =
    rw c.if-not-asked.false c.map_pixel-here.ensures.1
