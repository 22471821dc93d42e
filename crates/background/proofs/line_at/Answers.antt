-- `background::line_at` meets its contract: where line y of the tile with these entry bytes stands.
use Rattle.picture.specs.Tile.{tile_line}
use Rattle.background.proofs.line_at.Goals as goal

pub returns-clause-value : goal.returns-clause-value
unfolding tile_line
returns-clause-value c = rw (c.line_in.ensures.value, c.is_set-2.ensures, c.weight.ensures.value, c.is_set.ensures, c.from.ensures)
