-- `pixel::one_column::map_pixel` meets its contract: the map's pixel, by the tile that stands there.
use Rattle.picture.specs.Tile.{map_colour, map_front, entry_colour, entry_front, entry_code, entry_at}
use Rattle.pixel.proofs.one_column.map_pixel.Goals as goal

pub returns : goal.returns
unfolding map_colour map_front entry_colour entry_front entry_code entry_at
returns c = (
  rw (
    c.weight.ensures.value,
    c.is_set-2.ensures,
    c.pixel_code-code.ensures.value,
    c.line_at-addr.ensures.value,
    c.is_set.ensures,
  ),
  rw (
    c.is_set-3.ensures,
    c.pixel_code-code.ensures.value,
    c.line_at-addr.ensures.value,
    c.is_set.ensures,
  ),
)
