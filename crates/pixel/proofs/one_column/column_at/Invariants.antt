-- `pixel::one_column::column_at` meets its contract: the colour number of a column of a row: the map's, and over it the first eight sprites in turn.
use Rattle.std.proofs.Common.{◌≡◌, ℕ, ◌+◌, ◌%◌, ◌<◌, ◌≤◌, Bool}
use Rattle.laws.specs.Lists.{at}
use Rattle.picture.specs.Tile.{map_colour}
use Rattle.picture.specs.View.{early}
use Rattle.stand.specs.Stand.{stand_of}
use Rattle.sprites.proofs.List.{Going}
use Rattle.pixel.specs.Column.{line_at, front_at, Shows}
use Rattle.pixel.proofs.one_column.column_at.Given as goal

abbrev pub invariant-loop-count : goal.invariant-loop-count
invariant-loop-count l = (l.from ≤ 64)
    × ((f : ℕ → Bool) (colour : ℕ → ℕ) → ((i : ℕ) → i < 256 → front_at l.vram l.b i ≡ f i) → map_colour (at l.vram) l.b.names ((l.b.sx + l.col) % 256)
    (line_at l.b l.col) ≡ colour l.col →
    Going (at l.vram) (at l.reg) (stand_of l.screen (early (at l.reg))) l.line f colour l.from l._count (λ q L. Shows l.col l.shift.off q l.column))
