-- `pixel::one_column::in_front` meets its contract: a place of the row's priority mask: the columns that mark it are one of the first tile.
use Rattle.std.proofs.Common.{sym, ◌∙◌}
use Rattle.background.specs.Background.{back_front, prio_to}
use Rattle.pixel.specs.Column.{line_at}
use Rattle.pixel.proofs.Front.{front_two}
use Rattle.pixel.proofs.one_column.in_front.Goals as goal

pub returns-then-column_front : goal.returns-then-column_front
unfolding prio_to
returns-then-column_front c =
    let a = c.args in
    sym (front_two a.b.cut a.b.width a.place c.requires.set.cut_low c.requires.set.wide c.requires.set.narrow
    c.requires.place_bound (back_front a.vram.now a.b.names a.b.sx (line_at a.b a.place))
    ∙ rw (← c.line_of-y.ensures.value, sym c.column_front.ensures ∙ c.if-column_front.true))

pub returns : goal.returns
unfolding prio_to
returns c =
    let a = c.args in
    c.column_front-2.ensures ∙ rw c.line_of-y.ensures.value
    (sym (front_two a.b.cut a.b.width a.place c.requires.set.cut_low c.requires.set.wide c.requires.set.narrow
    c.requires.place_bound (back_front a.vram.now a.b.names a.b.sx (line_at a.b a.place))
    ∙ rw (← c.line_of-y.ensures.value, sym c.column_front.ensures ∙ c.if-column_front.false)))
