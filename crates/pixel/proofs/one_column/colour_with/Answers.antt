-- `pixel::one_column::colour_with` meets its contract: the colour number of the column with a sprite whose marks are `bits`: its own where it is seen.
use Rattle.std.proofs.Common.{◌+◌, ◌-◌, le-ltb, lt-ltb}
use Rattle.pixel.specs.Column.{colour_with}
use Rattle.pixel.proofs.Laws.{not_here, here, not-drawn, is_drawn}
use Rattle.pixel.proofs.one_column.colour_with.Goals as goal

pub returns-then-s-col : goal.returns-then-s-col
unfolding colour_with
returns-then-s-col c =
    let a = c.args in
    rw (not_here a.s.seen a.s.x a.col _ c.if-s-col.true)

pub returns-then-s-p : goal.returns-then-s-p
unfolding colour_with
returns-then-s-p c =
    let a = c.args in
    rw (
      here a.s.seen a.s.x a.col _ c.if-s-col.false,
      le-ltb (a.s.start + (a.col - a.s.x)) a.s.end c.if-s-p.true,
    )

pub returns-then-is_set : goal.returns-then-is_set
unfolding colour_with
returns-then-is_set c =
    let a = c.args in
    rw (
      here a.s.seen a.s.x a.col _ c.if-s-col.false,
      lt-ltb (a.s.start + (a.col - a.s.x)) a.s.end c.if-s-p.false,
      ← c.is_set.ensures,
      ← c.is_set-2.ensures,
      not-drawn c.is_set.result c.is_set-2.result c.if-is_set.true,
    )

pub returns : goal.returns
unfolding colour_with
returns c =
    let a = c.args in
    rw (
      here a.s.seen a.s.x a.col _ c.if-s-col.false,
      lt-ltb (a.s.start + (a.col - a.s.x)) a.s.end c.if-s-p.false,
      ← c.is_set.ensures,
      ← c.is_set-2.ensures,
      is_drawn c.is_set.result c.is_set-2.result c.if-is_set.false,
      c.pixel_code.ensures.value,
    )
