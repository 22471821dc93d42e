-- `pixel::one_column::column_at` meets its contract: the colour number of a column of a row: the map's, and over it the first eight sprites in turn.
use Rattle.std.proofs.Common.{◌≡◌, ℕ, ◌+◌, ◌%◌, ◌<◌, refl, ap, ◌∙◌, arith}
use Rattle.laws.specs.Lists.{at}
use Rattle.picture.specs.Tile.{map_colour}
use Rattle.sprites.specs.Sprites.{Follows}
use Rattle.sprites.proofs.List.{going_on, going_ends, with_sprite_is}
use Rattle.pixel.specs.Column.{Shows}
use Rattle.pixel.proofs.Laws.{column_starts, going_from, going_eight}
use Rattle.pixel.proofs.one_column.column_at.Goals as goal

pub loop-count-init : goal.loop-count-init
loop-count-init c =
    let a = c.args in (
      c.first_group-from.ensures.0,
      λ f colour pe ue. going_from _ _ _ _ _ _ _ c.first_group-from.ensures.1
          (column_starts _ _ colour
          (c.map_pixel-under.ensures.0
          ∙ ap (λ (k : ℕ). map_colour (at a.vram.now) a.b.names ((a.b.sx + a.col) % 256) k) c.line_of.ensures.value
          ∙ ue) refl),
    )

pub returns-in_default : goal.returns-in_default
returns-in_default c =
    let a = c.args in
    λ f colour pe ue. (going_ends _ _ _ _ _ _ (λ q L. Shows a.col c.shift_of-shift.result.off q c.loop-count.column)
    (c.in_default.ensures.follows.none (omega arith)) (c.loop-count.invariant.1 f colour pe ue)).shows.colour

pub loop-count-preserved : goal.loop-count-preserved
loop-count-preserved c =
    let a = c.args in
    let v = c.loop-count.invariant in
    let next = c.in-Some.next in
    let l : next.n < 64 = c.in-Some.ensures.from_le_n.1 in
    let k : c.loop-count._count < 8 = omega arith in
    let o : Follows (at a.vram.now) (at a.reg) a.line c.loop-count.from next.n next.d = c.in-Some.ensures.follows in (
      omega (arith, l),
      λ f colour pe ue.
          let w = v.1 f colour pe ue in
          going_on _ _ _ _ _ _ _ (o.next l) k refl w
          (rw (← with_sprite_is a.vram.now a.reg a.screen a.line next.n next.d f w.canvas
          c.table_at-table.ensures.value c.early_of-e.ensures.value refl (o.below l) refl)
          (c.sprite_at-column.ensures f w.canvas pe w.shows)),
    )

pub returns : goal.returns
returns c =
    let a = c.args in
    let e : c.loop-count._count ≡ 8 = omega arith in
    λ f colour pe ue. (going_eight _ _ _ _ _ _ (λ q. Shows a.col c.shift_of-shift.result.off q c.loop-count.column) e
    (c.loop-count.invariant.1 f colour pe ue)).colour
