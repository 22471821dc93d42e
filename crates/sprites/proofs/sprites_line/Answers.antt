-- `sprites::sprites_line` meets its contract: the sprites of a line, over its background, under the priority mask `prio`.
use Rattle.std.proofs.Common.{refl, arith, ◌<◌}
use Rattle.laws.specs.Lists.{at}
use Rattle.sprites.proofs.List.{row_starts, finished, going_on, going_ends, going_full, told_on}
use Rattle.sprites.proofs.sprites_line.Goals as goal

pub loop-next-init : goal.loop-next-init
loop-next-init c = (omega arith, omega arith, refl, refl, λ base told f colour pe me re le. row_starts _ _ _ _ _ _ _ _ _ _ re le me refl)

pub loop-next-preserved : goal.loop-next-preserved
loop-next-preserved c =
    let a = c.args in
    let v = c.loop-next.invariant in
    let next = c.in-Some.next in
    let room = c.requires.room in
    let set = c.table_of-table.ensures in
    let k = c.render_sprite-one.ensures in
    let turn : next.n < 64 = c.in-Some.ensures.from_le_n.1 in
    let below : c.loop-next.count < 8 = omega (arith, v.1) in (
      omega (arith, turn),
      omega (arith, below, k.counted),
      omega (arith, v.2, c.render_sprite-one.auto.row),
      omega
          (arith, v.3, c.render_sprite-one.auto.layers),
      λ base told f colour pe me re le.
          let o = v.4 base told f colour pe me re le in
          let follows = c.in-Some.ensures.by_index (at a.reg) set.start set.lines in
          going_on _ _ _ _ _ _ _ (follows.next turn) below k.counted o
          (told_on a.vram.now a.reg a.screen a.line f next c.loop-next.count set.start set.clock c.stand_of-s.ensures.value
          c.stand_of-s.ensures.fits.end_low (follows.below turn) (omega (arith, room.bytes, v.2)) pe o.shows k),
    )

pub returns-then-count-eq8 : goal.returns-then-count-eq8
returns-then-count-eq8 c =
    let a = c.args in
    let set = c.table_of-table.ensures in
    let turn : c.in-Some.next.n < 64 = c.in-Some.ensures.from_le_n.1 in
    λ base told f colour pe me re le.
    let o = c.loop-next.invariant.4 base told f colour pe me re le in
    let follows = c.in-Some.ensures.by_index (at a.reg) set.start set.lines in
    finished _ _ _ _ _ _ _ _ _ _ (going_full _ _ _ _ _ _ _ (follows.next turn) c.if-count-eq8.true o)

pub returns : goal.returns
returns c =
    let a = c.args in
    let set = c.table_of-table.ensures in
    λ base told f colour pe me re le.
    let o = c.loop-next.invariant.4 base told f colour pe me re le in
    let follows = c.in_default.ensures.by_index (at a.reg) set.start set.lines in
    finished _ _ _ _ _ _ _ _ _ _ (going_ends _ _ _ _ _ _ _ (follows.none (omega arith)) o)
