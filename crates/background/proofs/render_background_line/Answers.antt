-- `background::render_background_line` meets its contract: the background of a row whose pixel 0 shows the map's pixel (sx, y).
use Rattle.std.proofs.Common.{◌≡◌, ℕ, ◌+◌, ◌*◌, ◌/◌, ◌%◌, ◌≤◌, true, length, refl, ap, ◌∙◌, ⊎_elim, le_antisymm, arith, lit≤, length-set, get_or-set_other}
use Rattle.std.proofs.Common.{ne_eqb}
use lib.ListN.{length-replicate}
use Rattle.laws.specs.Paint.{painted}
use Rattle.laws.proofs.Paint.{painted_on}
use Rattle.bitmap.specs.Mask.{bytes_of}
use Rattle.background.specs.Background.{shade, back_colour, back_front, prio_to}
use Rattle.background.proofs.Laws.{tile_marks, whole-first, from_start, from-cleared, first_ends, last_asks}
use Rattle.background.proofs.Laws.{not_first, inside, whole-marks, next_starts, own_mark, other_mark, mark_step, up_to, painted_rest}
use Rattle.background.proofs.Marks.{laid_none, laid_next, at_zeros}
use Rattle.background.proofs.render_background_line.Goals as goal

pub render_tile-prio-requires-clause-n_bound_2 : goal.render_tile-prio-requires-clause-n_bound_2
render_tile-prio-requires-clause-n_bound_2 c =
    let a = c.args in
    let m = c.min-first.result in
    let d = c.requires.width_bound.2 in
    let f : a.sx % 8 + m ≤ 8 = omega arith in
    (omega arith, ⊎_elim (λ q. omega arith) (λ q. omega arith) d, whole-first a.sx a.cut m d f)

pub loop-x-init : goal.loop-x-init
loop-x-init c =
    let a = c.args in
    let m = c.min-first.result in
    let f = first_ends a.sx a.width c.min-first.ensures in (
      f.0,
      λ base e. e,
      λ e. laid_none (prio_to a.vram.now a.names a.sx a.y a.cut m) (m % 8) e,
      refl,
      f.1,
      length-replicate {A = ℕ} 33 0,
      refl,
      λ k h. at_zeros k,
    )

pub loop-x-preserved : goal.loop-x-preserved
loop-x-preserved c =
    let a = c.args in
    let p = c.requires.width_bound in
    let v = c.loop-x.invariant in
    let x = c.loop-x.x in
    let bits = c.render_whole_tile-bits.result in
    let t = c.loop-x-test.true in (
      t,
      λ base e.
          painted_on _ _ _ _ (v.1 base e)
          (rw c.bytes_of-table.ensures.result_value at c.render_whole_tile-bits.ensures.row_after),
      λ e.
          tile_marks a.vram.now a.names a.sx a.y a.cut x 8 (lit≤ tt)
          (whole-marks a.sx a.width a.cut x p.2 p.0 v.4 t)
          (λ j. back_front a.vram.now a.names a.sx a.y (x + j)) true (λ j h. refl) (v.2 e)
          c.render_whole_tile-bits.ensures.value
          (rw (ne_eqb x 0 (not_first a.sx a.width a.cut x p.2 p.0 v.4 t))
          (laid_next c.loop-x.marks c.render_tile-prio.result.bits (c.min-first.result % 8) x bits v.6
          (inside a.sx a.width a.cut x p.2 p.0 v.4 t)
          c.render_whole_tile-bits.type_inv v.5 (v.7 (x / 8 + 1) (own_mark x)))),
      c.row-in-loop-x-1.given ∙ v.3,
      next_starts a.sx a.width a.cut x p.2 p.0 v.4 t,
      simp length-set v.5,
      mark_step x c.min-first.result v.6,
      λ k h. let o = other_mark x k h in get_or-set_other c.loop-x.marks (x / 8 + 1) k bits 0 o.0 ∙ v.7 k o.1,
    )

pub returns-then-x-width-clause-row_after : goal.returns-then-x-width-clause-row_after
returns-then-x-width-clause-row_after c =
    let a = c.args in
    let m = c.min-first.result in
    let r1 = from_start a.row.now m (shade a.colours.now (back_colour a.vram.now a.names a.sx a.y))
    c.render_tile-prio.ensures.row_after in
    let p1 = from-cleared a.vram.now a.names a.sx a.y a.cut m c.render_tile-prio.ensures.bits_value c.new-none.ensures in
    let v = c.loop-x.invariant in
    let x = c.loop-x.x in
    painted_rest a.row.now x a.width (shade a.colours.now (back_colour a.vram.now a.names a.sx a.y)) v.0
    (v.1 a.row.now r1) c.render_tile-prio-then-x-width.ensures.row_after

pub returns-then-x-width-clause-bits_value : goal.returns-then-x-width-clause-bits_value
returns-then-x-width-clause-bits_value c =
    let a = c.args in
    let m = c.min-first.result in
    let r1 = from_start a.row.now m (shade a.colours.now (back_colour a.vram.now a.names a.sx a.y))
    c.render_tile-prio.ensures.row_after in
    let p1 = from-cleared a.vram.now a.names a.sx a.y a.cut m c.render_tile-prio.ensures.bits_value c.new-none.ensures in
    let v = c.loop-x.invariant in
    let x = c.loop-x.x in
    c.render_tile-prio-then-x-width.ensures.bits_value (c.lay-prio.ensures ∙ v.2 p1)
    ∙ ap (λ (k : ℕ). bytes_of (prio_to a.vram.now a.names a.sx a.y a.cut k)) (up_to x a.width v.0)

pub returns-else-x-width-clause-row_after : goal.returns-else-x-width-clause-row_after
returns-else-x-width-clause-row_after c =
    let a = c.args in
    let m = c.min-first.result in
    let r1 = from_start a.row.now m (shade a.colours.now (back_colour a.vram.now a.names a.sx a.y))
    c.render_tile-prio.ensures.row_after in
    let p1 = from-cleared a.vram.now a.names a.sx a.y a.cut m c.render_tile-prio.ensures.bits_value c.new-none.ensures in
    let v = c.loop-x.invariant in
    let x = c.loop-x.x in
    let e : x ≡ a.width = le_antisymm v.0 c.if-x-width.false in
    v.1 a.row.now r1
    ∙ ap (λ (k : ℕ). painted a.row.now 0 k (shade a.colours.now (back_colour a.vram.now a.names a.sx a.y))) e

pub returns-else-x-width-clause-bits_value : goal.returns-else-x-width-clause-bits_value
returns-else-x-width-clause-bits_value c =
    let a = c.args in
    let m = c.min-first.result in
    let r1 = from_start a.row.now m (shade a.colours.now (back_colour a.vram.now a.names a.sx a.y))
    c.render_tile-prio.ensures.row_after in
    let p1 = from-cleared a.vram.now a.names a.sx a.y a.cut m c.render_tile-prio.ensures.bits_value c.new-none.ensures in
    let v = c.loop-x.invariant in
    let x = c.loop-x.x in
    let e : x ≡ a.width = le_antisymm v.0 c.if-x-width.false in
    c.lay-prio.ensures ∙ v.2 p1 ∙ ap (λ (k : ℕ). bytes_of (prio_to a.vram.now a.names a.sx a.y a.cut k)) e

pub render_tile-prio-requires-then-x-width-clause-n_bound_2 : goal.render_tile-prio-requires-then-x-width-clause-n_bound_2
render_tile-prio-requires-then-x-width-clause-n_bound_2 c =
    let a = c.args in
    let p = c.requires.width_bound in
    let v = c.loop-x.invariant in
    let h : a.width * 4 ≤ length c.loop-x.row = rw (v.3, c.row-1.given) p.1 in
    let asked = last_asks a.sx a.width a.cut c.loop-x.x p.2 p.0 v.4 _ c.if-x-width.true c.loop-x-test.false h in
    asked.1
