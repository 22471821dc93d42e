-- `tile::sprite_columns` meets its contract: the columns of the line at addr, from the tile's pixel start to below end.
use borrow.Author.Rules.{rules}
use native.Mathlib.Omega.{arith}
use mathlib.Core.Bool.{false}
use Prim.Native.Nat.{◌+◌, ◌-◌, ◌<◌, ◌≤◌}
use lib.Bits.{bit_and}
use lib.Dec.{ltb}
use Rattle.laws.specs.Bits.{bit}
use Rattle.laws.specs.Lists.{at}
use Rattle.laws.proofs.Paint.{overlaid_all}
use Rattle.picture.specs.Tile.{code_at}
use Rattle.picture.specs.Picture.{solid}
use Rattle.tile.proofs.Lanes.{lane_past}
use Rattle.tile.proofs.Marks.{drawn_past}
use Rattle.tile.proofs.Whole.{bit_at, part_solid, lane_at, lane_low, overlaid_cong, draw_at, marks_are, drawn_are, held_are, none_left}
use mathlib.Core.Path.{◌≡◌, refl, ap, ◌∙◌}
use mir.Syntax.{w8}
use mir.Val.{Fits}
use Rattle.laws.proofs.Bits.{bit_byte_of}
use Rattle.tile.proofs.Whole.{in_the_row, none_marked, none_drawn, none_held, none_laid}
use Rattle.tile.proofs.sprite_columns.Goals as goal

pub returns-then-end-start-clause-row_after : goal.returns-then-end-start-clause-row_after
returns-then-end-start-clause-row_after c =
    let a = c.args in
    let v = a.vram.now in
    let h : a.end ≤ a.start = c.if-end-start.true in
    let f = c.fates.ensures in
    none_laid v a.addr a.start a.end a.held a.taken a.width a.x h a.row.now _

pub returns-then-end-start-clause-marks_value : goal.returns-then-end-start-clause-marks_value
returns-then-end-start-clause-marks_value c =
    let a = c.args in
    let v = a.vram.now in
    let h : a.end ≤ a.start = c.if-end-start.true in
    let f = c.fates.ensures in (
      f.0 ∙ rw none_left (none_marked v a.addr a.start a.end a.held a.taken a.width a.x h),
      f.1 ∙ simp none_left (none_drawn v a.addr a.start a.end a.held a.taken a.width a.x h),
      f.2 ∙ rw none_left (none_held v a.addr a.start a.end a.held a.taken a.width a.x h),
    )

pub overlay_some-requires : goal.overlay_some-requires
overlay_some-requires c =
    let a = c.args in
    let l : a.start < a.end = omega (arith, c.if-end-start.false) in (
      c.requires.3,
      omega arith,
      λ k h t.
          let r = in_the_row (bit_and (bit_and c.cut-all.result (255 - a.held)) (255 - a.taken)) c.in_row.result a.width a.x k
          c.fates-columns.ensures.1 c.in_row.ensures h t in
          omega (arith, c.requires.4, r),
      λ k h. let g : a.start + k < 8 = omega arith in rw lane_past
          (lane_low a.vram.now a.addr false c.line_of-line.ensures.codes_value (a.start + k) g),
    )

pub returns-clause-row_after : goal.returns-clause-row_after
returns-clause-row_after c =
    let a = c.args in
    let v = a.vram.now in
    let b = c.cut-all.result in
    let o = c.in_row.result in
    let w = c.line_of-line.result.codes in
    let l : a.start < a.end = omega (arith, c.if-end-start.false) in
    let fit : Fits w8 b = search rules in
    let e : (k : _) → k < 8 → bit b k ≡ solid a.start a.end (code_at (at v) a.addr) k =
    λ k h. ap (λ n. bit n k) c.cut-all.ensures ∙ part_solid v a.addr a.start a.end (a.end - a.start) k _ l c.requires.0 refl
    (bit_at v a.addr false c.line_of-line.ensures.solids_value a.start) in
    let er : (k : _) → k < 8 → bit o k ≡ ltb (a.x + k) a.width = λ k h. ap (λ n. bit n k) c.in_row.ensures ∙ bit_byte_of _ k h in
    let hb : b < 256 = fit.fits in
    let hh = c.ranges.held.fits in
    let ht = c.ranges.taken.fits in
    let f = c.fates-columns.ensures in
    c.overlay_some.ensures
    ∙ overlaid_cong _ _ (a.end - a.start) _ _ _ _
    (λ k h. let g : k < 8 = omega arith in ap (λ n. bit n k) f.1 ∙ draw_at v a.addr a.start a.end a.held a.taken a.width
    a.x b o hh ht hb e er k g)
    (λ k h.
    let g : a.start + k < 8 = omega arith in
    ap (λ i. at a.colours.now (16 + i)) (lane_past w a.start k ∙ lane_at v a.addr false c.line_of-line.ensures.codes_value (a.start + k) g))
    ∙ overlaid_all _ _ _ _ (a.end - a.start) (omega arith)
    (λ k h. let g : a.end ≤ a.start + k = omega arith in drawn_past v a.addr a.start a.end a.held a.taken a.width a.x k
    g)

pub returns-clause-marks_value : goal.returns-clause-marks_value
returns-clause-marks_value c =
    let a = c.args in
    let v = a.vram.now in
    let b = c.cut-all.result in
    let o = c.in_row.result in
    let w = c.line_of-line.result.codes in
    let l : a.start < a.end = omega (arith, c.if-end-start.false) in
    let fit : Fits w8 b = search rules in
    let e : (k : _) → k < 8 → bit b k ≡ solid a.start a.end (code_at (at v) a.addr) k =
    λ k h. ap (λ n. bit n k) c.cut-all.ensures ∙ part_solid v a.addr a.start a.end (a.end - a.start) k _ l c.requires.0 refl
    (bit_at v a.addr false c.line_of-line.ensures.solids_value a.start) in
    let er : (k : _) → k < 8 → bit o k ≡ ltb (a.x + k) a.width = λ k h. ap (λ n. bit n k) c.in_row.ensures ∙ bit_byte_of _ k h in
    let hb : b < 256 = fit.fits in
    let hh = c.ranges.held.fits in
    let ht = c.ranges.taken.fits in
    let f = c.fates-columns.ensures in (
      f.0 ∙ marks_are v a.addr a.start a.end a.held a.taken a.width a.x b o hh ht hb e er,
      f.1 ∙ drawn_are v a.addr a.start a.end a.held a.taken a.width a.x b o hh ht hb e er,
      f.2 ∙ held_are v a.addr a.start a.end a.held a.taken a.width a.x b o hh ht hb e er,
    )
