-- `pixel::one_column::marks_left` meets its contract: whether a sprite marks the place j to the left of the column's.
use Rattle.std.proofs.Common.{sym, ◌∙◌, le-ltb, lt-ltb, eq-eqb, ne_eqb}
use borrow.Author.Tests.{not-true, not-false}
use Rattle.picture.specs.Picture.{solid}
use Rattle.pixel.specs.Column.{marks_left}
use Rattle.pixel.proofs.Laws.{left_past}
use Rattle.pixel.proofs.one_column.marks_left.Goals as goal

pub returns-then-s-p : goal.returns-then-s-p
unfolding marks_left solid
returns-then-s-p c =
    let a = c.args in
    let e = left_past a.col a.off a.j a.s.mark c.requires.addr_in_bounds.3 c.requires.fits.mark_low in
    rw (← e, le-ltb _ _ c.if-s-p.true)

pub returns-then-pixel_code-eq0 : goal.returns-then-pixel_code-eq0
unfolding marks_left solid
returns-then-pixel_code-eq0 c =
    let a = c.args in
    let e = left_past a.col a.off a.j a.s.mark c.requires.addr_in_bounds.3 c.requires.fits.mark_low in
    rw (← e, lt-ltb _ _ c.if-s-p.false, eq-eqb _ 0 (sym c.pixel_code.ensures.value ∙ c.if-pixel_code-eq0.true))

pub returns-then-not-s : goal.returns-then-not-s
unfolding marks_left solid
returns-then-not-s c =
    let a = c.args in
    let e = left_past a.col a.off a.j a.s.mark c.requires.addr_in_bounds.3 c.requires.fits.mark_low in
    rw (
      ← e,
      lt-ltb _ _ c.if-s-p.false,
      ne_eqb _ 0 (λ z. c.if-pixel_code-eq0.false (c.pixel_code.ensures.value ∙ z)),
      not-true
          a.s.seen c.if-not-s.true,
    )

pub returns : goal.returns
unfolding marks_left solid
returns c =
    let a = c.args in
    let e = left_past a.col a.off a.j a.s.mark c.requires.addr_in_bounds.3 c.requires.fits.mark_low in
    rw (
      ← e,
      lt-ltb _ _ c.if-s-p.false,
      ne_eqb _ 0 (λ z. c.if-pixel_code-eq0.false (c.pixel_code.ensures.value ∙ z)),
      not-false
          a.s.seen c.if-not-s.false,
      c.in_front.ensures,
    )
