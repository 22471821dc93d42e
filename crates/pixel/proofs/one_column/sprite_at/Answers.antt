-- `pixel::one_column::sprite_at` meets its contract: the column with the sprite whose X byte stands at k, its tile behind it, and of which line d is shown.
use Rattle.std.proofs.Common.{◌≡◌, ◌+◌, ◌-◌, ◌%◌, ◌≤◌, min, refl, w8, Fits, rules}
use Rattle.laws.specs.Lists.{at}
use Rattle.laws.proofs.Bits.{bit_number}
use Rattle.stand.specs.Stand.{stand_of}
use Rattle.picture.specs.Picture.{sprite_line}
use Rattle.pixel.specs.Column.{Tied, back_of, ahead_of, reach_of, marks_left}
use Rattle.pixel.proofs.Laws.{tied, end_low, far_at, column_far, column_laid}
use Rattle.pixel.proofs.one_column.sprite_at.Goals as goal

pub returns-then-far-col : goal.returns-then-far-col
returns-then-far-col c =
    let a = c.args in
    let h = at a.vram.now a.k in
    let s = stand_of a.screen a.e h in
    let fit : Fits w8 h = search rules in
    let sh = c.requires.shifts in
    let far : 15 - min a.col 7 ≤ (a.col + ahead_of a.screen a.e + 256 - h) % 256 = rw
    (c.from.ensures, sh.ahead, c.min-far.ensures) at c.if-far-col.true in
    let t : Tied a.shift.off (back_of a.screen s.start) s = rw sh.off (tied a.screen a.e h c.requires.k_bound.1) in
    λ f q pe w. column_far a.vram.now a.b s (sprite_line (at a.reg) (at a.vram.now (a.k + 1)) a.d) a.col a.shift.off
    (back_of a.screen s.start) (end_low a.screen a.e h)
    (λ j l. rw sh.off (far_at a.e h a.col j c.requires.k_bound.1 fit.fits c.requires.k_bound.3 l a.screen far)) f q a.under
    t c.requires.k_bound.3 pe w

pub returns : goal.returns
returns c =
    let a = c.args in
    let sh = c.requires.shifts in
    let h = at a.vram.now a.k in
    let s = c.settings-s.result in
    let e : s ≡ stand_of a.screen a.e h = c.settings-s.ensures.value in
    let t : Tied a.shift.off c.weight-back.result s = rw (c.weight-back.ensures.value, sh.back s.start, e, sh.off)
    (tied a.screen a.e h c.requires.k_bound.1) in
    λ f q pe w. rw (← e, ← c.line_at-addr.ensures.value)
    (column_laid a.vram.now a.b s c.line_at-addr.result a.col a.shift.off c.weight-back.result t
    c.settings-s.ensures.fits.end_low c.requires.k_bound.3 f q pe a.under w c.marks_near-bits.result
    (λ j l. rw c.marks_near-bits.ensures (bit_number (reach_of a.col)
    (marks_left a.vram.now a.b s c.line_at-addr.result a.col a.shift.off) j l)) c.colour_with.ensures refl)
