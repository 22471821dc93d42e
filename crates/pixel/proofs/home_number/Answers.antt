-- `pixel::home_number` meets its contract: the colour number of a pixel of the home screen: scrolled both ways but where a lock holds, and the fill over all.
use Rattle.std.proofs.Common.{◌≡◌, ℕ, ◌+◌, ◌%◌, Bool, true, false, ◌&&◌, ltb, get_or, sym, refl, ap, ◌∙◌, w8, Fits, rules}
use Rattle.laws.specs.Lists.{at}
use Rattle.picture.specs.Picture.{fills}
use Rattle.pixel.proofs.Laws.{home_filled, home_number}
use Rattle.pixel.proofs.home_number.Goals as goal

pub returns-then-is_set-col : goal.returns-then-is_set-col
returns-then-is_set-col c =
    let a = c.args in
    let e : fills (at a.reg) a.col ≡ true = ap (λ (t : Bool). t && ltb a.col 8) (sym c.is_set.ensures) ∙
    c.if-is_set-col.true in
    ap (λ (k : ℕ). 16 + k % 16) c.from.ensures ∙ home_filled a.vram.now a.reg a.scroll a.row a.col e

pub returns : goal.returns
returns c =
    let a = c.args in
    let p = c.requires in
    let fit : Fits w8 (get_or a.reg 8 0) = search rules in
    let e : fills (at a.reg) a.col ≡ false = ap (λ (t : Bool). t && ltb a.col 8) (sym c.is_set.ensures) ∙
    c.if-is_set-col.false in
    home_number a.vram.now a.reg a.scroll a.row a.col _ _ _ _ e fit.fits c.names_at.ensures.value
    c.home_column.ensures.value refl
    c.home_line.ensures p.3 c.column_at.ensures
