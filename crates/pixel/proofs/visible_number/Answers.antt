-- `pixel::visible_number` meets its contract: the colour number of a pixel of a screen of the visible size: the map is scrolled both ways.
use Rattle.std.proofs.Common.{ℕ, ◌-◌, ◌%◌, get_or, ap, ◌∙◌, w8, Fits, rules}
use Rattle.pixel.proofs.Laws.{scrolled_number}
use Rattle.pixel.proofs.visible_number.Goals as goal

pub returns : goal.returns
returns c =
    let a = c.args in
    let p = c.requires in
    let fit : Fits w8 (get_or a.reg 8 0) = search rules in
    scrolled_number a.screen a.vram.now a.reg _ _ _ a.scroll a.row a.col p.4 fit.fits c.names_at.ensures.value
    (ap (λ (k : ℕ). (304 - k) % 256) c.from.ensures) (c.from-2.ensures ∙ c.cut_of.ensures.value) p.3
    c.column_at.ensures
