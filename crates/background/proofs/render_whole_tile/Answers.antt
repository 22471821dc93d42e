-- `background::render_whole_tile` meets its contract: the eight pixels from x on, which are a whole tile.
use Rattle.std.proofs.Common.{◌≡◌, ◌+◌, ◌*◌, ◌/◌, ◌%◌, ◌<◌, eqb, sym, ◌∙◌, arith, w8, Fits, rules}
use Rattle.laws.specs.Lists.{at}
use Rattle.laws.proofs.Bits.{number_ext}
use Rattle.laws.proofs.Paint.{painted_cong}
use Rattle.tile.specs.Line.{colours_in, line_solid}
use Rattle.background.proofs.Laws.{entry_bit, entry_palette, entry_line, back_shade, back_in_front, where_front}
use Rattle.background.proofs.render_whole_tile.Goals as goal

pub returns-clause-row_after : goal.returns-clause-row_after
returns-clause-row_after c =
    let a = c.args in
    let p = c.requires in
    let n = c.from-entry.result in
    let e = a.names + 2 * (32 * (a.y / 8) + (a.sx + a.x) % 256 / 8) in
    let lo = at a.vram.now e in
    let hi = at a.vram.now (e + 1) in
    let low : Fits w8 lo = search rules in
    let made : n ≡ lo + 256 * hi = omega arith in
    let z : (a.sx + a.x) % 256 % 8 ≡ 0 = omega (arith, p.x_value.0) in
    let fl = entry_bit hi low.fits made 1 in
    let fr = entry_bit hi low.fits made 4 in
    let ad = entry_line hi low.fits made a.y c.line_in.ensures.value in
    c.character_whole-bits.ensures.row_after
    ∙ painted_cong _ _ _ _ _ (λ i h.
    let l : (a.sx + a.x) % 8 + i < 8 = omega (arith, p.x_value.0) in
    rw z at (back_shade a.vram.now a.names a.sx a.y a.x i l (colours_in a.table.now) fl (entry_bit hi low.fits made 3)
    (entry_palette hi low.fits made) ad))

pub returns-clause-value : goal.returns-clause-value
returns-clause-value c =
    let a = c.args in
    let p = c.requires in
    let n = c.from-entry.result in
    let e = a.names + 2 * (32 * (a.y / 8) + (a.sx + a.x) % 256 / 8) in
    let lo = at a.vram.now e in
    let hi = at a.vram.now (e + 1) in
    let low : Fits w8 lo = search rules in
    let made : n ≡ lo + 256 * hi = omega arith in
    let z : (a.sx + a.x) % 256 % 8 ≡ 0 = omega (arith, p.x_value.0) in
    let fl = entry_bit hi low.fits made 1 in
    let fr = entry_bit hi low.fits made 4 in
    let ad = entry_line hi low.fits made a.y c.line_in.ensures.value in
    c.where_on.ensures
    ∙ rw c.character_whole-bits.ensures.value
    (where_front (eqb (n / 4096 % 2) 1) (line_solid a.vram.now (32 * (n % 512) + c.line_in.result) (eqb (n / 512 % 2) 1) 0))
    ∙ number_ext 8 _ _ (λ i h.
    let l : (a.sx + a.x) % 8 + i < 8 = omega (arith, p.x_value.0) in
    sym (rw z at (back_in_front a.vram.now a.names a.sx a.y a.x i l fl fr ad)))
