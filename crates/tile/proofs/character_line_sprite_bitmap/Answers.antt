-- `tile::character_line_sprite_bitmap` meets its contract: the columns of the line at addr, from the tile's pixel start to below end.
use borrow.Author.Rules.{rules}
use native.Mathlib.Omega.{arith}
use mathlib.Core.Path.{refl, sym, ap, ◌∙◌}
use mathlib.Core.Bool.{false}
use Prim.Native.Nat.{◌-◌, ◌<◌, ◌≤◌}
use mir.Syntax.{w8}
use mir.Val.{Fits}
use Rattle.laws.specs.Bits.{bit, number}
use Rattle.laws.specs.Lists.{at}
use Rattle.laws.proofs.Bits.{number_all, byte_is}
use Rattle.picture.specs.Tile.{code_at}
use Rattle.picture.specs.Picture.{solid}
use Rattle.tile.proofs.Marks.{solid_past}
use Rattle.tile.proofs.Whole.{bit_at, part_solid}
use Rattle.tile.proofs.character_line_sprite_bitmap.Goals as goal

pub returns-then-end-start : goal.returns-then-end-start
unfolding number
returns-then-end-start c =
    let a = c.args in
    let h : a.end ≤ a.start = c.if-end-start.true in
    number_all (solid a.start a.end (code_at (at a.vram.now) a.addr)) 0 (omega arith)
    (λ k g. solid_past a.start a.end _ k (omega (arith, h)))

pub returns : goal.returns
returns c =
    let a = c.args in
    let v = a.vram.now in
    let l : a.start < a.end = omega (arith, c.if-end-start.false) in
    let fit : Fits w8 c.cut.result = search rules in
    byte_is _ (solid a.start a.end (code_at (at v) a.addr)) fit.fits
    (λ k h.
    sym (ap (λ n. bit n k) c.cut.ensures
    ∙ part_solid v a.addr a.start a.end (a.end - a.start) k _ l c.requires.0 refl (bit_at v a.addr false c.line_of-line.ensures.solids_value
    a.start)))
