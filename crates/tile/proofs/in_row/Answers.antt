-- `tile::in_row` meets its contract: the columns of a sprite that a row of `width` pixels has from pixel x on, a bit for each.
use borrow.Author.Rules.{rules}
use native.Mathlib.Omega.{arith}
use mathlib.Core.Path.{sym, ap, ◌∙◌}
use Prim.Native.Nat.{◌<◌, ◌≤◌, ◌+◌}
use Rattle.laws.specs.Bits.{bit}
use Rattle.laws.proofs.Bits.{byte_is}
use borrow.Author.Tests.{le-ltb}
use mir.Syntax.{w8}
use mir.Val.{Fits}
use Rattle.tile.proofs.Whole.{no_bit, part_room}
use Rattle.tile.proofs.in_row.Goals as goal

pub returns-then-width-x : goal.returns-then-width-x
returns-then-width-x c = byte_is 0 _ (omega arith) (λ j h. let q : c.args.width ≤ c.args.x + j = omega arith in le-ltb _ _ q ∙ sym (no_bit j))

pub returns : goal.returns
returns c =
    let a = c.args in
    let l : a.x < a.width = omega arith in
    let e = c.cut.ensures in
    let small : Fits w8 c.cut.result = search rules in
    byte_is _ _ small.fits
    (λ j h. sym (ap (λ b. bit b j) e ∙ rw c.min.ensures (part_room a.width a.x j l h)))
