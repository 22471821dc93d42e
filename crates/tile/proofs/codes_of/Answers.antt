-- `tile::codes_of` meets its contract: the codes of a line whose four bytes are the lanes of x.
use borrow.Author.Rules.{rules}
use native.Mathlib.Omega.{arith}
use mathlib.Core.Path.{refl, ap, ◌∙◌}
use Prim.Native.Nat.{◌-◌}
use mir.Syntax.{w32}
use mir.Val.{Fits}
use Rattle.picture.specs.Tile.{code_of}
use Rattle.picture.proofs.Laws.{code_lt}
use Rattle.tile.specs.Lanes.{lane, exchange}
use Rattle.tile.proofs.Lanes.{turned_lanes}
use Rattle.tile.proofs.Squares.{codes_are}
use Rattle.tile.proofs.codes_of.Goals as goal

pub returns-then-flip : goal.returns-then-flip
returns-then-flip c =
    let x = c.args.x in
    let fit : Fits w32 x = search rules in
    let twos = rw c.from-long.ensures at c.exchanged-twos.ensures in
    rw c.if-flip.true
    (c.exchanged-w.ensures ∙ ap (λ n. exchange n 7 0x00AA00AA00AA00AA) twos
    ∙ codes_are x (λ k. 7 - (7 - k)) fit.fits (λ k h. omega arith))

pub returns-else-flip : goal.returns-else-flip
returns-else-flip c =
    let x = c.args.x in
    let fit : Fits w32 x = search rules in
    let twos = rw c.from-long.ensures at c.exchanged-twos.ensures in
    rw c.if-flip.false
    (c.mirrored.ensures
    ∙ turned_lanes (code_of (lane x 0) (lane x 1) (lane x 2) (lane x 3)) (λ k. omega (arith, code_lt (lane x 0) (lane x 1) (lane x 2) (lane x 3) k))
    (c.exchanged-w.ensures ∙ ap (λ n. exchange n 7 0x00AA00AA00AA00AA) twos
    ∙ codes_are x (λ k. k) fit.fits (λ k h. refl)))
