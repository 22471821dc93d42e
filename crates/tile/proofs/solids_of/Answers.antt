-- `tile::solids_of` meets its contract: a bit for each pixel of that line, the leftmost's lowest.
use borrow.Author.Rules.{rules}
use mathlib.Core.Path.{◌∙◌}
use Prim.Native.Nat.{◌-◌}
use mir.Syntax.{w8}
use mir.Val.{Fits}
use Rattle.laws.specs.Bits.{bit, number}
use Rattle.tile.proofs.Lanes.{straight}
use Rattle.tile.proofs.solids_of.Goals as goal

pub returns-then-flip : goal.returns-then-flip
returns-then-flip c =
    let e = c.solid_of-b.ensures in
    let fit : Fits w8 c.solid_of-b.result = search rules in
    rw c.if-flip.true (straight _ fit.fits ∙ (λ i. number 8 (λ k. bit (e i) (7 - (7 - k)))))
