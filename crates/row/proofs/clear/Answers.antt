-- `row::clear` meets its contract: a row that is all background's.
use mathlib.Core.Path.{◌≡◌, sym}
use lib.ListN.{length, take}
use lib.Seq.{length-take-le}
use Rattle.picture.proofs.Layers.{layers_in-none, layers_in_filled}
use Rattle.row.proofs.clear.Goals as goal

pub returns-then-layers-width : goal.returns-then-layers-width
returns-then-layers-width c = sym (layers_in-none _ _ _ c.if-layers-width.true)

pub returns : goal.returns
returns c =
    let w = c.args.width in
    let n : length (take w c.args.layers.now) ≡ w = length-take-le w c.args.layers.now c.if-layers-width.false in
    layers_in_filled c.args.layers.now w 0 c.if-layers-width.false (rw n at (c.fill.ensures.after (λ y q. q)))
