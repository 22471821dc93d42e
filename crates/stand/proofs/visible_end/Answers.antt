-- `stand::visible_end` meets its contract: the tile's pixel before which a sprite at column x of the visible area ends.
use Rattle.std.proofs.Common.{◌<◌, arith, le-ltb, lt-ltb}
use Rattle.picture.specs.View.{visible_end}
use Rattle.stand.proofs.visible_end.Goals as goal

pub returns-then-x-gt-WIDTH-clause-value : goal.returns-then-x-gt-WIDTH-clause-value
unfolding visible_end
returns-then-x-gt-WIDTH-clause-value c =
    let h : 160 < c.args.x = omega arith in
    simp (lt-ltb _ _ h)

pub returns-clause-value : goal.returns-clause-value
unfolding visible_end
returns-clause-value c = simp (le-ltb _ _ c.if-x-gt-WIDTH.false) (omega arith)
