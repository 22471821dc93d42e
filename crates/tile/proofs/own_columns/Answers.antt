-- `tile::own_columns` meets its contract: the eight columns of sprite n, from column x of the row on, into its layers.
use mathlib.Core.Path.{refl, ap, ◌∙◌}
use lib.ListN.{length}
use Rattle.tile.proofs.Layer.{stamped_none, stamped_step, stamped_length}
use Rattle.tile.proofs.own_columns.Goals as goal

pub loop-i-init : goal.loop-i-init
loop-i-init c = (refl, stamped_none _ _ _ _ _ _)

pub loop-i-preserved : goal.loop-i-preserved
loop-i-preserved c =
    let v = c.loop-i.invariant in
    let a = c.args in
    let e = stamped_step a.layers.now a.width a.x a.n a.drawn a.held c.loop-i.i c.requires.0 v.1
    c.is_set.ensures c.is_set-in-loop-i.ensures c.own_column.ensures in
    (ap length e ∙ stamped_length _ _ _ _ _ _ _, e)
