-- `tile::own_columns` meets its contract: the eight columns of sprite n, from column x of the row on, into its layers.
use mathlib.Core.Path.{◌≡◌}
use lib.ListN.{length}
use Rattle.tile.specs.Layer.{stamped}
use Rattle.tile.proofs.own_columns.Given as goal

abbrev pub invariant-loop-i : goal.invariant-loop-i
invariant-loop-i l = (length l.layers ≡ length l.initial.layers) × (l.layers ≡ stamped l.initial.layers l.width l.x l.n l.drawn l.held l.i)
