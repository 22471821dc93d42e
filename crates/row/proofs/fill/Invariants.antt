-- `row::fill` meets its contract: the first eight pixels in one colour, where `on`.
use mathlib.Core.Path.{◌≡◌}
use lib.ListN.{length}
use Rattle.laws.specs.Paint.{painted}
use Rattle.row.proofs.fill.Given as goal

abbrev pub invariant-loop-x : goal.invariant-loop-x
invariant-loop-x l = (length l.row ≡ length l.initial.row) × (l.row ≡ painted l.initial.row 0 l.x (λ i. l.c))
