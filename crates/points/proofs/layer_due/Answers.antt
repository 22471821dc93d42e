-- `points::layer_due` meets its contract: what the step is to do with a layer buffer beside it.
use mathlib.Core.Path.{sym, ap, ◌∙◌}
use native.Mathlib.Omega.{arith}
use Rattle.picture.specs.Screen.{columns}
use Rattle.points.specs.declared.Due.{Due}
use Rattle.points.proofs.Order.{also_refused, also_16, also_taken}
use Rattle.points.proofs.Sizes.{quarter}
use Rattle.points.proofs.layer_due.Goals.{else-due-via-then-due+else-size-row_size, else-due-via-else-due}
use Rattle.points.proofs.layer_due.Goals as goal

pub returns-then-size-row_size-clause-value_2 : goal.returns-then-size-row_size-clause-value_2
returns-then-size-row_size-clause-value_2 c =
    let a = c.args in
    λ lines reg e. c.refused.ensures ∙ also_16 a.screen reg a.raster (columns a.screen) a.size lines
    (sym (ap (λ (d : Due). d.good) e) ∙ c.if-due.true)
    (omega (arith, quarter a.screen c.row_size.ensures, c.if-size-row_size.true))

pub returns-else-due-clause-value_2 : goal.returns-else-due-clause-value_2
returns-else-due-clause-value_2 c =
    let a = c.args in
    λ lines reg e. e ∙ elim c.else-due.branch [
      | else-due-via-then-due+else-size-row_size w ↦
          also_taken a.screen reg a.raster (columns a.screen) a.size lines
          (omega (arith, quarter a.screen w.row_size.ensures, w.if-size-row_size.false))
      | else-due-via-else-due w ↦
          also_refused a.screen reg a.raster (columns a.screen) a.size lines
          (sym (ap (λ (d : Due). d.good) e) ∙ w.if-due.false)
    ]
