-- `trace_run::row_step_turn` meets its contract: a step into the row buffer.
use Rattle.trace_run.specs.Run.{held}
use Rattle.trace_run.proofs.Turns.{handheld_row, home_row_lem, row_stepped}
use Rattle.trace_run.proofs.row_step_turn.Goals as goal

pub returns-in-Handheld : goal.returns-in-Handheld
returns-in-Handheld c =
    let a = c.args in
    λ f. row_stepped a.area (held a.run a.vram.now a.row.now f) c.stepped.ensures
    (handheld_row a.area a.run.device a.vram.now c.in-Handheld.is
    c.row_step.ensures)

pub returns-in-Home : goal.returns-in-Home
returns-in-Home c =
    let a = c.args in
    λ f. row_stepped a.area (held a.run a.vram.now a.row.now f) c.stepped-in-Home.ensures
    (home_row_lem a.area a.run.device a.vram.now c.in-Home.is
    c.row_step-in-Home.ensures)
