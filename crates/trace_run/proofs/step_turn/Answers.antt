-- `trace_run::step_turn` meets its contract: a step, and what the frame shows of it.
use mathlib.Core.Path.{sym, ◌∙◌}
use Rattle.trace_run.specs.Run.{held}
use Rattle.trace_run.proofs.Turns.{shown_stepped}
use Rattle.trace_run.proofs.step_turn.Goals as goal

pub returns-in-Nothing : goal.returns-in-Nothing
returns-in-Nothing c =
    let a = c.args in
    shown_stepped a.shown a.area (held a.run a.vram.now a.row.now a.frame.now)
    (sym c.in-Nothing.is ∙ c.shown_of.ensures) (c.row_step_turn.ensures a.frame.now)

pub returns-in-Colours : goal.returns-in-Colours
returns-in-Colours c =
    let a = c.args in
    shown_stepped a.shown a.area (held a.run a.vram.now a.row.now a.frame.now)
    (sym c.in-Colours.is ∙ c.shown_of.ensures) (c.frame_step_turn.ensures a.row.now)

pub returns-in-Layers : goal.returns-in-Layers
returns-in-Layers c =
    let a = c.args in
    shown_stepped a.shown a.area (held a.run a.vram.now a.row.now a.frame.now)
    (sym c.in-Layers.is ∙ c.shown_of.ensures) c.layer_turn.ensures
