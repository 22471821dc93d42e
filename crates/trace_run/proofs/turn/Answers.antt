-- `trace_run::turn` meets its contract: the record at the run's place.
use mathlib.Core.Logic.{⊎_elim}
use Rattle.trace_run.specs.Run.{held, turn_for}
use Rattle.trace_run.proofs.Turns.{at_write, at_read, at_step, at_bad, at_end_lem}
use Rattle.trace_run.proofs.turn.Goals as goal

pub returns-in-Write : goal.returns-in-Write
returns-in-Write c =
    let a = c.args in
    let e = c.record_on.ensures in
    let w = held a.run a.vram.now a.row.now a.frame.now in
    at_write (turn_for a.shown) a.input.now w e c.in-Write.is c.write_turn.ensures.value c.write_turn.ensures.vram_after

pub returns-in-Read : goal.returns-in-Read
returns-in-Read c =
    let a = c.args in
    let e = c.record_on.ensures in
    let w = held a.run a.vram.now a.row.now a.frame.now in
    at_read (turn_for a.shown) a.input.now w e c.in-Read.is c.read_turn.ensures

pub returns-in-Step : goal.returns-in-Step
returns-in-Step c =
    let a = c.args in
    let e = c.record_on.ensures in
    let w = held a.run a.vram.now a.row.now a.frame.now in
    at_step (turn_for a.shown) a.input.now w e c.in-Step.is c.step_turn.ensures

pub returns-in-Bad : goal.returns-in-Bad
returns-in-Bad c =
    let a = c.args in
    let e = c.record_on.ensures in
    let w = held a.run a.vram.now a.row.now a.frame.now in
    ⊎_elim (at_bad (turn_for a.shown) a.input.now w e) (at_end_lem (turn_for a.shown) a.input.now w e) c.in-Bad.is
