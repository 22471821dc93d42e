-- `replay::call` meets its contract: the call of the record at `at`, and whether it gave what the Rust gave.
use Rattle.std.proofs.Common.{rules}
use Rattle.replay.specs.Replay.{world}
use Rattle.replay.proofs.Laws.{wrote_turn, read_turn, step_turn, no_turn}
use Rattle.replay.proofs.call.Goals as goal

pub returns-in-87 : goal.returns-in-87
returns-in-87 c =
    let a = c.args in
    wrote_turn a.list.now a.at (world a.state.now a.vram.now a.row.now) c.in-87.is c.from.ensures c.vdp_out-word.ensures c.agrees.ensures

pub returns-in-82 : goal.returns-in-82
returns-in-82 c =
    let a = c.args in
    read_turn a.list.now a.at (world a.state.now a.vram.now a.row.now) c.in-82.is c.from-in-82.ensures c.vdp_input-word.ensures c.agrees-in-82.ensures

pub returns-in-83 : goal.returns-in-83
returns-in-83 c =
    let a = c.args in
    step_turn a.list.now a.at (world a.state.now a.vram.now a.row.now) c.in-83.is c.vdp_row_step-word.ensures c.row_sum-sum.ensures
    c.agrees-in-83.ensures

pub returns-in_default : goal.returns-in_default
returns-in_default c =
    let a = c.args in
    no_turn a.list.now a.at (world a.state.now a.vram.now a.row.now) (search rules) (search rules) (search rules)
