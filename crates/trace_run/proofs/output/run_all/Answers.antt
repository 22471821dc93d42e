-- `trace_run::output::run_all` meets its contract: a whole recording, record by record.
use native.Mathlib.Omega.{arith}
use mathlib.Core.Path.{◌≡◌, refl, ap, ◌∙◌}
use Prim.Native.Nat.{ℕ}
use lib.ListN.{length}
use Rattle.trace_run.specs.Run.{held, start, turn_for, after, ran}
use Rattle.trace_run.proofs.Outputs.{ran_leaves}
use Rattle.trace_run.proofs.Runs.{moves_for, ran_small, world_more}
use Rattle.trace_run.proofs.output.run_all.Goals as goal

pub loop-i-init : goal.loop-i-init
unfolding after
loop-i-init c =
    let a = c.args in
    λ j. held (record { device = a.device; at = 0; count = 0 }) a.vram.now a.row.now a.frame.now

pub turn-requires : goal.turn-requires
turn-requires c =
    let a = c.args in
    let s = a.input.now in
    let w = start a.device a.vram.now a.row.now a.frame.now in
    let t = turn_for a.shown in
    let l = c.loop-i in
    let g = ran_small (moves_for a.shown) l._i s w l.invariant refl refl in
    (omega (arith, g.inside, c.requires.0), omega (arith, g.inside, g.counted, c.requires.0), omega (arith, c.requires.1, l.auto.frame))

pub loop-i-preserved : goal.loop-i-preserved
loop-i-preserved c =
    let a = c.args in
    let s = a.input.now in
    let w = start a.device a.vram.now a.row.now a.frame.now in
    let t = turn_for a.shown in
    let l = c.loop-i in
    world_more t s w l._i l.invariant c.turn.ensures

pub returns : goal.returns
unfolding ran
returns c =
    let a = c.args in
    let s = a.input.now in
    let w = start a.device a.vram.now a.row.now a.frame.now in
    let t = turn_for a.shown in
    let l = c.loop-i in
    let all : l._i ≡ length s = omega arith in
    ran_leaves {x = held l.run l.vram l.row l.frame} (l.invariant ∙ ap (λ (k : ℕ). after t k s w) all)
