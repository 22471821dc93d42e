-- `replay::replay` meets its contract: all records in order, from a fresh device of table 0 in a block of the first version on.
use Rattle.std.proofs.Common.{◌≡◌, ◌/◌, ◌<◌, length, arith, rules}
use Rattle.replay.proofs.Laws.{begun, run_on, differs, agree, cut}
use Rattle.replay.proofs.replay.Goals as goal

pub loop-i-init : goal.loop-i-init
loop-i-init c =
    let a = c.args in
    begun a.list.now a.vram.now a.row.now a.state.now (search rules) c.vdp_new_table.ensures

pub returns-then-not-call : goal.returns-then-not-call
returns-then-not-call c =
    let a = c.args in
    let l = c.loop-i in
    let h : l.i < length a.list.now / 16 = omega arith in
    differs a.list.now a.vram.now a.row.now l.i h l.invariant c.call.ensures c.if-not-call.true

pub loop-i-preserved : goal.loop-i-preserved
loop-i-preserved c =
    let a = c.args in
    let l = c.loop-i in
    run_on a.list.now a.vram.now a.row.now l.i l.invariant c.call.ensures c.if-not-call.false

pub returns-then-list-eq0 : goal.returns-then-list-eq0
returns-then-list-eq0 c =
    let a = c.args in
    let l = c.loop-i in
    let h : l.i ≡ length a.list.now / 16 = omega arith in
    agree a.list.now a.vram.now a.row.now l.i h l.invariant c.if-list-eq0.true

pub returns-else-list-eq0 : goal.returns-else-list-eq0
returns-else-list-eq0 c =
    let a = c.args in
    let l = c.loop-i in
    let h : l.i ≡ length a.list.now / 16 = omega arith in
    cut a.list.now a.vram.now a.row.now l.i h l.invariant c.if-list-eq0.false
