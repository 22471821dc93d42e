-- `trace_run::output::snapshot` meets its contract: what a recording's visible steps show in the frame, run on this device, at the start of out.
use native.Mathlib.Omega.{arith}
use mathlib.Core.Path.{refl, sym, ◌∙◌}
use lib.ListN.{length}
use Rattle.trace_text.specs.Text.{long_line}
use Rattle.trace_run.specs.Run.{start, turn_for, ran}
use Rattle.trace_text.proofs.Endings.{drawn_short}
use Rattle.trace_run.specs.Output.{screen_for}
use Rattle.trace_run.proofs.Outputs.{snapshot_no_room, snapshot_long, snapshot_whole, snapshot_leaves, same_leaves, roomy, lent_in}
use Rattle.trace_run.proofs.output.snapshot.Goals as goal

pub returns-then-not-has_room-clause-picture_leaves : goal.returns-then-not-has_room-clause-picture_leaves
returns-then-not-has_room-clause-picture_leaves c =
    let a = c.args in
    let s = a.input.now in
    let o = a.out.now in
    let w = start a.device a.vram.now a.row.now a.frame.now in
    let t = turn_for a.shown in
    let q = c.screen_for-screen.ensures in
    let e = rw q at c.has_room.ensures in
    snapshot_leaves t w (snapshot_no_room t s w o (sym e ∙ c.if-not-has_room.true))

pub returns-then-input-gt-LONGEST-clause-picture_leaves : goal.returns-then-input-gt-LONGEST-clause-picture_leaves
unfolding long_line
returns-then-input-gt-LONGEST-clause-picture_leaves c =
    let a = c.args in
    let s = a.input.now in
    let o = a.out.now in
    let w = start a.device a.vram.now a.row.now a.frame.now in
    let t = turn_for a.shown in
    let q = c.screen_for-screen.ensures in
    let e = rw q at c.has_room.ensures in
    let h = sym e ∙ c.if-not-has_room.false in
    let y = roomy (screen_for a.device.machine) (length a.frame.now) (length o) h in
    let p = c.put_all in
    snapshot_leaves t w (snapshot_long t s w o h c.if-input-gt-LONGEST.true p.ensures.value p.ensures.out_after)

pub put_picture-requires : goal.put_picture-requires
put_picture-requires c =
    let a = c.args in
    let e = sym c.has_room.ensures ∙ c.if-not-has_room.false in
    let y = roomy c.screen_for-screen.result (length a.frame.now) (length a.out.now) e in
    (y.room, omega (arith, y.whole, c.run_all-at.auto.frame))

pub returns : goal.returns
unfolding ran
returns c =
    let a = c.args in
    let s = a.input.now in
    let o = a.out.now in
    let w = start a.device a.vram.now a.row.now a.frame.now in
    let t = turn_for a.shown in
    let q = c.screen_for-screen.ensures in
    let e = rw q at c.has_room.ensures in
    let h = sym e ∙ c.if-not-has_room.false in
    let y = roomy (screen_for a.device.machine) (length a.frame.now) (length o) h in
    let l = c.run_all-at.ensures in
    let f = c.put_picture in
    let g = rw (q, l.place, l.picture) at f.ensures in
    let x = ran t s w in
    record {
      picture_leaves = same_leaves l (snapshot_leaves t x (snapshot_whole t s w o h c.if-input-gt-LONGEST.false refl (g.value, g.out_after)));
      upper_bound = lent_in f.result f.new.out g.value (drawn_short (screen_for a.device.machine) s x.run.at x.frame) y.room f.auto.out;
    }
