-- `trace_run::output::trace` meets its contract: the text of a recording, run on this device, at the start of out, and how long it is.
use mathlib.Core.Path.{◌≡◌, refl, sym, ap, ◌∙◌}
use mathlib.Core.List.{[]}
use Prim.Native.Nat.{ℕ, ◌≤◌}
use native.Mathlib.Omega.{arith}
use lib.ListN.{length}
use Rattle.laws.specs.Lists.{written}
use Rattle.laws.proofs.Lists.{written_nil}
use Rattle.trace_text.specs.Text.{long_line}
use Rattle.trace_run.specs.Run.{held, start, row_turn, after, lines}
use Rattle.trace_text.proofs.Endings.{last_short}
use Rattle.trace_run.proofs.Outputs.{text_whole, trace_no_room, trace_long, trace_whole, trace_leaves, lent_behind}
use Rattle.trace_run.proofs.Runs.{row_moves, ran_small, place_fits, count_fits, text_fits, line_fits, last_fits, world_more, text_more}
use Rattle.trace_run.proofs.output.trace.Goals as goal

pub returns-then-out-lt-TEXT_ROOM-clause-trace_leaves : goal.returns-then-out-lt-TEXT_ROOM-clause-trace_leaves
returns-then-out-lt-TEXT_ROOM-clause-trace_leaves c =
    let a = c.args in
    let s = a.input.now in
    let o = a.out.now in
    let w = start a.device a.vram.now a.row.now [] in
    trace_leaves w (trace_no_room s w o c.if-out-lt-TEXT_ROOM.true)

pub returns-then-input-gt-LONGEST-clause-trace_leaves : goal.returns-then-input-gt-LONGEST-clause-trace_leaves
unfolding long_line
returns-then-input-gt-LONGEST-clause-trace_leaves c =
    let a = c.args in
    let s = a.input.now in
    let o = a.out.now in
    let w = start a.device a.vram.now a.row.now [] in
    let big : 327700 ≤ length o = c.if-out-lt-TEXT_ROOM.false in
    let p = c.put_all.ensures in
    trace_leaves w (trace_long s w o big c.if-input-gt-LONGEST.true p.value p.out_after)

pub loop-i-init : goal.loop-i-init
unfolding after lines
loop-i-init c =
    let a = c.args in
    let s = a.input.now in
    let o = a.out.now in
    let w = start a.device a.vram.now a.row.now [] in (
      (λ j. held (record { device = a.device; at = 0; count = 0 }) a.vram.now a.row.now []),
      refl,
      sym (written_nil o 0),
    )

pub turn-turned-requires : goal.turn-turned-requires
turn-turned-requires c =
    let a = c.args in
    let s = a.input.now in
    let o = a.out.now in
    let w = start a.device a.vram.now a.row.now [] in
    let short : length s ≤ 65535 = c.if-input-gt-LONGEST.false in
    let big : 327700 ≤ length o = c.if-out-lt-TEXT_ROOM.false in
    let l = c.loop-i in
    let e = l.invariant.0 in
    let g = ran_small row_moves l._i s w e refl refl in
    (place_fits short g, count_fits short g, omega arith)

pub put_answer-len-requires : goal.put_answer-len-requires
put_answer-len-requires c =
    let a = c.args in
    let s = a.input.now in
    let o = a.out.now in
    let w = start a.device a.vram.now a.row.now [] in
    let short : length s ≤ 65535 = c.if-input-gt-LONGEST.false in
    let big : 327700 ≤ length o = c.if-out-lt-TEXT_ROOM.false in
    let l = c.loop-i in
    let e = l.invariant.0 in
    let g = ran_small row_moves l._i s w e refl refl in
    line_fits short g big l.invariant.1 l.auto.out

pub loop-i-preserved : goal.loop-i-preserved
loop-i-preserved c =
    let a = c.args in
    let s = a.input.now in
    let o = a.out.now in
    let w = start a.device a.vram.now a.row.now [] in
    let short : length s ≤ 65535 = c.if-input-gt-LONGEST.false in
    let big : 327700 ≤ length o = c.if-out-lt-TEXT_ROOM.false in
    let l = c.loop-i in
    let e = l.invariant.0 in
    let g = ran_small row_moves l._i s w e refl refl in
    let t = c.turn-turned in
    let p = c.put_answer-len in
    let room = text_fits short g big in
    let m = text_more row_turn s w l._i e o t.ensures room l.invariant.1 l.invariant.2 (p.ensures.value, p.ensures.out_after) in (
      world_more row_turn s w l._i e t.ensures,
      m.0,
      m.1,
    )

pub put_last-requires : goal.put_last-requires
put_last-requires c =
    let a = c.args in
    let s = a.input.now in
    let o = a.out.now in
    let w = start a.device a.vram.now a.row.now [] in
    let short : length s ≤ 65535 = c.if-input-gt-LONGEST.false in
    let big : 327700 ≤ length o = c.if-out-lt-TEXT_ROOM.false in
    let l = c.loop-i in
    let e = l.invariant.0 in
    let g = ran_small row_moves l._i s w e refl refl in
    last_fits short g big l.invariant.1 l.auto.out

pub returns : goal.returns
returns c =
    let a = c.args in
    let s = a.input.now in
    let o = a.out.now in
    let w = start a.device a.vram.now a.row.now [] in
    let short : length s ≤ 65535 = c.if-input-gt-LONGEST.false in
    let big : 327700 ≤ length o = c.if-out-lt-TEXT_ROOM.false in
    let l = c.loop-i in
    let e = l.invariant.0 in
    let g = ran_small row_moves l._i s w e refl refl in
    let f = c.put_last in
    let all : l._i ≡ length s = omega arith in
    let x = held l.run l.vram l.row l.none in
    let ex : x ≡ after row_turn (length s) s w = e ∙ ap (λ (k : ℕ). after row_turn k s w) all in
    let room : length (lines row_turn (length s) s w) ≤ length o = rw all at (text_fits short g big) in
    let en = l.invariant.1 ∙ ap (λ (k : ℕ). length (lines row_turn k s w)) all in
    let eo = l.invariant.2 ∙ ap (λ (k : ℕ). written o 0 (lines row_turn k s w)) all in
    let t = text_whole s w ex o room en eo (f.ensures.value, f.ensures.out_after) in
    record {
      trace_leaves = trace_leaves x (trace_whole s w o big short ex t);
      upper_bound = lent_behind f.result f.new.out l.len f.ensures.value (last_short s l.run.at l.run.count) (last_fits short g big l.invariant.1 l.auto.out)
          f.auto.out;
    }
