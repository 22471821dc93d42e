-- `replay::replay` goes record by record: the machine is that of the records so far, which all agree.
use Rattle.std.proofs.Common.{◌≡◌, true}
use Rattle.replay.specs.Replay.{world, run, ran, start}
use Rattle.replay.proofs.replay.Given as goal

abbrev pub invariant-loop-i : goal.invariant-loop-i
invariant-loop-i l = ran l.i l.list (start l.initial.vram l.initial.row) ≡ run l.i true (world l.state l.vram l.row)
