-- `replay::sum_of` goes byte by byte: the sum is that of the bytes so far.
use Rattle.std.proofs.Common.{◌≡◌, ◌*◌, ◌≤◌}
use Rattle.replay.specs.Replay.{sum_of}
use Rattle.replay.proofs.sum_of.Given as goal

abbrev pub invariant-loop-i : goal.invariant-loop-i
invariant-loop-i l = (l.sum ≡ sum_of l.i l.bytes) × (l.sum ≤ 261120 * l.i)
