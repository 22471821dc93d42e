-- `trace_text::end::put_ppm` meets its contract: the picture of a frame: red, green and blue of each pixel, behind the header.
use mathlib.Core.Path.{◌≡◌}
use Prim.Native.Nat.{◌+◌, ◌*◌}
use Rattle.laws.specs.Lists.{written}
use Rattle.trace_text.specs.End.{pixels}
use Rattle.trace_text.proofs.end.put_ppm.Given as goal

abbrev pub invariant-loop-i : goal.invariant-loop-i
invariant-loop-i l = (l.at ≡ 15 + 3 * l.i) × (l.out ≡ written l.initial.out 15 (pixels l.i l.frame))
