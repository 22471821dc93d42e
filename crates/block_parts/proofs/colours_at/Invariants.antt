-- `block_parts::colours_at` meets its contract: the 32 colours that stand from this place on.
use mathlib.Core.Path.{◌≡◌}
use lib.ListN.{length, replicate}
use lib.Seq.{paste}
use Rattle.block_parts.specs.Parts.{colours_from}
use Rattle.block_parts.proofs.colours_at.Given as goal

abbrev pub invariant-loop-i : goal.invariant-loop-i
invariant-loop-i l = (l.out ≡ paste (replicate 32 0) 0 (colours_from l.place l.src) l.i) × (length l.out ≡ 32)
