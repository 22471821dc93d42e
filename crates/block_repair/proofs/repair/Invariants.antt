-- `block_repair::repair` meets its contract: the block mended, and the changed offsets at the start of the list.
use mathlib.Core.Path.{◌≡◌}
use lib.ListN.{length}
use lib.Seq.{paste}
use Rattle.laws.specs.Lists.{at, written}
use Rattle.block_repair.specs.Repair.{mended_at, mended, differing}
use Rattle.block_repair.proofs.repair.Given as goal

abbrev pub invariant-loop-k : goal.invariant-loop-k
invariant-loop-k l =
    (l.block ≡ paste l.initial.block 0 (mended l.initial.block) l.k)
    × (l.count ≡ length (differing l.k (at l.initial.block) (mended_at l.initial.block))) ×
    (l.list ≡ written l.initial.list 0 (differing l.k (at l.initial.block) (mended_at l.initial.block)))
