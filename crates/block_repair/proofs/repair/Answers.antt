-- `block_repair::repair` meets its contract: the block mended, and the changed offsets at the start of the list.
use native.Mathlib.Omega.{arith}
use Prim.Native.Nat.{ℕ, ◌<◌}
use mathlib.Core.Path.{◌≡◌, refl, sym, ap, ◌∙◌}
use mathlib.Core.Logic.{inl, inr}
use mathlib.Core.List.{List}
use lib.ListN.{length}
use lib.Seq.{paste-zero}
use Rattle.laws.specs.Lists.{at, written}
use Rattle.laws.proofs.Lists.{written_nil}
use Rattle.block.proofs.Whole.{in_size}
use Rattle.block_repair.specs.Repair.{mended_at, mended, differing}
use Rattle.block_repair.proofs.Laws.{count_low, block_more, block_whole, turned, copy_at, done}
use Rattle.block_repair.proofs.repair.Goals as goal
use Rattle.block_repair.proofs.repair.Goals.{then-byte-whole, else-byte-whole}

pub loop-k-init : goal.loop-k-init
unfolding differing
loop-k-init c = (paste-zero c.args.block.now 0 (mended c.args.block.now), refl, sym (written_nil c.args.list.now 0))

pub bounds-list-count : goal.bounds-list-count
bounds-list-count c = omega (arith, c.loop-k.invariant.1, c.loop-k.auto.list, count_low c.args.block.now c.args.list.now c.loop-k.k)

pub overflow_add-count : goal.overflow_add-count
overflow_add-count c = omega (arith, c.loop-k.invariant.1, count_low c.args.block.now c.args.list.now c.loop-k.k)

pub loop-k-preserved : goal.loop-k-preserved
loop-k-preserved c =
    let b = c.args.block.now in
    let l = c.loop-k in
    let fits : l.k < length b = omega arith in
    let v = c.mended_byte-byte.ensures ∙ ap (λ (x : List ℕ). mended_at x l.k) c.copied-whole.ensures in
    let t = turned b c.args.list.now l.k l.count (omega arith) fits l.invariant.1 l.invariant.2
    (copy_at b c.copied-whole.result (length b) l.k c.copied-whole.ensures fits) v
    (elim c.if-byte-whole.branch [
      | then-byte-whole w ↦ inl (w.if-byte-whole.true, w.list-is, w.count-is)
      | else-byte-whole w ↦ inr (w.if-byte-whole.false, w.list-is, w.count-is)
    ]) in
    (block_more b c.args.list.now l.k fits v l.invariant.0, t.1, t.0)

pub returns-clause-repair_leaves : goal.returns-clause-repair_leaves
returns-clause-repair_leaves c =
    let b = c.args.block.now in
    let l = c.loop-k in
    let e : l.k ≡ length b = omega arith in
    done b c.args.list.now (in_size (length b) (omega arith) (omega arith)) (omega arith)
    (l.invariant.1 ∙ ap (λ (x : ℕ). length (differing x (at b) (mended_at b))) e)
    (block_whole b c.args.list.now l.k e l.invariant.0)
    (l.invariant.2 ∙ ap (λ (x : ℕ). written c.args.list.now 0 (differing x (at b) (mended_at b))) e)

pub returns-clause-count_le_block_size : goal.returns-clause-count_le_block_size
returns-clause-count_le_block_size c n q =
    let m : c.loop-k.count ≡ n = cc in
    omega (arith, m, c.loop-k.invariant.1, count_low c.args.block.now c.args.list.now c.loop-k.k)
