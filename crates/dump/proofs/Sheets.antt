-- The sheet's answer: the first line of its table that holds.
-- Assumes nothing.
use mathlib.Core.Path.{◌≡◌}
use mathlib.Core.List.{List}
use Prim.Native.Nat.{ℕ}
use lib.Dec.{eqb}
use Rattle.laws.proofs.Tests.{split}
use Rattle.refusal.specs.Refusals.{whole, first}
use Rattle.dump.specs.Dump.{dump_size}
use Rattle.dump.specs.Sheet.{dump_refusal, dump_lines}

-- a dump is refused by the first line of its table that holds
pub dump_exact : (vram : List ℕ) (size : ℕ) → dump_refusal vram size ≡ first (dump_lines vram size)
unfolding dump_refusal
dump_exact vram size = split (whole vram) (λ e. split (eqb size dump_size) (λ f. simp (e, f)) (λ f. simp (e, f))) (λ e. simp e)
