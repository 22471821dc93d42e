-- `trace_text::put_numbered` meets its contract: a word with a space after it, a number, and the end of the line.
use mathlib.Core.List.{[], ◌∷◌}
use Prim.Native.Nat.{◌+◌, ◌≤◌}
use native.Mathlib.Omega.{arith}
use lib.ListN.{length}
use Rattle.trace_text.specs.Text.{decimal}
use Rattle.trace_text.proofs.Lines.{three_writes}
use Rattle.trace_text.proofs.put_numbered.Goals as goal

pub returns-clause-out_after : goal.returns-clause-out_after
returns-clause-out_after c =
    let a = c.args in
    let p = c.put_all-a.ensures in
    let d = c.put_decimal-b.ensures in
    let q = c.put_all.ensures in
    let h : a.at + length a.word.now + length (decimal a.n) + 1 ≤ length a.out.now = omega (arith, d.value.1, c.requires) in
    let whole = three_writes a.out.now a.at a.word.now (decimal a.n) (0x0A ∷ []) h p.out_after p.value d.out_after d.value.0 q.out_after q.value in whole.1
