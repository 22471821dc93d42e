-- `trace_text::put_line` meets its contract: the line of an answer, by its letter, its refusal and the rest.
use native.Mathlib.Omega.{arith}
use mathlib.Core.List.{[], ◌∷◌}
use Prim.Native.Nat.{◌+◌, ◌≤◌}
use lib.ListN.{length}
use Rattle.trace_text.specs.Text.{decimal}
use Rattle.trace_text.proofs.Lines.{three_writes}
use Rattle.trace_text.proofs.put_line.Goals as goal

pub returns-clause-out_after : goal.returns-clause-out_after
returns-clause-out_after c =
    let a = c.args in
    let n = a.refusal in
    let p = c.put_all-a.ensures in
    let d = rw c.from.ensures at c.put_decimal-b.ensures in
    let q = c.put_all.ensures in
    let h : a.at + 2 + length (decimal n) + length a.rest.now ≤ length a.out.now = omega (arith, d.value.1, c.requires) in
    let whole = three_writes a.out.now a.at (a.letter ∷ 0x20 ∷ [])
    (decimal n) a.rest.now h p.out_after p.value d.out_after d.value.0 q.out_after q.value in whole.1
