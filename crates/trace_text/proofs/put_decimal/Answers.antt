-- `trace_text::put_decimal` meets its contract: a number of at most five digits.
use mathlib.Core.Path.{◌≡◌, ap, ◌∙◌}
use mathlib.Core.List.{List}
use Prim.Native.Nat.{ℕ, ◌-◌}
use lib.ListN.{take, drop}
use Rattle.trace_text.specs.Text.{decimal}
use Rattle.trace_text.proofs.Lines.{printed, put_as}
use Rattle.trace_text.proofs.put_decimal.Goals as goal

pub returns-clause-out_after : goal.returns-clause-out_after
returns-clause-out_after c =
    let a = c.args in
    let k = c.unprinted-from.result in
    let e : take (5 - k) (drop k c.five_digits-digits.result) ≡ decimal a.n =
    ap (λ (l : List ℕ). take (5 - k) (drop k l)) c.five_digits-digits.ensures ∙ printed a.n k c.unprinted-from.ensures in
    let p = put_as a.out.now a.at e (c.put_all.ensures.value, c.put_all.ensures.out_after) in
    p.1
