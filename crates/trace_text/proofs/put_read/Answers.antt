-- `trace_text::put_read` meets its contract: the line of a read.
use mathlib.Core.List.{[], ◌∷◌}
use Rattle.trace_text.specs.Text.{told, line_of}
use Rattle.trace_text.proofs.Lines.{put_as}
use Rattle.trace_text.proofs.put_read.Goals as goal

pub returns : goal.returns
unfolding line_of
returns c =
    let a = c.args in
    let whole = put_as a.out.now a.at
    (λ i. told 0x72 a.refusal (0x20 ∷ c.hex_digit-high.ensures i ∷ c.hex_digit-low.ensures i ∷ 0x0A ∷ []))
    (c.put_line.ensures.value, c.put_line.ensures.out_after) in
    record { value = whole.0; out_after = whole.1 }
