-- `sprites::next_on` meets its contract: the next sprite on the line, of those from sprite `from` on.
use Rattle.std.proofs.Common.{◌≡◌, ◌+◌, ◌-◌, ◌%◌, ◌^◌, ◌<◌, ◌≤◌, refl, ◌∙◌, arith, w64, Fits, rules, eq-eqb, ne_eqb}
use Rattle.laws.specs.Lists.{at}
use Rattle.sprites.proofs.List.{list_ends, list_skips, list_has, list_done, byte_of_lem, on_line_lem, below_top, off_line}
use Rattle.sprites.proofs.next_on.Goals as goal

pub returns-then-y-clause-by_index : goal.returns-then-y-clause-by_index
returns-then-y-clause-by_index c =
    let a = c.args in
    let v = c.loop-n.invariant in
    let n = c.loop-n.n in
    let m = at a.vram.now in
    let low = c.requires.3 in
    let l : n < 64 = omega arith in
    λ g te le.
    record {
      none = λ h. v g te le ∙ list_ends m g a.line n l (byte_of_lem m g a.line n te refl (eq-eqb _ _ c.if-y.true));
      next = λ h. absurd (omega arith);
      below = λ h. absurd (omega arith);
    }

pub returns-then-d-lines-clause-by_index : goal.returns-then-d-lines-clause-by_index
returns-then-d-lines-clause-by_index c =
    let a = c.args in
    let v = c.loop-n.invariant in
    let n = c.loop-n.n in
    let m = at a.vram.now in
    let low = c.requires.3 in
    let l : n < 64 = omega arith in
    let top = c.top_of.result in
    let d = (a.line + (18446744073709551616 - top)) % 18446744073709551616 in
    let wrap : (d + top) % 2 ^ 64 ≡ a.line = omega arith in
    λ g te le.
    record {
      none = λ h. absurd (omega arith);
      next = λ h.
          v g te le
          ∙ list_has m g a.line n l (byte_of_lem m g a.line n te refl (ne_eqb _ _ c.if-y.false))
          (on_line_lem m g a.line n te refl top a.lines d c.top_of.ensures.value le wrap low
          c.if-d-lines.true);
      below = λ h. below_top m g a.line n te refl top a.lines d c.top_of.ensures.value le
          wrap low c.if-d-lines.true;
    }

pub loop-n-preserved : goal.loop-n-preserved
loop-n-preserved c =
    let a = c.args in
    let v = c.loop-n.invariant in
    let n = c.loop-n.n in
    let m = at a.vram.now in
    let low = c.requires.3 in
    let l : n < 64 = omega arith in
    let top = c.top_of.result in
    let d = (a.line + (18446744073709551616 - top)) % 18446744073709551616 in
    let wrap : (d + top) % 2 ^ 64 ≡ a.line = omega arith in
    let out : a.lines ≤ d = omega arith in
    let fits : Fits w64 d = search rules in
    λ g te le.
    v g te le
    ∙ list_skips m g a.line n l (byte_of_lem m g a.line n te refl (ne_eqb _ _ c.if-y.false))
    (off_line m g a.line n te refl top a.lines d c.top_of.ensures.value le wrap low out fits.fits)

pub returns-clause-by_index : goal.returns-clause-by_index
returns-clause-by_index c =
    let a = c.args in
    let v = c.loop-n.invariant in
    let n = c.loop-n.n in
    let m = at a.vram.now in
    let low = c.requires.3 in
    let l : 64 ≤ n = omega arith in
    λ g te le.
    record { none = λ h. v g te le ∙ list_done m g a.line n l; next = λ h. absurd (omega arith); below = λ h. absurd (omega arith) }
