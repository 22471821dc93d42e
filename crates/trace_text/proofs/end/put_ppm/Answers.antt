-- `trace_text::end::put_ppm` meets its contract: the picture of a frame: red, green and blue of each pixel, behind the header.
use mathlib.Core.Path.{◌≡◌, ap, ◌∙◌}
use Prim.Native.Nat.{ℕ, ◌+◌, ◌*◌, ◌≤◌}
use native.Mathlib.Omega.{arith}
use lib.ListN.{length}
use Rattle.laws.specs.Lists.{written}
use Rattle.trace_text.proofs.Endings.{length-header, no_pixel, pixel_more, all_pixels, length-ppm}
use Rattle.trace_text.specs.End.{pixel_count, pixels}
use Rattle.trace_text.proofs.end.put_ppm.Goals as goal

pub loop-i-init : goal.loop-i-init
loop-i-init c = (
  omega (arith, c.put_all-at.ensures.value, (ap length c.header_of-header.ensures ∙ length-header c.args.screen)),
  no_pixel c.put_all-at.new.out c.args.frame.now,
)

pub loop-i-preserved : goal.loop-i-preserved
loop-i-preserved c =
    let a = c.args in
    let l = c.loop-i in
    let p = c.put_all-at-in-loop-i.ensures in
    let o = c.put_all-at.new.out in
    let e = c.pixel_count-count.ensures.0 in
    let room : 3 * l.i + 15 ≤ length o = omega (arith, c.requires.0, c.put_all-at.auto.out) in
    let inside : 4 * l.i + 3 ≤ length a.frame.now = omega (arith, c.requires.1) in
    (omega (arith, p.value), pixel_more o a.frame.now l.i room inside l.invariant.0 l.invariant.1 p.out_after)

pub returns : goal.returns
returns c =
    let a = c.args in
    let l = c.loop-i in
    let e : l.i ≡ pixel_count a.screen = omega (arith, c.pixel_count-count.ensures.0) in
    let o = c.put_all-at.new.out in
    record {
      value = omega (arith, l.invariant.0, length-ppm a.screen a.frame.now);
      out_after =
          all_pixels a.screen a.out.now a.frame.now (omega (arith, c.requires.0))
          (c.put_all-at.ensures.out_after ∙ ap (written a.out.now 0) c.header_of-header.ensures)
          (l.invariant.1 ∙ ap (λ (k : ℕ). written o 15 (pixels k a.frame.now)) e);
    }
