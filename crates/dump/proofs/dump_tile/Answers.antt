-- `dump::dump_tile` meets its contract: the eight lines of tile chr, at its place.
use mathlib.Core.Path.{◌≡◌, ◌∙◌}
use mathlib.Core.Bool.{◌&&◌}
use lib.Dec.{leb}
use Rattle.std.proofs.Common.{le-leb}
use Rattle.std.proofs.lemmas.Bool.{lt-leb}
use Prim.Native.Nat.{◌<◌}
use native.Mathlib.Omega.{arith}
use Rattle.dump.specs.Dump.{line_at}
use Rattle.dump.proofs.Lines.{weighed, line_step}
use Rattle.dump.proofs.dump_tile.Goals.{then-sprite, else-sprite}
use Rattle.dump.proofs.dump_tile.Goals as goal

pub loop-line-preserved : goal.loop-line-preserved
unfolding line_at
loop-line-preserved c =
    let a = c.args in
    let l = c.loop-line.line in
    let hc : a.chr < 512 = omega arith in
    let hl : l < 8 = omega arith in
    let on : c.if-sprite.weight ≡ (leb 256 a.chr && a.high) = elim c.if-sprite.branch [
      | then-sprite w ↦ simp (w.weight-is, le-leb _ _ w.if-sprite.true)
      | else-sprite w ↦ simp (w.weight-is, lt-leb _ _ w.if-sprite.false)
    ] in (
      omega arith,
      λ base d.
          line_step a.vram.now a.tall a.high a.colours.now base a.chr l hc hl (c.loop-line.invariant.1 base d)
          (λ k. c.dump_line.ensures k ∙ rw (
            c.weight.ensures.value,
            on,
            weighed _ 8192,
            c.place_of-place.ensures.value,
          )),
    )
