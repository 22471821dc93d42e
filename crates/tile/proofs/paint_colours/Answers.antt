-- `tile::paint_colours` meets its contract: the colours into a row of 32 pixels.
use Prim.Native.Nat.{ℕ, ◌<◌}
use mathlib.Core.Path.{◌≡◌, refl, ap, ◌∙◌}
use native.Mathlib.Omega.{arith}
use Rattle.laws.specs.Lists.{at}
use Rattle.laws.specs.Paint.{painted}
use Rattle.tile.specs.Line.{colours_in}
use Rattle.tile.proofs.Whole.{colour_step, bytes_are, colours_back}
use Rattle.tile.proofs.paint_colours.Goals as goal

pub loop-i-init : goal.loop-i-init
unfolding painted
loop-i-init c = (refl, refl)

pub loop-i-preserved : goal.loop-i-preserved
loop-i-preserved c =
    let a = c.args in
    let v = c.loop-i.invariant in (
      colour_step a.row.now a.colours.now c.loop-i.i v.0 c.pixel_set_full.ensures,
      omega (arith, v.1, c.pixel_set_full.auto.row),
    )

pub returns-clause-row_after : goal.returns-clause-row_after
returns-clause-row_after c =
    let a = c.args in
    let cs = a.colours.now in
    let v = c.loop-i.invariant in
    let n : c.loop-i.i ≡ 32 = omega arith in
    let e = bytes_are cs a.row.now c.requires.0 (v.1 ∙ c.requires.0) (rw n at v.0) in
    let low : (k : ℕ) → at cs k < 4294967296 = λ k. omega (arith, c.shared_slice_known-1.given k) in
    e

pub returns-clause-row_after_2 : goal.returns-clause-row_after_2
returns-clause-row_after_2 c =
    let a = c.args in
    let cs = a.colours.now in
    let v = c.loop-i.invariant in
    let n : c.loop-i.i ≡ 32 = omega arith in
    let e = bytes_are cs a.row.now c.requires.0 (v.1 ∙ c.requires.0) (rw n at v.0) in
    let low : (k : ℕ) → at cs k < 4294967296 = λ k. omega (arith, c.shared_slice_known-1.given k) in
    ap colours_in e ∙ colours_back cs c.requires.1 low
