-- `tile::line_of` meets its contract: the line at addr, whose four bytes are fetched once.
use mathlib.Core.Path.{◌∙◌}
use Prim.Native.Nat.{ℕ, ◌<◌}
use Rattle.laws.specs.Lists.{at}
use native.Mathlib.Omega.{arith}
use Rattle.tile.proofs.Whole.{codes_at_lem, bits_at}
use Rattle.tile.proofs.line_of.Goals as goal

pub returns-clause-codes_value : goal.returns-clause-codes_value
returns-clause-codes_value c =
    let a = c.args in
    let x = c.four_at-x.result in
    let low : (k : ℕ) → at a.vram.now k < 256 = λ k. omega (arith, c.shared_slice_known-1.given k) in
    let e = c.four_at-x.ensures in
    c.codes_of.ensures ∙ codes_at_lem a.vram.now a.addr x low e a.flip

pub returns-clause-solids_value : goal.returns-clause-solids_value
returns-clause-solids_value c =
    let a = c.args in
    let x = c.four_at-x.result in
    let low : (k : ℕ) → at a.vram.now k < 256 = λ k. omega (arith, c.shared_slice_known-1.given k) in
    let e = c.four_at-x.ensures in
    c.solids_of.ensures
    ∙ bits_at a.vram.now a.addr x low e a.flip
