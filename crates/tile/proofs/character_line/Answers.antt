-- `tile::character_line` meets its contract: n pixels of the line at addr, from the tile's pixel start on, drawn from pixel x of the row on.
use borrow.Author.Rules.{rules}
use native.Mathlib.Omega.{arith}
use mathlib.Core.Path.{◌≡◌, ap, ◌∙◌}
use Prim.Native.Nat.{◌+◌, ◌%◌, ◌<◌}
use Rattle.laws.specs.Lists.{at}
use Rattle.laws.proofs.Bits.{number_ext}
use Rattle.laws.proofs.Paint.{painted_cong}
use Rattle.tile.specs.Lanes.{lane}
use Rattle.tile.proofs.Lanes.{lane_past}
use Rattle.tile.proofs.Whole.{lane_at, lane_low, bit_at}
use Rattle.tile.proofs.character_line.Goals as goal

pub paint-requires : goal.paint-requires
paint-requires c =
    let a = c.args in (
      omega arith,
      c.requires.3,
      search rules,
      λ k h.
          let e : a.start % 8 + k < 8 = omega arith in
          rw lane_past (lane_low a.vram.now a.addr a.flip c.line_of-line.ensures.codes_value (a.start % 8 + k) e),
    )

pub returns-clause-row_after : goal.returns-clause-row_after
returns-clause-row_after c =
    let a = c.args in
    let w = c.line_of-line.result.codes in
    c.paint.ensures
    ∙ painted_cong _ _ _ _ _ (λ k h.
    let e : a.start % 8 + k ≡ a.start + k = omega arith in
    let l : a.start + k < 8 = omega arith in
    ap (λ i. at a.colours.now (a.palette + i))
    (lane_past w (a.start % 8) k ∙ ap (lane w) e ∙ lane_at a.vram.now a.addr a.flip c.line_of-line.ensures.codes_value (a.start + k) l))

pub returns-clause-value : goal.returns-clause-value
returns-clause-value c =
    let a = c.args in
    let w = c.line_of-line.result.codes in
    c.cut.ensures
    ∙ number_ext _ _ _ (λ k h.
    let l : a.start + k < 8 = omega arith in
    bit_at a.vram.now a.addr a.flip c.line_of-line.ensures.solids_value a.start k l)
