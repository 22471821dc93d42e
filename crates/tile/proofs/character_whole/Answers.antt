-- `tile::character_whole` meets its contract: the whole line at addr, drawn from pixel x of the row on.
use borrow.Author.Rules.{rules}
use mathlib.Core.Path.{ap, sym, ◌∙◌}
use Prim.Native.Nat.{◌+◌}
use native.Mathlib.Nat.{zero-add}
use Rattle.laws.specs.Lists.{at}
use Rattle.laws.proofs.Paint.{painted_cong}
use Rattle.picture.specs.Tile.{turned, code_at}
use Rattle.tile.specs.Line.{colours_in}
use Rattle.tile.proofs.Whole.{lane_at, lane_low}
use Rattle.tile.proofs.character_whole.Goals as goal

pub paint_whole-requires : goal.paint_whole-requires
paint_whole-requires c =
    let a = c.args in
    (c.requires.2, c.requires.3, c.requires.1, search rules, lane_low a.vram.now a.addr a.flip c.line_of-line.ensures.codes_value)

pub returns-clause-row_after : goal.returns-clause-row_after
returns-clause-row_after c =
    let a = c.args in
    c.paint_whole.ensures
    ∙ painted_cong _ _ _ _ _ (λ k h.
    ap (λ i. at (colours_in a.table.now) (a.palette + i)) (lane_at a.vram.now a.addr a.flip c.line_of-line.ensures.codes_value k h
    ∙ ap (λ i. code_at (at a.vram.now) a.addr (turned a.flip i)) (sym (zero-add k))))
