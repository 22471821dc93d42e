-- `tile_codes::plane_byte` meets its contract: the byte of one plane of a tile's line: a bit of each of its eight codes.
use mathlib.Core.Path.{◌∙◌}
use Prim.Native.Nat.{◌+◌}
use Rattle.tile_codes.proofs.Loops.{half_is, plane_sum}
use Rattle.tile_codes.proofs.plane_byte.Goals as goal

pub returns : goal.returns
returns c =
    let a = c.args in
    plane_sum a.codes.now a.from a.plane (c.code_at.ensures.0 ∙ half_is a.codes.now a.from a.plane)
    (c.code_at-2.ensures.0 ∙ half_is a.codes.now (a.from + 4) a.plane)
