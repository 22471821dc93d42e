-- `tile::pixel_set_full` meets its contract: the four bytes of a colour, at pixel x of the row.
use mathlib.Core.Path.{◌≡◌, ◌∙◌}
use Prim.Native.Nat.{◌+◌, ◌-◌, ◌*◌}
use native.Mathlib.Omega.{arith}
use Rattle.tile.proofs.Store.{stored_is}
use Rattle.tile.proofs.pixel_set_full.Goals as goal

pub returns : goal.returns
returns c =
    let n : c.args.x * 4 + 4 - c.args.x * 4 ≡ 4 = omega arith in
    stored_is c.args.row.now c.args.x c.args.c n c.requires (c.copy_from_slice.ensures.after ∙ c.to_le_bytes.ensures)
