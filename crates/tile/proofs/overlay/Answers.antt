-- `tile::overlay` meets its contract: the colours in palette 1 that the lanes name where `drawn` has their bits, from pixel x of the row on.
use native.Mathlib.Omega.{arith}
use Rattle.tile.proofs.Store.{eight_chosen}
use Rattle.tile.proofs.overlay.Goals as goal

pub returns : goal.returns
returns c =
    let a = c.args in
    eight_chosen a.row.now a.x a.drawn _ (λ k. omega (arith, c.slice_known-1.given k)) c.row_colours-old_left.ensures
    c.row_colours-old_right.ensures c.lane_colours-left.ensures c.lane_colours-right.ensures c.overlay_four.ensures
    c.overlay_four-2.ensures
