-- `dump::draw_tileset` meets its contract: all tiles, by the cached colours as they stand.
use mathlib.Core.Path.{◌≡◌}
use native.Mathlib.Omega.{arith}
use lib.ListN.{length}
use Rattle.dump.proofs.Lines.{dumping_ends}
use Rattle.dump.proofs.draw_tileset.Goals as goal

pub returns : goal.returns
returns c =
    let a = c.args in
    let e : c.loop-chr.chr ≡ 512 = omega arith in
    let l : length c.loop-chr.pixels ≡ 131072 = omega arith in
    dumping_ends a.vram.now a.reg a.colours.now a.pixels.now l e c.is_set-tall.ensures c.is_set-high.ensures
    c.loop-chr.invariant.1
