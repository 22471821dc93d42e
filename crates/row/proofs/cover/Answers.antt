-- `row::cover` meets its contract: the first eight layers are the fill's, where `on` and where the row's layers are asked for.
use mathlib.Core.Path.{◌≡◌}
use Prim.Native.Nat.{◌≤◌}
use lib.ListN.{length, take}
use lib.Seq.{length-take-le}
use native.Mathlib.Omega.{arith}
use Rattle.picture.proofs.Layers.{layers_in_filled, cover_none, cover_off, cover_on}
use Rattle.row.proofs.cover.Goals as goal

pub returns-then-not-on : goal.returns-then-not-on
returns-then-not-on c =
    rw c.if-not-on.true (cover_off c.args.layers.now 256)

pub returns-then-layers-lt-SCROLL_PIXEL_WIDTH : goal.returns-then-layers-lt-SCROLL_PIXEL_WIDTH
returns-then-layers-lt-SCROLL_PIXEL_WIDTH c =
    rw c.if-not-on.false (cover_none c.args.layers.now 256 8 2 c.if-layers-lt-SCROLL_PIXEL_WIDTH.true)

pub returns : goal.returns
returns c =
    let b = c.args.layers.now in
    let room : 8 ≤ length b = omega arith in
    let n : length (take 8 b) ≡ 8 = length-take-le 8 b room in
    rw c.if-not-on.false (cover_on b 256 8 2 (omega arith) (omega arith) (layers_in_filled b 8 2 room (rw n at (c.fill.ensures.after (λ y q. q)))))
