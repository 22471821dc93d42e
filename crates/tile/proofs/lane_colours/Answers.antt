-- `tile::lane_colours` meets its contract: the colours that the four lanes from lane k on name.
use native.Mathlib.Omega.{arith}
use mathlib.Core.Path.{◌∙◌}
use Prim.Native.Nat.{◌+◌, ◌<◌}
use Rattle.laws.specs.Lists.{at}
use Rattle.tile.specs.Line.{colours_in}
use Rattle.tile.specs.Lanes.{lane}
use Rattle.tile.proofs.Whole.{place_fits, place_four, fours_are}
use Rattle.tile.proofs.lane_colours.Goals as goal

pub lane_colour-requires : goal.lane_colour-requires
lane_colour-requires c =
    let a = c.args in
    (omega arith, place_fits a.table.now a.palette a.codes c.requires.2 c.requires.1 c.ranges.codes.fits c.requires.3)

pub lane_colour-requires-2 : goal.lane_colour-requires-2
lane_colour-requires-2 c =
    let a = c.args in
    (omega arith, place_fits a.table.now a.palette a.codes c.requires.2 c.requires.1 c.ranges.codes.fits c.requires.3)

pub lane_colour-requires-3 : goal.lane_colour-requires-3
lane_colour-requires-3 c =
    let a = c.args in
    (omega arith, place_fits a.table.now a.palette a.codes c.requires.2 c.requires.1 c.ranges.codes.fits c.requires.3)

pub lane_colour-requires-4 : goal.lane_colour-requires-4
lane_colour-requires-4 c =
    let a = c.args in
    (omega arith, place_fits a.table.now a.palette a.codes c.requires.2 c.requires.1 c.ranges.codes.fits c.requires.3)

pub returns : goal.returns
returns c =
    let a = c.args in
    let k = a.k in
    let q = place_four a.table.now a.palette a.codes c.requires.2 c.requires.1 c.ranges.codes.fits c.requires.3 in
    let l : k < 5 = c.requires.0 in
    fours_are (λ i. at (colours_in a.table.now) (a.palette + lane a.codes i)) k
    (c.lane_colour.ensures ∙ q k (omega arith)) (c.lane_colour-2.ensures ∙ q (k + 1) (omega arith))
    (c.lane_colour-3.ensures ∙ q (k + 2) (omega arith)) (c.lane_colour-4.ensures ∙ q (k + 3) (omega arith))
