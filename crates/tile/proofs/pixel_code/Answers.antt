-- `tile::pixel_code` meets its contract: the code of pixel p of the line at addr.
use mathlib.Core.Path.{◌∙◌}
use Rattle.tile.proofs.Whole.{lane_at, lane_low}
use Rattle.tile.proofs.pixel_code.Goals as goal

pub returns-clause-value : goal.returns-clause-value
returns-clause-value c =
    let a = c.args in
    let e = c.line_of-line.ensures.codes_value in
    let p = c.requires.0 in
    c.color_code.ensures ∙ lane_at a.vram.now a.addr a.flip e a.p p

pub returns-clause-upper_bound : goal.returns-clause-upper_bound
returns-clause-upper_bound c =
    let a = c.args in
    let e = c.line_of-line.ensures.codes_value in
    let p = c.requires.0 in
    rw c.color_code.ensures
    (lane_low a.vram.now a.addr a.flip e a.p p)
