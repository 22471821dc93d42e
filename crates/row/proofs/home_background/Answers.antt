-- `row::home_background` meets its contract: the background of a home row whose column 0 shows the map's pixel (sx, y).
use Rattle.row.proofs.Home.{home_runs}
use Rattle.row.proofs.home_background.Goals as goal

pub returns-clause-row_after : goal.returns-clause-row_after
returns-clause-row_after c =
    let a = c.args in
    let e = c.render_background_line-left.ensures in
    let d = c.render_background_line-right.ensures in
    home_runs a.row.now _ _ c.requires.row_size_in_bounds.0 e.row_after d.row_after
