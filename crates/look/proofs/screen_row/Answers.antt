-- `look::screen_row` meets its contract: a row of a frame, as a part of the caller's own frame.
use Rattle.look.proofs.Views.{seen}
use Rattle.look.proofs.screen_row.Goals as goal

pub returns-then-frame-rows : goal.returns-then-frame-rows
returns-then-frame-rows c =
    seen c.args.screen c.row_count-rows.ensures c.row_size-size.ensures c.args.frame.now c.args.row
    c.if-row-rows.true c.if-frame-rows.true
