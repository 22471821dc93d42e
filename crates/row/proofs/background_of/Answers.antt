-- `row::background_of` meets its contract: the background of row `line` of each screen.
use Rattle.row.proofs.background_of.Goals as goal

pub returns-in-EffectiveArea : goal.returns-in-EffectiveArea
returns-in-EffectiveArea c =
    rw c.in-EffectiveArea.is (c.background_effective.ensures c.args.scroll)
