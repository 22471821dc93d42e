-- `face::shown` meets its contract: the colour of a number that a row is drawn with.
use mathlib.Core.Path.{◌∙◌}
use Rattle.face.proofs.Pixels.{colour_dirty, colour_clean}
use Rattle.face.proofs.shown.Goals as goal

pub returns-then-state-eq1 : goal.returns-then-state-eq1
returns-then-state-eq1 c =
    c.rgb.ensures ∙ colour_dirty c.args.state.now c.args.n c.requires.1 c.if-state-eq1.true

pub returns-else-state-eq1 : goal.returns-else-state-eq1
returns-else-state-eq1 c =
    c.cached_colour.ensures ∙ colour_clean c.args.state.now c.args.n c.if-state-eq1.false
