-- `block_repair::same_colours` meets its contract: whether the cached colours are the palette's.
use mathlib.Core.Path.{ap, ◌∙◌}
use Rattle.colour.specs.Colour.{colours_of}
use Rattle.block_repair.proofs.Laws.{matches}
use Rattle.block_repair.proofs.same_colours.Goals as goal

pub returns : goal.returns
returns c =
    matches c.args.old.now c.cache_in.ensures (c.palette_recompute.ensures ∙ ap colours_of c.palette_in.ensures) c.eq.ensures
