-- `block::cached_colour` meets its contract: one of the cached colours.
use mathlib.Core.Path.{sym, ◌∙◌}
use Rattle.block_parts.proofs.Copies.{one_of_lem}
use Rattle.block.specs.Block.{state_of}
use Rattle.block.proofs.cached_colour.Goals as goal

pub returns : goal.returns
unfolding state_of
returns c =
    c.colour_at.ensures ∙ sym (one_of_lem 91 c.args.block.now c.args.n c.requires.1)
