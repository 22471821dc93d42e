-- `colour::palette_recompute` meets its contract: the 32 colours of a palette, which the cache holds once it is made anew.
use Rattle.std.proofs.Common.{rules, ◌≡◌, refl, ◌+◌, ◌*◌}
use Rattle.laws.specs.Lists.{at}
use Rattle.colour.specs.Colour.{colour, colours_of}
use Rattle.colour.proofs.Laws.{is_table_by_calls}
use Rattle.colour.proofs.palette_recompute.Goals as goal

pub returns : goal.returns
unfolding colours_of
returns c =
    let bytes = c.args.cram in
    is_table_by_calls _ (λ p. p.0.now ≡ bytes) (λ i. colour (at bytes (2 * i)) (at bytes (2 * i + 1)))
    (λ p i y q e k. search rules) 32 _ _ refl c.from_fn.ensures.items
