-- `colour::home_palette_recompute` meets its contract: the 32 colours of that palette.
use Rattle.std.proofs.Common.{rules, ◌≡◌, refl}
use Rattle.laws.specs.Lists.{at}
use Rattle.colour.specs.Home.{home_colour, home_colours_of}
use Rattle.colour.proofs.Laws.{is_table_by_calls}
use Rattle.colour.proofs.home_palette_recompute.Goals as goal

pub returns : goal.returns
unfolding home_colours_of
returns c =
    let bytes = c.args.cram in
    is_table_by_calls _ (λ p. p.0.now ≡ bytes) (λ i. home_colour (at bytes i)) (λ p i y q e k. search rules) 32 _ _ refl c.from_fn.ensures.items
