-- `tile::overlay_four` meets its contract: four pixels, the new colours or the old.
use Rattle.tile.specs.Fours.{chosen_of}
use Rattle.tile.proofs.overlay_four.Goals as goal

pub returns : goal.returns
unfolding chosen_of
returns c =
    rw (← c.chosen-4.ensures, ← c.chosen-3.ensures, ← c.chosen-2.ensures, ← c.chosen.ensures)
    c.four_set_full.ensures
