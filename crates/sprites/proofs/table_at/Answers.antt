-- `sprites::table_at` meets its contract: where the sprite table starts.
use Rattle.picture.specs.Picture.{table_at}
use Rattle.sprites.proofs.table_at.Goals as goal

pub returns-clause-value : goal.returns-clause-value
unfolding table_at
returns-clause-value c = rw c.from.ensures
