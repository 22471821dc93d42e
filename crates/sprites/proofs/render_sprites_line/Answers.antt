-- `sprites::render_sprites_line` meets its contract: the sprites of a line, over its background, under the priority mask `prio`.
use Rattle.sprites.proofs.render_sprites_line.Goals as goal

pub returns : goal.returns
returns c =
    λ base told f colour pe re le. (c.sprites_line-marks.ensures base told f colour pe c.new-none.ensures re le).line
