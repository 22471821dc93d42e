-- `sprites::line_at` meets its contract: where that line stands.
use Rattle.picture.specs.Picture.{sprite_line}
use Rattle.sprites.proofs.line_at.Goals as goal

pub returns-clause-value : goal.returns-clause-value
unfolding sprite_line
returns-clause-value c =
    rw (
      c.sprite_double_size_src_line-char_num.ensures.value,
      c.is_set-2.ensures,
      c.pattern_base-base.ensures.value,
      c.is_set.ensures,
    )
