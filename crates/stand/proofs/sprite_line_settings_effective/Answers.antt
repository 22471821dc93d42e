-- `stand::sprite_line_settings_effective` meets its contract: where a sprite stands in the effective area.
use Rattle.std.proofs.Common.{◌≡◌, ◌+◌, ◌-◌, ◌%◌, arith}
use Rattle.picture.specs.View.{effective_stand}
use Rattle.stand.proofs.sprite_line_settings_effective.Goals as goal

pub returns-clause-value : goal.returns-clause-value
unfolding effective_stand
returns-clause-value c =
    let x : c.from-x.result ≡ (c.args.h + 256 - c.args.e) % 256 = omega arith in
    rw (x, c.from.ensures)
