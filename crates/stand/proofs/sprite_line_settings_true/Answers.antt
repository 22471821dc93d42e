-- `stand::sprite_line_settings_true` meets its contract: where a sprite stands by true columns.
use Rattle.std.proofs.Common.{◌≡◌, ◌+◌, ◌-◌, arith}
use Rattle.picture.specs.View.{edge_stand}
use Rattle.stand.proofs.sprite_line_settings_true.Goals as goal

pub returns-clause-value : goal.returns-clause-value
unfolding edge_stand
returns-clause-value c =
    let a = c.args in
    let x : c.from-place.result ≡ a.h - a.left - a.e = omega arith in
    let start : c.from.result ≡ a.left + a.e - a.h = omega arith in
    rw (c.edge_end.ensures.value, start, x)
