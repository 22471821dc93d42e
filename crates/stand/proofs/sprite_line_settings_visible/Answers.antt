-- `stand::sprite_line_settings_visible` meets its contract: where a sprite with X byte h stands in the visible area, the early clock taking e off.
-- what an unseen one adds to its place
use Rattle.std.proofs.Common.{◌≡◌, ℕ, ◌+◌, ◌-◌, ◌*◌, ◌%◌, Bool, true, false, cond, not, arith}
use Rattle.laws.specs.Bits.{digit}
use Rattle.picture.specs.View.{visible_stand, visible_seen}
use Rattle.stand.proofs.sprite_line_settings_visible.Goals as goal

mark_at_lem : (seen : Bool) (h start : ℕ) → h + start * digit (not seen) ≡ cond seen h (h + start)
mark_at_lem true h start = omega arith
mark_at_lem false h start = omega arith

pub returns-clause-value : goal.returns-clause-value
unfolding visible_stand visible_seen
returns-clause-value c =
    let a = c.args in
    let x : c.saturating_sub-x.result ≡ a.h - 48 - a.e = omega arith in
    let start : c.saturating_sub-start.result ≡ 48 + a.e - a.h = omega arith in
    let prio : c.from-3.result ≡ (a.h - 48 - a.e + 256 - (48 + a.e - a.h)) % 256 = omega arith in
    rw (
      c.weight.ensures.value,
      mark_at_lem _ c.from.result c.from-first.result,
      prio,
      c.from-2.ensures,
      c.from.ensures,
      c.from-first.ensures,
      c.visible_end.ensures.value,
      start,
      x,
    )
