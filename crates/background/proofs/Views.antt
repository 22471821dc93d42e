-- What a view of a row asks of the map, column by column, is what the code finds there.
-- Assumes nothing.
use Rattle.std.proofs.Common.{◌≡◌, ℕ, ◌+◌, ◌-◌, ◌%◌, ◌<◌, ◌≤◌, List, arith, le-ltb, lt-ltb}
use native.Mathlib.Decide.{dec_lt}
use Rattle.laws.specs.Lists.{at}
use Rattle.laws.proofs.Any.{any_cong}
use Rattle.picture.specs.Tile.{names_at}
use Rattle.picture.specs.View.{View, cut_mark}
use Rattle.picture.specs.Picture.{back, front}
use Rattle.background.specs.Background.{back_colour, back_front, prio_to}

-- ---- any view whose map columns are (sx + x) mod 256, whose map line is y, and whose first tile marks `cut` places to the left
module _
    (vram reg : List ℕ) (v : View) (names sx y : ℕ) (ne : names ≡ names_at (at reg)) (ex : (x : ℕ) → x < v.width → v.map_x x ≡ (sx + x) % 256)
    (ey : (x : ℕ) → v.map_y x ≡ y) (cut : ℕ) (em : (x : ℕ) → x < v.width → v.mark_at x ≡ cut_mark cut x)
  where
    pub back_at : (x : ℕ) → x < v.width → back_colour vram names sx y x ≡ back (at vram) (at reg) v x
    unfolding back back_colour
    back_at x l = rw (ex x l, ey x, ne)

    pub front_at_lem : (i : ℕ) → prio_to vram names sx y cut v.width i ≡ front (at vram) (at reg) v i
    unfolding front prio_to back_front
    front_at_lem i = any_cong v.width _ _ (λ x l. rw (ex x l, ey x, em x l, ne))

-- ---- the visible view
pub visible_x : (r x : ℕ) → r < 256 → (x + 304 - r) % 256 ≡ ((304 - r) % 256 + x) % 256
visible_x r x h = omega arith

-- ---- the effective view
pub effective_x : (x : ℕ) → x < 256 → x ≡ (0 + x) % 256
effective_x x h = omega arith

pub effective_mark : (x : ℕ) → x < 256 → x ≡ cut_mark 0 x
unfolding cut_mark
effective_mark x h =
    elim (dec_lt x 8) [
      | yes l ↦ rw (lt-ltb x 8 l) (omega arith)
      | no l ↦ let k : 8 ≤ x = omega arith in rw (le-ltb x 8 k)
    ]
