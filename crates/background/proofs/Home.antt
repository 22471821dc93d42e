-- What the home machine's view asks of the map, column by column, is what the code finds there.
-- Assumes nothing.
use Rattle.std.proofs.Common.{◌≡◌, ℕ, ◌+◌, ◌%◌, ◌<◌, ◌≤◌, Bool, cond, ◌&&◌, eqb, ltb, leb, List, sym, ap, ◌∙◌, arith, lt-ltb}
use mathlib.Core.Bool.{and-true, and-false}
use Rattle.laws.specs.Bits.{bit, any}
use Rattle.laws.specs.Circle.{past}
use Rattle.laws.specs.Lists.{at}
use Rattle.laws.proofs.Any.{any_cong, any_place}
use Rattle.laws.proofs.Tests.{split}
use Rattle.picture.specs.Tile.{names_at, map_front}
use Rattle.picture.specs.View.{View, cut_mark, home}
use Rattle.picture.specs.Picture.{back, front}
use Rattle.background.specs.Background.{back_colour, back_front, prio_to, home_column, home_last}
use Rattle.background.proofs.Views.{effective_mark}

-- ---- a place of the mask, where each column marks its own
own_place : (n i : ℕ) (F : ℕ → Bool) → n ≤ 256 → i < 256 → any n (λ x. eqb x i && F x) ≡ (ltb i n && F i)
own_place n i F h l =
    let e : past i 0 ≡ i = omega arith in
    any_cong n (λ x. eqb x i && F x) (λ x. eqb ((0 + x) % 256) i && F x) (λ x k. let d : (0 + x) % 256 ≡ x = omega arith in rw d)
    ∙ any_place n 0 i F h l
    ∙ ap (λ (k : ℕ). ltb k n && F k) e

pub prio_own : (vram : List ℕ) (names sx y n i : ℕ) → n ≤ 256 → i < n → prio_to vram names sx y 0 n i ≡ back_front vram names sx y i
unfolding prio_to
prio_own vram names sx y n i h l =
    let low : i < 256 = omega arith in
    any_cong n (λ x. eqb (cut_mark 0 x) i && back_front vram names sx y x) (λ x. eqb x i && back_front vram names sx y x)
    (λ x k. let b : x < 256 = omega arith in rw (← effective_mark x b))
    ∙ own_place n i (back_front vram names sx y) h low
    ∙ rw (lt-ltb i n l)

-- ---- the view's column and line of the map, and so its background and its priority mask
module _
    (vram reg : List ℕ) (names sx y last scroll line : ℕ) (low : at reg 8 < 256) (ne : names ≡ names_at (at reg)) (se : sx ≡ home_column reg line)
    (ye : y ≡ (line + scroll) % 224) (le : last ≡ home_last reg line y)
  where
    abbrev v : View
    v = home (at reg) scroll line

    home_x : (x : ℕ) → x < 256 → v.map_x x ≡ (sx + x) % 256
    unfolding home
    home_x x h = rw se (split (bit (at reg 0) 6 && ltb line 16) (λ e. rw e (omega arith)) (λ e. rw e (omega arith)))

    home_y : (x : ℕ) → v.map_y x ≡ cond (leb 192 x) last y
    unfolding home
    home_y x =
        split (leb 192 x) (λ e. rw (e, and-true (bit (at reg 0) 7), le, ye)) (λ e. rw (e, and-false (bit (at reg 0) 7)) (sym ye))

    pub home_back_at : (x : ℕ) → x < 256 → back_colour vram names sx (cond (leb 192 x) last y) x ≡ back (at vram) (at reg) v x
    unfolding back back_colour
    home_back_at x h = rw (home_x x h, home_y x, ne)

    front_own : (i : ℕ) → i < 256 → front (at vram) (at reg) v i ≡ map_front (at vram) (names_at (at reg)) (v.map_x i) (v.map_y i)
    unfolding front home
    front_own i h = own_place 256 i (λ x. map_front (at vram) (names_at (at reg)) (v.map_x x) (v.map_y x)) (omega arith) h ∙ rw (lt-ltb i 256 h)

    pub home_front_at : (i : ℕ) → i < 256 → back_front vram names sx (cond (leb 192 i) last y) i ≡ front (at vram) (at reg) v i
    unfolding back_front
    home_front_at i h = rw (front_own i h, home_x i h, home_y i, ne)
