-- The view of a frame's row.
-- Assumes nothing.
use mathlib.Core.Path.{◌≡◌, sym, ◌∙◌}
use mathlib.Core.Bool.{true, not, ◌||◌}
use mathlib.Core.List.{List, []}
use Prim.Native.Nat.{ℕ, ◌+◌, ◌-◌, ◌*◌, ◌<◌, ◌≤◌}
use native.Mathlib.Nat.{mul_comm}
use native.Mathlib.Omega.{arith}
use borrow.Author.Tests.{leb-true, leb-false, eqb-false, lt-ltb, le-ltb, ltb-false}
use lib.Dec.{leb, ltb, eqb}
use lib.ListN.{length, take, drop}
use Rattle.laws.specs.Lists.{row_of}
use Rattle.laws.proofs.Tests.{split, clash}
use Rattle.picture.specs.declared.Screen.{Screen}
use Rattle.picture.specs.Screen.{rows, row_size, frame_size}
use Rattle.look.specs.View.{screen_row}
use Rattle.points.proofs.Sizes.{frame_is}

module _ (a : Screen) {n w : ℕ} (en : n ≡ rows a) (ew : w ≡ row_size a) (f : List ℕ) (y : ℕ) where
  -- of a row that the screen does not have, and of a frame of another size, the view is empty
  pub none : (leb n y || not (eqb (length f) (n * w))) ≡ true → [] ≡ screen_row f a y
  unfolding screen_row
  none t =
      split (leb n y) (λ u. rw (le-ltb y (rows a) (omega (arith, leb-true n y u))))
      (λ u.
      let h = lt-ltb y (rows a) (omega (arith, leb-false n y u)) in
      split (eqb (length f) (n * w)) (λ k. clash (sym (rw (u, k) at t)))
      (λ k.
      split (ltb (length f) (frame_size a)) (λ l. rw (h, l))
      (λ l.
      let long : frame_size a < length f = omega (arith, frame_is a en ew, eqb-false (length f) (n * w) k, ltb-false (length f) (frame_size a) l) in
      rw (h, l, lt-ltb (frame_size a) (length f) long))))

  -- of a row on the screen, in a frame of its size, the view is the row's bytes
  pub seen : y < n → length f ≡ n * w → take (y * w + w - y * w) (drop (y * w) f) ≡ screen_row f a y
  unfolding screen_row row_of
  seen here whole =
      let z : y * row_size a + row_size a - y * row_size a ≡ row_size a = omega arith in
      let all : length f ≡ frame_size a = whole ∙ frame_is a en ew in
      let low : frame_size a ≤ length f = omega (arith, all) in
      let high : length f ≤ frame_size a = omega (arith, all) in
      let inside : y < rows a = omega (arith, en) in
      rw (ew, lt-ltb y (rows a) inside, le-ltb (length f) (frame_size a) low, le-ltb (frame_size a) (length f) high, z, mul_comm (row_size a) y)
