-- Rows of a frame: a row that is put in is there, the others stay, and so does the length.
-- Assumes nothing.
use mathlib.Core.Path.{◌≡◌, refl, sym, ◌∙◌, ap}
use mathlib.Core.Logic.{◌≢◌}
use mathlib.Core.Bool.{Bool, true, false}
use mathlib.Core.List.{List, ◌++◌}
use Prim.Native.Nat.{ℕ, ◌+◌, ◌-◌, ◌*◌, ◌≤◌, ◌<◌}
use native.Mathlib.Nat.{mul-le-mul_left}
use native.Mathlib.Omega.{arith}
use lib.Dec.{ltb}
use lib.ListN.{length, take, drop, length-append, length-drop, take-append-drop}
use lib.Seq.{take_at, drop_at, take-append-le, drop-append-le, drop-append-add, drop-drop, length-take-le}
use borrow.Author.Tests.{ltb-true, ltb-false}
use Rattle.laws.specs.Lists.{row_of, with_row}

-- a row that lies in the first part of a list
early : (w z : ℕ) (a x : List ℕ) → w * z + w ≤ length a → row_of w z (a ++ x) ≡ row_of w z a
unfolding row_of
early w z a x h =
    rw (drop-append-le (w * z) a x (omega arith))
    (take-append-le w (drop (w * z) a) x (simp length-drop (omega arith)))

module _
    (w n y : ℕ) (bytes frame : List ℕ) (low : y < n) (size : length bytes ≡ w) (big : w * n ≤ length frame)
  where
    -- the rows before row y, and row y itself, lie in the frame
    room : w * y + w ≤ length frame
    room = omega (arith, mul-le-mul_left w low)

    head_length : length (take (w * y) frame) ≡ w * y
    head_length = length-take-le (w * y) frame (omega (arith, room))

    pub row_length : length (with_row w y bytes frame) ≡ length frame
    unfolding with_row
    row_length = simp (length-append, head_length, size, length-drop) (omega (arith, room))

    pub row_here : row_of w y (with_row w y bytes frame) ≡ bytes
    unfolding row_of with_row
    row_here =
        rw (drop_at (take (w * y) frame) (bytes ++ drop (w * y + w) frame) (w * y) head_length)
        (take_at bytes (drop (w * y + w) frame) w size)

    row_below : (z : ℕ) → z < y → row_of w z (with_row w y bytes frame) ≡ row_of w z frame
    unfolding with_row
    row_below z h =
        let fits : w * z + w ≤ length (take (w * y) frame) = omega (arith, head_length, mul-le-mul_left w h) in
        early w z (take (w * y) frame) (bytes ++ drop (w * y + w) frame) fits
        ∙ sym (early w z (take (w * y) frame) (drop (w * y) frame) fits)
        ∙ ap (row_of w z) (take-append-drop (w * y) frame)

    -- the list behind the row
    behind : (m : ℕ) → w * y + w ≤ m → drop m (with_row w y bytes frame) ≡ drop m frame
    unfolding with_row
    behind m h =
        let k : ℕ = m - (w * y + w) in
        let e : m ≡ length (take (w * y) frame) + (length bytes + k) = omega (arith, head_length) in
        let f : w * y + w + k ≡ m = omega arith in
        ap (λ (q : ℕ). drop q (take (w * y) frame ++ (bytes ++ drop (w * y + w) frame))) e
        ∙ drop-append-add (take (w * y) frame) (bytes ++ drop (w * y + w) frame) (length bytes + k)
        ∙ drop-append-add bytes (drop (w * y + w) frame) k
        ∙ drop-drop k (w * y + w) frame
        ∙ ap (λ (q : ℕ). drop q frame) f

    row_above : (z : ℕ) → y < z → row_of w z (with_row w y bytes frame) ≡ row_of w z frame
    unfolding row_of
    row_above z h = ap (take w) (behind (w * z) (omega (arith, mul-le-mul_left w h)))

    pub row_other : (z : ℕ) → z ≢ y → row_of w z (with_row w y bytes frame) ≡ row_of w z frame
    row_other z h = go (ltb z y) refl
      where
        go : (b : Bool) → ltb z y ≡ b → row_of w z (with_row w y bytes frame) ≡ row_of w z frame
        go true e = row_below z (ltb-true z y e)
        go false e = row_above z (omega (arith, ltb-false z y e))
