-- Where a step is accepted, and which bytes of a row buffer and of a frame it can change, over what its points read.
-- Assumes nothing.
use Rattle.std.specs.Prelude.{None, Option, Some, ℕ, Err}
use mathlib.Core.Path.{◌≡◌, refl, sym, ap, ◌∙◌}
use mathlib.Core.Logic.{◌≢◌}
use mathlib.Core.Bool.{not}
use mathlib.Core.List.{List}
use Prim.Native.Nat.{ℕ, ◌*◌, ◌≤◌}
use native.Mathlib.Omega.{arith}
use lib.ListN.{length, take, drop, length-append, length-drop}
use lib.Seq.{take_at, drop_at}
use borrow.Author.Tests.{eq-eqb, le-ltb, eqb-true, ltb-false, not-false}
use Rattle.laws.specs.Lists.{row_of}
use Rattle.laws.proofs.Frames.{row_length, row_here, row_other}
use Rattle.picture.specs.declared.Screen.{Screen}
use Rattle.picture.specs.Screen.{columns, rows, row_size, frame_size, row_bytes}
use Rattle.picture.proofs.Laws.{length-row_bytes, row_size_lem}
use Rattle.refusal.specs.declared.Refusal.TheVariants.{VramLength, PixelLength, FrameTooLong}
use Rattle.refusal.specs.Refusals.{whole, under}
use Rattle.refusal.proofs.Tables.{Passed, Refusing, under_either, refuses}
use Rattle.points.specs.Points.{Reading, coming_row, coming_picture, row_lines, frame_lines}
use Rattle.points.specs.Bytes.{row_with, frame_with, row_filled, frame_filled}
use Rattle.points.proofs.Rows.{row_low, frame-rows}

-- the tables of the two steps: where no line of them holds, and that each line refuses
module _ (a : Screen) (vram : List ℕ) (size : ℕ) where
  pub row_passes : length vram ≡ 16384 → row_size a ≤ size → Passed (row_lines a vram size)
  row_passes m h = (ap not (eq-eqb (length vram) 16384 m), (le-ltb size (row_size a) h, tt))

  pub row_fits : Passed (row_lines a vram size) → row_size a ≤ size
  row_fits p = ltb-false size (row_size a) p.1.0

  pub row_memory : Passed (row_lines a vram size) → length vram ≡ 16384
  row_memory p = eqb-true (length vram) 16384 (not-false (whole vram) p.0)

  pub row_refusing : Refusing (row_lines a vram size)
  row_refusing = (refuses (Err VramLength) (λ z. omega arith), (refuses (Err PixelLength) (λ z. omega arith), tt))

  pub frame_passes : length vram ≡ 16384 → size ≡ frame_size a → Passed (frame_lines a vram size)
  frame_passes m e =
      (ap not (eq-eqb (length vram) 16384 m), (le-ltb size (frame_size a) (omega (arith, e)), (le-ltb (frame_size a) size (omega (arith, e)), tt)))

  pub frame-fits : Passed (frame_lines a vram size) → size ≡ frame_size a
  frame-fits p = omega (arith, ltb-false size (frame_size a) p.1.0, ltb-false (frame_size a) size p.1.1.0)

  pub frame_memory : Passed (frame_lines a vram size) → length vram ≡ 16384
  frame_memory p = eqb-true (length vram) 16384 (not-false (whole vram) p.0)

  pub frame_refusing : Refusing (frame_lines a vram size)
  frame_refusing =
      (refuses (Err VramLength) (λ z. omega arith), (refuses (Err PixelLength) (λ z. omega arith), (refuses (Err FrameTooLong) (λ z. omega arith), tt)))

-- ---- a row buffer and a frame, over what the points read
module _ (a : Screen) (vram : List ℕ) (k : Reading) where
  -- the bytes of row y, as this step draws it
  abbrev pub coming_bytes : ℕ → List ℕ
  coming_bytes y = row_bytes k.colours (columns a) (coming_picture a vram k y)

  own : (y : ℕ) → length (coming_bytes y) ≡ row_size a
  own y = length-row_bytes k.colours (columns a) (coming_picture a vram k y) ∙ row_size_lem a

  -- the buffer with this row, and the buffer that a step leaves
  module _ (b : List ℕ) where
    abbrev row_buffer : Option ℕ → List ℕ
    row_buffer r = row_with r a k.colours (coming_picture a vram k) b

    abbrev pub row_left : List ℕ
    row_left = under (row_lines a vram (length b)) (λ r. b) (row_filled a vram k b)

    -- what holds of the buffer as it was, and of the one with the row in it, holds of the one that is left
    row_left_lem : (P : List ℕ → Type 0) → P b → (row_size a ≤ length b → P (row_filled a vram k b)) → P row_left
    row_left_lem P f g = under_either P (row_lines a vram (length b)) (λ r. b) (row_filled a vram k b) (λ r. f) (λ p. g (row_fits a vram (length b) p))

    length-by : (r : Option ℕ) → row_size a ≤ length b → length (row_buffer r) ≡ length b
    unfolding row_with
    length-by None h = refl
    length-by (Some y) h = simp (length-append, own y, length-drop) (omega arith)

    past_by : (r : Option ℕ) → drop (row_size a) (row_buffer r) ≡ drop (row_size a) b
    unfolding row_with
    past_by None = refl
    past_by (Some y) = drop_at (coming_bytes y) (drop (row_size a) b) (row_size a) (own y)

    pub row_points_length : length row_left ≡ length b
    row_points_length = row_left_lem (λ l. length l ≡ length b) refl (length-by (coming_row a k))

    -- bytes past the row never change
    pub row_points_past : drop (row_size a) row_left ≡ drop (row_size a) b
    row_points_past = row_left_lem (λ l. drop (row_size a) l ≡ drop (row_size a) b) refl (λ h. past_by (coming_row a k))

    pub row_points_none : coming_row a k ≡ None → row_left ≡ b
    unfolding row_with
    row_points_none e = row_left_lem (λ l. l ≡ b) refl (λ h. rw e)

    pub row_points_here : (y : ℕ) → length vram ≡ 16384 → row_size a ≤ length b → coming_row a k ≡ Some y → take (row_size a) row_left ≡ coming_bytes y
    unfolding row_with
    row_points_here y m h e =
        rw (eq-eqb (length vram) 16384 m, le-ltb (length b) (row_size a) h, e) (take_at (coming_bytes y) (drop (row_size a) b) (row_size a) (own y))

  -- the same of a frame
  module _ (f : List ℕ) where
    abbrev on_frame : Option ℕ → List ℕ
    on_frame r = frame_with r a k.colours (coming_picture a vram k) f

    abbrev pub frame_left : List ℕ
    frame_left = under (frame_lines a vram (length f)) (λ r. f) (frame_filled a vram k f)

    frame_left_lem : (P : List ℕ → Type 0) → P f → (row_size a * rows a ≤ length f → P (frame_filled a vram k f)) → P frame_left
    frame_left_lem P q g =
        under_either P (frame_lines a vram (length f)) (λ r. f) (frame_filled a vram k f) (λ r. q)
        (λ p. g (rw (← frame-rows a) (omega (arith, frame-fits a vram (length f) p))))

    frame-length-by : (r : Option ℕ) → coming_row a k ≡ r → row_size a * rows a ≤ length f → length (on_frame r) ≡ length f
    unfolding frame_with
    frame-length-by None e h = refl
    frame-length-by (Some y) e h = row_length (row_size a) (rows a) y (coming_bytes y) f (row_low a _ y e) (own y) h

    frame_other_by : (z : ℕ) (r : Option ℕ) → coming_row a k ≡ r → r ≢ Some z → row_size a * rows a ≤ length f → row_of (row_size a) z (on_frame r) ≡
        row_of (row_size a) z f
    unfolding frame_with
    frame_other_by z None e n h = refl
    frame_other_by z (Some y) e n h =
        let o : z ≢ y = λ q. n (ap Some (sym q)) in row_other (row_size a) (rows a) y (coming_bytes y) f (row_low a _ y e) (own y) h z o

    pub frame_points_length : length frame_left ≡ length f
    frame_points_length = frame_left_lem (λ l. length l ≡ length f) refl (frame-length-by (coming_row a k) refl)

    -- no row changes but the one that is drawn
    pub frame_points_other : (z : ℕ) → coming_row a k ≢ Some z → row_of (row_size a) z frame_left ≡ row_of (row_size a) z f
    frame_points_other z n = frame_left_lem (λ l. row_of (row_size a) z l ≡ row_of (row_size a) z f) refl (frame_other_by z (coming_row a k) refl n)

    pub frame_points_none : coming_row a k ≡ None → frame_left ≡ f
    unfolding frame_with
    frame_points_none e = frame_left_lem (λ l. l ≡ f) refl (λ h. rw e)

    pub frame_points_here : (y : ℕ) → length vram ≡ 16384 → length f ≡ frame_size a → coming_row a k ≡ Some y → row_of (row_size a) y frame_left ≡
        coming_bytes y
    unfolding frame_with
    frame_points_here y m h e =
        let low : frame_size a ≤ length f = omega arith in
        let high : length f ≤ frame_size a = omega arith in
        rw (eq-eqb (length vram) 16384 m, le-ltb (length f) (frame_size a) low, le-ltb (frame_size a) (length f) high, e)
        (row_here (row_size a) (rows a) y (coming_bytes y) f (row_low a _ y e) (own y) (rw (← frame-rows a) low))
