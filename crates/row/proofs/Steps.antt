-- The five points of a step, from what it is to do: on a row buffer, and on a frame by the part that is lent.
-- Assumes nothing.
use Rattle.std.specs.Prelude.{None, Option, Some, ℕ}
use mathlib.Core.Path.{◌≡◌, refl, sym, ap, ◌∙◌}
use mathlib.Core.List.{List, ◌++◌, append-nil}
use Prim.Native.Nat.{ℕ, ◌+◌, ◌-◌, ◌*◌, ◌<◌, ◌≤◌}
use native.Mathlib.Nat.{mul_comm}
use native.Mathlib.Omega.{arith}
use borrow.Rule.Slice.PartMut.{mid_of, post_of, put_mid, mid_len, Post-is}
use lib.ListN.{length, drop, drop_of_length-le}
use Rattle.laws.specs.Lists.{with_row}
use Rattle.picture.specs.declared.Screen.{Screen}
use Rattle.picture.specs.Picture.{Row}
use Rattle.picture.specs.Screen.{columns, rows, row_size, frame_size, row_bytes}
use Rattle.raster.specs.declared.Raster.{Raster}
use Rattle.refusal.specs.Refusals.{Line, under}
use Rattle.refusal.proofs.Tables.{Passed, under_either}
use Rattle.points.specs.declared.Due.{Due}
use Rattle.points.specs.declared.Points.{Points}
use Rattle.points.specs.Points.{Reading, bits_of, points_of, row_lines, frame_lines, points_with}
use Rattle.points.specs.Bytes.{row_with, frame_with, layers_by, also_layers}
use Rattle.points.specs.Due.{refused_due, taken_due, due_of, Fits, due_picture, due_layers, points_by}
use Rattle.points.proofs.Rows.{row_low, row_end}
use Rattle.points.proofs.Laws.{row_fits, row_memory, frame-fits, frame_memory}
use Rattle.points.proofs.Order.{due_map}

-- ---- drawing: the row's bytes in a frame, of which the part from s to below t is lent
module _ (a : Screen) (colours : List ℕ) (picture : ℕ → Row) (b : List ℕ) {row : Option ℕ} where
  pub framed :
      (y : ℕ) {ys : List ℕ} → row ≡ Some y → y < rows a → frame_size a ≤ length b
      → ys ≡ row_bytes colours (columns a) (picture y) ++ drop (row_size a) (mid_of (y * row_size a) (y * row_size a + row_size a - y * row_size a) b)
      → put_mid (y * row_size a) (y * row_size a + row_size a - y * row_size a) b ys ≡ frame_with row a colours picture b
  unfolding frame_with with_row
  framed y {ys} e low long eb =
      let end = row_end a y low in
      let s : ℕ = y * row_size a in
      let t : ℕ = y * row_size a + row_size a in
      let n : length (mid_of s (t - s) b) ≡ t - s = mid_len s t b (omega (arith, end)) in
      let k : length (mid_of s (t - s) b) ≤ row_size a = omega arith in
      let q : ys ≡ row_bytes colours (columns a) (picture y) = eb ∙ rw (drop_of_length-le (mid_of s (t - s) b) k)
      (append-nil (row_bytes colours (columns a) (picture y))) in
      let z : post_of s (t - s) b ≡ drop t b = Post-is s t b (omega arith) in
      rw (e, q, z, mul_comm (row_size a) y)

-- a row that is due can be drawn
module _ (s : Screen) (reg : List ℕ) (raster : Raster) (vram : List ℕ) (size : ℕ) where
  due_fits : (need : ℕ) (ls : List Line) → (Passed ls → (length vram ≡ 16384) × (need ≤ size)) → Fits s vram need size (due_of ls s reg raster).row
  due_fits need ls f =
      under_either (λ (d : Due). Fits s vram need size d.row) ls (λ r. refused_due r raster) (taken_due s reg raster)
      (λ r y e. absurd (let z : ◌≡◌ {A = ℕ} 0 1 = cc in omega arith))
      (λ p y e. ((f p).0, ((f p).1, row_low s _ y e)))

  row_both : Passed (row_lines s vram size) → (length vram ≡ 16384) × (row_size s ≤ size)
  row_both p = (row_memory s vram size p, row_fits s vram size p)

  frame_both : Passed (frame_lines s vram size) → (length vram ≡ 16384) × (frame_size s ≤ size)
  frame_both p = (frame_memory s vram size p, omega (arith, frame-fits s vram size p))

  module _ {d : Due} where
    pub row_due_fits : d ≡ due_of (row_lines s vram size) s reg raster → Fits s vram (row_size s) size d.row
    row_due_fits e = rw e (due_fits (row_size s) (row_lines s vram size) row_both)

    pub frame_due_fits : d ≡ due_of (frame_lines s vram size) s reg raster → Fits s vram (frame_size s) size d.row
    frame_due_fits e = rw e (due_fits (frame_size s) (frame_lines s vram size) frame_both)

    module _ (least n : ℕ) where
      pub row_layers_fit : d ≡ due_of (also_layers least n (row_lines s vram size)) s reg raster → Fits s vram (row_size s) size d.row
      row_layers_fit e = rw e
          (due_fits (row_size s) (also_layers least n (row_lines s vram size)) (λ p. row_both (p.0, (p.1.0, tt))))

      pub frame-layers_fit : d ≡ due_of (also_layers least n (frame_lines s vram size)) s reg raster → Fits s vram (frame_size s) size d.row
      frame-layers_fit e = rw e
          (due_fits (frame_size s) (also_layers least n (frame_lines s vram size)) (λ p. frame_both (p.0, (p.1.0, (p.1.1.0, tt)))))

-- ---- the points of what is due, under any lines
module _ (ls : List Line) (s : Screen) (vram : List ℕ) (k : Reading) {d : Due} (ed : d ≡ due_of ls s k.reg k.raster) where
  -- the row of the answer is the one that was due
  pub due_row : {p : Points} → p ≡ points_by k.reg k.status (bits_of d.row (due_picture s vram k.reg d)) d → p.row ≡ d.row
  unfolding points_by
  due_row e = ap (λ (p : Points). p.row) e ∙ rw ed
      (due_map s k.reg k.raster (λ (x : Due). (points_by k.reg k.status (bits_of x.row (due_picture s vram k.reg x)) x).row) ls
      ∙ sym (due_map s k.reg k.raster (λ (x : Due). x.row) ls))

  pub answered : {p : Points} → p ≡ points_by k.reg k.status (bits_of d.row (due_picture s vram k.reg d)) d → p ≡ points_with ls s vram k
  unfolding points_by points_of points_with bits_of
  answered e = e ∙ rw ed
      (due_map s k.reg k.raster (λ (x : Due). points_by k.reg k.status (bits_of x.row (due_picture s vram k.reg x)) x) ls)

  -- the same by the status bits that the drawing answers
  pub finished : {p : Points} {bits : ℕ} → p ≡ points_by k.reg k.status bits d → bits ≡ bits_of d.row (due_picture s vram k.reg d)
      → p ≡ points_with ls s vram k
  finished e b = answered (e ∙ ap (λ (x : ℕ). points_by k.reg k.status x d) b)

  pub owned : (layers : List ℕ) {layers' : List ℕ} → layers' ≡ layers_by d.row s (due_layers s vram k.reg d) layers
      → layers' ≡ under ls (λ r. layers) (layers_by (taken_due s k.reg k.raster).row s
      (due_layers s vram k.reg (taken_due s k.reg k.raster)) layers)
  unfolding layers_by
  owned layers e = e ∙ rw ed (due_map s k.reg k.raster (λ (x : Due). layers_by x.row s (due_layers s vram k.reg x) layers) ls)

  -- the colours that it is handed are those of the machine, if a row is drawn; where none is, nothing depends on them
  module _ {colours : List ℕ} (ec : (y : ℕ) → d.row ≡ Some y → colours ≡ k.colours) (b : List ℕ) where
    row_recoloured : (r : Option ℕ) (picture : ℕ → Row) → ((y : ℕ) → r ≡ Some y → colours ≡ k.colours) → row_with r s colours picture b ≡ row_with r s
        k.colours picture b
    unfolding row_with
    row_recoloured None picture h = refl
    row_recoloured (Some y) picture h = rw (h y refl)

    frame-recoloured : (r : Option ℕ) (picture : ℕ → Row) → ((y : ℕ) → r ≡ Some y → colours ≡ k.colours) → frame_with r s colours picture b ≡
        frame_with r s k.colours picture b
    unfolding frame_with
    frame-recoloured None picture h = refl
    frame-recoloured (Some y) picture h = rw (h y refl)

    pub row_filled_lem : {b' : List ℕ} → b' ≡ row_with d.row s colours (due_picture s vram k.reg d) b
        → b' ≡ under ls (λ r. b) (row_with (taken_due s k.reg k.raster).row s k.colours
        (due_picture s vram k.reg (taken_due s k.reg k.raster)) b)
    unfolding row_with
    row_filled_lem e = e ∙ row_recoloured d.row (due_picture s vram k.reg d) ec ∙ rw ed
        (due_map s k.reg k.raster (λ (x : Due). row_with x.row s k.colours (due_picture s vram k.reg x) b) ls)

    pub frame-filled : {b' : List ℕ} → b' ≡ frame_with d.row s colours (due_picture s vram k.reg d) b
        → b' ≡ under ls (λ r. b) (frame_with (taken_due s k.reg k.raster).row s k.colours
        (due_picture s vram k.reg (taken_due s k.reg k.raster)) b)
    unfolding frame_with
    frame-filled e = e ∙ frame-recoloured d.row (due_picture s vram k.reg d) ec ∙ rw ed
        (due_map s k.reg k.raster (λ (x : Due). frame_with x.row s k.colours (due_picture s vram k.reg x) b) ls)
