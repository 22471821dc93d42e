-- The author's question, answered.
-- Assumes nothing.
use Rattle.std.specs.Prelude.{Some}
use mathlib.Core.Path.{◌≡◌, refl, sym, ◌∙◌, ap, subst}
use mathlib.Core.Logic.{◌↔◌, ◌⊎◌, inl, inr, ⊎_elim}
use mathlib.Core.List.{List}
use Prim.Native.Nat.{ℕ, zero, suc, ◌+◌, ◌*◌, ◌≤◌, ◌<◌}
use native.Mathlib.Nat.{add-zero, add-suc, add_comm}
use native.Mathlib.Omega.{arith}
use lib.Dec.{ltb}
use lib.ListN.{length, get_or, take, drop, length-drop}
use lib.Seq.{ext_get_or, get_or-take, get_or-drop, length-take-le}
use borrow.Author.Tests.{lt-ltb, le-ltb, ltb-true, ltb-false}
use Rattle.laws.specs.Lists.{at, row_of}
use Rattle.laws.specs.Paint.{byte_of_colour}
use Rattle.laws.proofs.Tests.{split}
use Rattle.picture.specs.declared.Screen.{Screen}
use Rattle.picture.specs.declared.Screen.TheVariants.{Home}
use Rattle.picture.specs.Picture.{Row}
use Rattle.picture.specs.Screen.{columns, rows, first_line, row_bytes}
use Rattle.picture.proofs.Laws.{length-row_bytes, pixel_byte_lem}
use Rattle.raster.specs.declared.Raster.{Raster}
use Rattle.raster.specs.declared.LineTable.{LineTable}
use Rattle.raster.specs.Raster.{pass_length, jump_to, advanced}
use Rattle.raster.proofs.Tables.{jump_back, pass_is}
use Rattle.points.specs.Points.{row_on}
use Rattle.points.proofs.Rows.{row_low, row_line}
use Rattle.passes.specs.Machine.{Machine, register}
use Rattle.passes.specs.Pass.{Run, watched, pass, through, ready, latched, answer, line_set, row_at_end, picture_at}
use Rattle.passes.specs.Chart.{comes_at, place_set}
use Rattle.passes.specs.Split.{Moment, NewAt, New, first_new, NewRows, Split, FirstAtHome, ColourSplit, pixel_at_end, four_bytes, OnlyColour, WhichPixels}
use Rattle.passes.specs.Split.{Twins, Changed}
use Rattle.passes.proofs.Counter.{line}
use Rattle.passes.proofs.Lines.{line_next}
use Rattle.passes.proofs.Lawful.{Lawful}
use Rattle.passes.proofs.Demand3.{table_at, line_row, line_of_lem, row_on_lem, still, raster_next, scroll_at, demand3}
use Rattle.passes.proofs.Chart.{order, own_place}

-- ---- the lines of a pass
module _ {M : Machine} (ok : Lawful M) {a : M.Area} (r : Run M a) where
  -- they go up from that of any step
  pub rising : (i k : ℕ) → line_set (watched r) i + k < jump_to → line_set (watched r) (i + k) ≡ line_set (watched r) i + k
  rising i zero h = rw (add-zero i, add-zero (line_set (watched r) i))
  rising i (suc k) h =
      rw (add-suc i k)
      (line_of_lem ok r (suc (i + k))
      ∙ line_next (M.raster (ready r (suc (i + k)))) (line_set (watched r) i + k) (still ok r (i + k) ∙ rising i k (omega arith)) (omega arith)
      ∙ sym (add-suc (line_set (watched r) i) k))

  row_set : (i y : ℕ) → (answer r i).row ≡ Some y → (line_set (watched r) i ≡ y + first_line (M.screen a)) × (y < rows (M.screen a))
  row_set i y e =
      let o = sym (row_on_lem ok r i) ∙ e in (
        line_of_lem ok r i ∙ row_line (M.screen a) (line (M.raster (ready r i))) y o ∙ add_comm (first_line (M.screen a)) y,
        row_low (M.screen a)
            (line (M.raster (ready r i))) y o,
      )

  pub set_row : (i y : ℕ) → y < rows (M.screen a) → line_set (watched r) i ≡ y + first_line (M.screen a) → (answer r i).row ≡ Some y
  set_row i y h e = row_on_lem ok r i ∙ line_row (M.screen a) (line (M.raster (ready r i))) y h (sym (line_of_lem ok r i) ∙ e)

-- ---- the pixels of a row
pub four_at_lem : (c i : ℕ) → i < 4 → get_or (four_bytes c) i 0 ≡ byte_of_colour c i
four_at_lem c zero h = refl
four_at_lem c (suc zero) h = refl
four_at_lem c (suc (suc zero)) h = refl
four_at_lem c (suc (suc (suc i))) h = let z : i ≡ 0 = omega arith in rw z

pixel : (p : Row) (colours : List ℕ) (w x : ℕ) → x < w → row_of 4 x (row_bytes colours w p) ≡ four_bytes (at colours (p.colour x))
unfolding row_of
pixel p colours w x h =
    let row = row_bytes colours w p in
    let n : length (take 4 (drop (4 * x) row)) ≡ 4 =
    length-take-le 4 (drop (4 * x) row) (simp (length-drop, length-row_bytes) (omega arith)) in
    ext_get_or 0 (take 4 (drop (4 * x) row)) (four_bytes (at colours (p.colour x))) n
    (λ i l.
    let l' : i < 4 = omega arith in
    get_or-take 4 (drop (4 * x) row) i 0 l' ∙ get_or-drop (4 * x) row i 0 ∙ pixel_byte_lem colours w p x i h l'
    ∙ sym (four_at_lem (at colours (p.colour x)) i l'))

-- ---- the new rows, in numbers
module _ (t : LineTable) (a : Screen) (once : first_line a + rows a ≤ jump_to) where
  -- a row has its line below L exactly where it is the first new one or a later one
  below_line : (L y : ℕ) → y < rows a → (first_new a L ≤ y) ↔ (L < y + first_line a)
  below_line L y h =
      split (ltb L (first_line a + rows a))
      (λ b. rw b (λ f. omega arith, λ f. omega arith))
      (λ b. rw b (λ f. absurd (omega arith), λ f. absurd (omega (arith, ltb-false L (first_line a + rows a) b))))

  module _ (s p y : ℕ) (h : y < rows a) where
    abbrev k : ℕ
    k = y + first_line a

    begun : s ≤ p → p < pass_length t → NewAt t a s p y ↔ ((first_new a p ≤ y) ⊎ (k < s))
    begun l q =
        rw (le-ltb p s l)
        (split (ltb k s)
        (λ b.
        let e : k < s = ltb-true k s b in
        rw b (λ _. inr e, λ _. omega arith))
        (λ b.
        let e : s ≤ k = ltb-false k s b in
        rw b (λ n. inl ((below_line p y h).1 (omega arith)), ⊎_elim (λ f. omega (arith, (below_line p y h).0 f)) (λ f. absurd (omega arith)))))

    round : p < s → s < pass_length t → NewAt t a s p y ↔ ((first_new a p ≤ y) × (k < s))
    round l q =
        rw (lt-ltb p s l)
        (split (ltb k s)
        (λ b.
        let e : k < s = ltb-true k s b in
        rw b (λ n. ((below_line p y h).1 (omega arith), e), λ f. omega (arith, (below_line p y h).0 f.0)))
        (λ b.
        let e : s ≤ k = ltb-false k s b in
        let short : k < pass_length t = omega (arith, pass_is t, jump_back t) in
        rw b (λ n. absurd (omega arith), λ f. absurd (omega (arith, f.1)))))

    from_top : s ≤ first_line a → s ≤ p → p < pass_length t → NewAt t a s p y ↔ (first_new a p ≤ y)
    from_top u l q =
        let b = begun l q in
        (λ n. ⊎_elim (λ f. f) (λ f. absurd (omega arith)) (b.0 n), λ f. b.1 (inl f))

  pub new_rows_lem : NewRows t a
  new_rows_lem =
      record {
        begun = λ s p y l q h. begun s p y h l q;
        round = λ s p y l q h. round s p y h l q;
        from_top = λ s p y u l q h. from_top s p y h u l q;
      }

-- ---- the rows before a moment of a pass, and those after it
module _ {M : Machine} (ok : Lawful M) {a : M.Area} (r : Run M a) {L : ℕ} (s : Moment (watched r) L)
    (once : first_line (M.screen a) + rows (M.screen a) ≤ jump_to) where
  -- the line of a row comes at the step that draws it
  at_step : (i y : ℕ) → i < pass (watched r) → (answer r i).row ≡ Some y → comes_at r.table (place_set (watched r) 0) (y + first_line (M.screen a))
      ≡ i
  at_step i y h e =
      let w = row_set ok r i y e in
      subst (λ (k : ℕ). comes_at r.table (place_set (watched r) 0) k ≡ i)
      (own_place ok r i (y + first_line (M.screen a)) (omega (arith, w.1)) w.0) (order ok r i h)

  -- a row that is drawn later than the step that sets L is new, and no other row
  pub drawn_later : (i y : ℕ) → i < pass (watched r) → (answer r i).row ≡ Some y → s.step < i → New s y
  drawn_later i y h e l = rw (order ok r s.step s.in_pass, at_step i y h e) l

  pub no_later : (i y : ℕ) → i < pass (watched r) → (answer r i).row ≡ Some y → (New s y → ⊥) → i ≤ s.step
  no_later i y h e f =
      split (ltb s.step i) (λ b. absurd (f (drawn_later i y h e (ltb-true s.step i b)))) (λ b. ltb-false s.step i b)

  pub later : (i y : ℕ) → i < pass (watched r) → (answer r i).row ≡ Some y → New s y → s.step < i
  later i y h e f = rw (order ok r s.step s.in_pass, at_step i y h e) at f

-- ---- the split
module _ {M : Machine} (ok : Lawful M) {a : M.Area} (r : Run M a) {L : ℕ} {old new : List ℕ} (s : Split (watched r) L old new)
    (once : first_line (M.screen a) + rows (M.screen a) ≤ jump_to) where
  -- row y by another palette
  by : (i y : ℕ) {p q : List ℕ} → p ≡ q
      → row_bytes (M.colours_of p) (columns (M.screen a)) (picture_at (watched r) i y) ≡ row_bytes (M.colours_of q) (columns (M.screen a))
      (picture_at (watched r) i y)
  by i y e = ap (λ (p : List ℕ). row_bytes (M.colours_of p) (columns (M.screen a)) (picture_at (watched r) i y)) e

  rows_old :
      (i y : ℕ) → i < pass (watched r) → (answer r i).row ≡ Some y → (New s.moment y → ⊥) →
      row_at_end (watched r) y ≡ row_bytes (M.colours_of old) (columns (M.screen a)) (picture_at (watched r) i y)
  rows_old i y h e l = (demand3 ok r once).row_bytes_lem i y h e ∙ by i y (s.until_then i (no_later ok r s.moment once i y h e l))

  rows_new :
      (i y : ℕ) → i < pass (watched r) → (answer r i).row ≡ Some y → New s.moment y →
      row_at_end (watched r) y ≡ row_bytes (M.colours_of new) (columns (M.screen a)) (picture_at (watched r) i y)
  rows_new i y h e l = (demand3 ok r once).row_bytes_lem i y h e ∙ by i y (s.from_then i (later ok r s.moment once i y h e l) h)

  -- row y is new, or it is not
  pub is_new_lem : {G : Type 0} (y : ℕ) → (New s.moment y → G) → ((New s.moment y → ⊥) → G) → G
  is_new_lem y f g =
      let u : ℕ = comes_at r.table (place_set (watched r) 0) (place_set (watched r) s.moment.step) in
      let v : ℕ = comes_at r.table (place_set (watched r) 0) (y + first_line (M.screen a)) in
      split (ltb u v) (λ b. f (ltb-true u v b)) (λ b. g (λ n. omega (arith, n, ltb-false u v b)))

  pub colour_split : ColourSplit s
  colour_split =
      record {
        reads = still ok r s.moment.step ∙ s.moment.sets;
        drew = row_on_lem ok r s.moment.step ∙ ap (row_on (M.screen a)) (sym (line_of_lem ok r s.moment.step) ∙ s.moment.sets);
        keeps = rows_old;
        changes = rows_new;
      }

  module _ (c : ℕ) (only : OnlyColour M c old new) where
    new_pixel :
        (i x y : ℕ) → i < pass (watched r) → (answer r i).row ≡ Some y → x < columns (M.screen a) → New s.moment y →
        pixel_at_end (watched r) x y ≡ four_bytes (at (M.colours_of new) ((picture_at (watched r) i y).colour x))
    new_pixel i x y h e w l = ap (row_of 4 x) (rows_new i y h e l) ∙ pixel (picture_at (watched r) i y) (M.colours_of new) (columns (M.screen a)) x w

    old_pixel :
        (i x y : ℕ) → i < pass (watched r) → (answer r i).row ≡ Some y → x < columns (M.screen a) → (New s.moment y → ⊥) →
        pixel_at_end (watched r) x y ≡ four_bytes (at (M.colours_of old) ((picture_at (watched r) i y).colour x))
    old_pixel i x y h e w l = ap (row_of 4 x) (rows_old i y h e l) ∙ pixel (picture_at (watched r) i y) (M.colours_of old) (columns (M.screen a)) x w

    pub which_pixels : WhichPixels s c
    which_pixels =
        record {
          these = λ i x y h e w l n. new_pixel i x y h e w l ∙ ap (λ (k : ℕ). four_bytes (at (M.colours_of new) k)) n;
          not_old = old_pixel;
          not_others = λ i x y h e w n.
              is_new_lem y (λ l. new_pixel i x y h e w l ∙ ap four_bytes (only ((picture_at (watched r) i y).colour x) n)) (old_pixel i x y h e w);
        }

-- ---- with the change and without it
module _ {M : Machine} (ok : Lawful M) {a : M.Area} (r r₀ : Run M a) (t : Twins (watched r) (watched r₀))
    (once : first_line (M.screen a) + rows (M.screen a) ≤ jump_to) where
  -- both devices have the same table, and so passes of one length
  one_table : r.table ≡ r₀.table
  one_table = sym (table_at ok r 0) ∙ ap (λ (x : Raster). x.table) t.start ∙ table_at ok r₀ 0

  in_both : (i : ℕ) → i < pass (watched r) → i < pass (watched r₀)
  in_both i h = subst (λ (u : LineTable). i < pass_length u) one_table h

  same_register : (i : ℕ) → i < pass (watched r) → register M (ready r i) ≡ register M (ready r₀ i)
  same_register i h = ap (λ (g : List ℕ). at g) (t.registers i h)

  same_raster : (i : ℕ) → i < pass (watched r) → M.raster (ready r i) ≡ M.raster (ready r₀ i)
  same_raster zero h = t.start
  same_raster (suc i) h =
      let h' : i < pass (watched r) = omega arith in
      raster_next ok r i ∙ rw (same_register i h', same_raster i h') (sym (raster_next ok r₀ i))

  same_row : (i : ℕ) → i < pass (watched r) → (answer r i).row ≡ (answer r₀ i).row
  same_row i h = row_on_lem ok r i ∙ ap (λ (x : Raster). row_on (M.screen a) (line x)) (same_raster i h) ∙ sym (row_on_lem ok r₀ i)

  same_scroll : (i : ℕ) → i < pass (watched r) → latched M r.table (through r i) ≡ latched M r₀.table (through r₀ i)
  same_scroll i h =
      sym (scroll_at ok r i)
      ∙ ap (λ (g : List ℕ). (advanced (at g) (M.raster (ready r i))).vertical_scroll) (t.registers i h)
      ∙ ap (λ (x : Raster). (advanced (register M (ready r₀ i)) x).vertical_scroll) (same_raster i h)
      ∙ scroll_at ok r₀ i

  same_picture : (i y : ℕ) → i < pass (watched r) → picture_at (watched r) i y ≡ picture_at (watched r₀) i y
  same_picture i y h = rw (same_scroll i h, t.registers i h, t.memory i h)

  module _ {L : ℕ} {old new : List ℕ} (s : Split (watched r) L old new) (kept : (i : ℕ) → i < pass (watched r) → M.palette (ready r₀ i) ≡ old) where
    unchanged :
        (i x y : ℕ) → i < pass (watched r) → (answer r i).row ≡ Some y → x < columns (M.screen a) →
        pixel_at_end (watched r₀) x y ≡ four_bytes (at (M.colours_of old) ((picture_at (watched r) i y).colour x))
    unchanged i x y h e w =
        let b = (demand3 ok r₀ once).row_bytes_lem i y (in_both i h) (sym (same_row i h) ∙ e) in
        ap (row_of 4 x)
        (b
        ∙ ap (λ (p : List ℕ). row_bytes (M.colours_of p) (columns (M.screen a)) (picture_at (watched r₀) i y)) (kept i h)
        ∙ ap (row_bytes (M.colours_of old) (columns (M.screen a))) (sym (same_picture i y h)))
        ∙ pixel (picture_at (watched r) i y) (M.colours_of old) (columns (M.screen a)) x w

    pub changed : (c : ℕ) → OnlyColour M c old new → Changed s (watched r₀) c
    changed c only =
        let p = which_pixels ok r s once c only in
        record {
          these = λ i x y h e w l n.
              (p.these i x y h e w l n, unchanged i x y h e w ∙ ap (λ (k : ℕ). four_bytes (at (M.colours_of old) k)) n);
          no_others = λ i x y h e w n.
              is_new_lem ok r s once y (λ l. p.not_others i x y h e w (n l)) (p.not_old i x y h e w) ∙ sym (unchanged i x y h e w);
        }

-- ---- at home
pub first_new_home : FirstAtHome
first_new_home =
    record {
      next_row = λ L h. rw (lt-ltb L 192 (omega arith)) (omega arith);
      none = λ L h. split (ltb L 192) (λ t. rw t (omega (arith, ltb-true L 192 t))) (λ t. rw t);
      from_0 = λ t L y l h.
          let b = (new_rows_lem t Home (omega arith)).from_top 0 L y (omega arith) (omega arith) l h in
          (λ n. (below L y h).0 (b.0 n), λ f. b.1 ((below L y h).1 f));
      first_pass = λ t L y o l h.
          let b = (new_rows_lem t Home (omega arith)).begun 1 L y o l h in (
            λ n. ⊎_elim (λ f. inl ((below L y h).0 f)) (λ f. inr (omega arith)) (b.0 n),
            λ f. b.1 (⊎_elim (λ g. inl ((below L y h).1 g)) (λ g. inr (omega arith)) f),
          );
    }
  where
    below : (L y : ℕ) → y < 192 → (first_new Home L ≤ y) ↔ (L < y)
    below L y h =
        split (ltb L 192) (λ t. rw t (λ f. omega arith, λ f. omega arith))
        (λ t. rw t (λ f. absurd (omega arith), λ f. absurd (omega (arith, ltb-false L 192 t))))
