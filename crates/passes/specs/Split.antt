-- R13.7, THE AUTHOR'S QUESTION: which pixels change where a colour changes while the counter reads some line?
-- Assumes nothing.
use Rattle.std.specs.Prelude.{◌≡◌, ◌↔◌, ◌≢◌, ◌⊎◌, cond, List, [], ◌∷◌, ℕ, suc, ◌+◌, ◌-◌, ◌≤◌, ◌<◌, ltb, Some}
use Rattle.laws.specs.Lists.{at, row_of}
use Rattle.laws.specs.Paint.{byte_of_colour}
use Rattle.picture.specs.declared.Screen.{Screen}
use Rattle.picture.specs.declared.Screen.TheVariants.{Home}
use Rattle.picture.specs.Screen.{columns, rows, first_line, row_bytes}
use Rattle.raster.specs.declared.LineTable.{LineTable}
use Rattle.raster.specs.Raster.{pass_length}
use Rattle.points.specs.Points.{row_on}
use Rattle.passes.specs.Machine.{Machine, line_of}
use Rattle.passes.specs.Pass.{Watched, pass, line_set, row_at_end, picture_at}
use Rattle.passes.specs.Chart.{comes_at, place_set}

-- A moment of a pass: the counter reads L, from the step that sets it until the next. The pass begins wherever it begins, and L is any line.
pub record Moment {M : Machine} {a : M.Area} (r : Watched M a) (L : ℕ) : Type 0 where
  -- the step that sets line L
  pub step : ℕ
  pub in_pass : step < pass r
  pub sets : line_set r step ≡ L

-- R13.9: row y is new where its line comes after the moment: in a pass by table t that begins at place s, of a moment at place p. (The lines of the rows
-- are below D5, and so their own places.)
abbrev pub NewAt : LineTable → Screen → (s p y : ℕ) → Type 0
NewAt t a s p y = comes_at t s p < comes_at t s (y + first_line a)

abbrev pub New : {M : Machine} {a : M.Area} {r : Watched M a} {L : ℕ} → Moment r L → ℕ → Type 0
New {M} {a} {r} m y = NewAt r.table (M.screen a) (place_set r 0) (place_set r m.step) y

-- ---- in rows
-- The first new row below the line of the moment: row 0 for a line before the first row's, row L - 23 for the line of a row, and from the last row's line on
-- none (144, which is no row).
abbrev pub first_new : Screen → ℕ → ℕ
first_new a L = cond (ltb L (first_line a + rows a)) (L + 1 - first_line a) (rows a)

pub record NewRows (t : LineTable) (a : Screen) : Type 0 where
  -- a pass that begins no later than the moment: the rows from the first new one on, and those before it whose line comes again, the ones above the line
  -- that the pass began with
  pub begun : (s p y : ℕ) → s ≤ p → p < pass_length t → y < rows a → NewAt t a s p y ↔ ((first_new a p ≤ y) ⊎ (y + first_line a < s))
  -- one that comes to the moment once the counter has been at 0 again: the rows from the first new one on whose line is before the one that it began with
  pub round : (s p y : ℕ) → p < s → s < pass_length t → y < rows a → NewAt t a s p y ↔ ((first_new a p ≤ y) × (y + first_line a < s))
  -- so, of one that begins no later than the first row and than the moment: the rows from the first new one on
  pub from_top : (s p y : ℕ) → s ≤ first_line a → s ≤ p → p < pass_length t → y < rows a → NewAt t a s p y ↔ (first_new a p ≤ y)

-- At home, where row y is line y's: row L + 1 for a line below 191, and from there on none (192, which is no row).
pub record FirstAtHome : Type 0 where
  pub next_row : (L : ℕ) → L < 191 → first_new Home L ≡ L + 1
  pub none : (L : ℕ) → 191 ≤ L → first_new Home L ≡ 192
  -- a pass that begins at line 0 changes the rows below line L; the first one of a fresh device begins at line 1 and draws row 0 last, so that it is new too
  pub from_0 : (t : LineTable) (L y : ℕ) → L < pass_length t → y < 192 → NewAt t Home 0 L y ↔ (L < y)
  pub first_pass : (t : LineTable) (L y : ℕ) → 1 ≤ L → L < pass_length t → y < 192 → NewAt t Home 1 L y ↔ ((L < y) ⊎ (y ≡ 0))

-- ---- the change
-- The palette of a pass changes once, at such a moment; all else goes as it goes.
pub record Split {M : Machine} {a : M.Area} (r : Watched M a) (L : ℕ) (old new : List ℕ) : Type 0 where
  pub moment : Moment r L
  -- the palette at each step of the pass
  pub until_then : (i : ℕ) → i ≤ moment.step → M.palette (r.ready i) ≡ old
  pub from_then : (i : ℕ) → moment.step < i → i < pass r → M.palette (r.ready i) ≡ new

pub record ColourSplit {M : Machine} {a : M.Area} {r : Watched M a} {L : ℕ} {old new : List ℕ} (s : Split r L old new) : Type 0 where
  -- after that step and until the next the counter reads L
  pub reads : line_of M (r.ready (suc s.moment.step)) ≡ L
  -- the step that set it has drawn the row of line L, if it has one: at line 90 row 66
  pub drew : (r.answer s.moment.step).row ≡ row_on (M.screen a) L
  -- the old colour stays in each row y that is not new, drawn at its own step i
  pub keeps :
      (i y : ℕ) → i < pass r → (r.answer i).row ≡ Some y → (New s.moment y → ⊥) →
      row_at_end r y ≡ row_bytes (M.colours_of old) (columns (M.screen a)) (picture_at r i y)
  -- each new row has the new one
  pub changes :
      (i y : ℕ) → i < pass r → (r.answer i).row ≡ Some y → New s.moment y →
      row_at_end r y ≡ row_bytes (M.colours_of new) (columns (M.screen a)) (picture_at r i y)

-- ---- pixel by pixel
-- the four bytes of pixel x of row y at the end of the pass
abbrev pub pixel_at_end : {M : Machine} {a : M.Area} → Watched M a → (x y : ℕ) → List ℕ
pixel_at_end r x y = row_of 4 x (row_at_end r y)

abbrev pub four_bytes : ℕ → List ℕ
four_bytes c = byte_of_colour c 0 ∷ byte_of_colour c 1 ∷ byte_of_colour c 2 ∷ byte_of_colour c 3 ∷ []

-- no colour but c differs from one palette to the other
abbrev pub OnlyColour : Machine → ℕ → List ℕ → List ℕ → Type 0
OnlyColour M c old new = (n : ℕ) → n ≢ c → at (M.colours_of new) n ≡ at (M.colours_of old) n

-- Where only colour c changes. Pixel x of row y, drawn at step i, has the colour number `(picture_at r i y).colour x`.
pub record WhichPixels {M : Machine} {a : M.Area} {r : Watched M a} {L : ℕ} {old new : List ℕ} (s : Split r L old new) (c : ℕ) : Type 0 where
  -- those of number c in new rows show the new colour
  pub these :
      (i x y : ℕ) → i < pass r → (r.answer i).row ≡ Some y → x < columns (M.screen a) → New s.moment y → (picture_at r i y).colour x ≡ c →
      pixel_at_end r x y ≡ four_bytes (at (M.colours_of new) c)
  -- those in other rows, and those of any other number, show what they show with the old palette
  pub not_old :
      (i x y : ℕ) → i < pass r → (r.answer i).row ≡ Some y → x < columns (M.screen a) → (New s.moment y → ⊥) →
      pixel_at_end r x y ≡ four_bytes (at (M.colours_of old) ((picture_at r i y).colour x))
  pub not_others :
      (i x y : ℕ) → i < pass r → (r.answer i).row ≡ Some y → x < columns (M.screen a) → (picture_at r i y).colour x ≢ c →
      pixel_at_end r x y ≡ four_bytes (at (M.colours_of old) ((picture_at r i y).colour x))

-- ---- with the change and without it
-- Two runs that differ in palettes alone: one start, and at each step of the pass the same video memory and registers.
pub record Twins {M : Machine} {a : M.Area} (r r₀ : Watched M a) : Type 0 where
  pub start : M.raster (r.ready 0) ≡ M.raster (r₀.ready 0)
  pub memory : (i : ℕ) → i < pass r → r.vram i ≡ r₀.vram i
  pub registers : (i : ℕ) → i < pass r → M.registers (r.ready i) ≡ M.registers (r₀.ready i)

-- The pixels that change: those of number c in new rows, and no others.
pub record Changed {M : Machine} {a : M.Area} {r : Watched M a} {L : ℕ} {old new : List ℕ} (s : Split r L old new) (r₀ : Watched M a) (c : ℕ) : Type 0 where
  pub these :
      (i x y : ℕ) → i < pass r → (r.answer i).row ≡ Some y → x < columns (M.screen a) → New s.moment y → (picture_at r i y).colour x ≡ c →
      (pixel_at_end r x y ≡ four_bytes (at (M.colours_of new) c)) × (pixel_at_end r₀ x y ≡ four_bytes (at (M.colours_of old) c))
  pub no_others :
      (i x y : ℕ) → i < pass r → (r.answer i).row ≡ Some y → x < columns (M.screen a) →
      (New s.moment y → (picture_at r i y).colour x ≢ c) → pixel_at_end r x y ≡ pixel_at_end r₀ x y
