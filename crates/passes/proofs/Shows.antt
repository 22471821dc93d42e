-- When a write shows, proved: of any area whose lines end where the jump ends.
-- Assumes nothing.
use mathlib.Core.Path.{◌≡◌, sym, ◌∙◌, ap, subst}
use mathlib.Core.Logic.{◌≢◌}
use mathlib.Core.Bool.{false, or-true}
use Prim.Native.Nat.{ℕ, zero, suc, ◌+◌, ◌-◌, ◌≤◌, ◌<◌}
use native.Mathlib.Nat.{add-zero, add-suc}
use native.Mathlib.Omega.{arith}
use lib.Dec.{ltb}
use borrow.Author.Tests.{eq-eqb, ne_eqb, le-ltb, lt-ltb, eqb-true}
use Rattle.laws.proofs.Tests.{split}
use Rattle.picture.specs.Screen.{columns, rows, first_line, row_bytes}
use Rattle.raster.specs.declared.Raster.{Raster}
use Rattle.raster.specs.declared.LineTable.{LineTable}
use Rattle.raster.specs.Raster.{up, jumps, starts, jump_line, jump_to, pass_length, advanced, counted, ticked}
use Rattle.raster.proofs.Tables.{jump_back}
use Rattle.points.specs.Points.{row_on}
use Rattle.passes.specs.Machine.{Machine, register}
use Rattle.passes.specs.Pass.{Run, watched, pass, through, ready, latched, answer, line_set, row_at_end, picture_at}
use Rattle.passes.specs.Split.{Moment, New}
use Rattle.passes.specs.Shows.{SameUntil, WriteShows, CountWaits}
use Rattle.passes.proofs.Counter.{line}
use Rattle.passes.proofs.Lines.{starts_at}
use Rattle.passes.proofs.Lawful.{Lawful}
use Rattle.passes.proofs.Demand3.{line_of_lem, row_on_lem, raster_next, scroll_at, demand3}
use Rattle.passes.proofs.Split.{no_later, later}

-- ---- two runs that are one so far
module _ {M : Machine} (ok : Lawful M) {a : M.Area} (r r₀ : Run M a) (s : ℕ) (same : SameUntil (watched r) (watched r₀) s) where
  in_both : (i : ℕ) → i < pass (watched r) → i < pass (watched r₀)
  in_both i h = subst (λ (u : LineTable). i < pass_length u) same.table h

  same_row : (i : ℕ) → i ≤ s → (answer r i).row ≡ (answer r₀ i).row
  same_row i l = row_on_lem ok r i ∙ ap (λ (d : M.Device). row_on (M.screen a) (line (M.raster d))) (same.device i l) ∙ sym (row_on_lem ok r₀ i)

  same_scroll : (i : ℕ) → i ≤ s → latched M r.table (through r i) ≡ latched M r₀.table (through r₀ i)
  same_scroll i l =
      sym (scroll_at ok r i) ∙ ap (λ (d : M.Device). (advanced (register M d) (M.raster d)).vertical_scroll) (same.device i l) ∙ scroll_at ok r₀ i

  same_picture : (i y : ℕ) → i ≤ s → picture_at (watched r) i y ≡ picture_at (watched r₀) i y
  same_picture i y l = rw (same_scroll i l, same.device i l, same.memory i l)

-- ---- the scroll
-- a step that does not set line 0 starts no pass, and leaves the scroll; one that does takes register 9
no_start : (x : Raster) → line x ≢ 0 → starts x ≡ false
unfolding starts jumps
no_start x n =
    split (starts x)
    (λ t.
    let z : up x ≡ 0 = eqb-true (up x) 0 t in
    absurd (n (rw (ne_eqb (up x) (jump_line x.table) (λ f. omega (arith, jump_back x.table))) z)))
    (λ t. t)

module _ {M : Machine} (ok : Lawful M) {a : M.Area} (r : Run M a) where
  scroll_next : (i : ℕ) → line_set (watched r) (suc i) ≢ 0 → latched M r.table (through r (suc i)) ≡ latched M r.table (through r i)
  unfolding advanced ticked counted
  scroll_next i n =
      sym (scroll_at ok r (suc i))
      ∙ rw (no_start (M.raster (ready r (suc i))) (λ z. n (line_of_lem ok r (suc i) ∙ z)))
      (ap (λ (x : Raster). x.vertical_scroll) (raster_next ok r i) ∙ scroll_at ok r i)

  scroll_on : (s n : ℕ) → ((j : ℕ) → s < j → j ≤ s + n → line_set (watched r) j ≢ 0) → latched M r.table (through r (s + n)) ≡ latched M r.table
      (through r s)
  scroll_on s zero h = rw (add-zero s)
  scroll_on s (suc n) h =
      rw (add-suc s n)
      (scroll_next (s + n) (h (suc (s + n)) (omega arith) (omega arith)) ∙ scroll_on s n (λ j l u. h j l (omega arith)))

  pub scroll_taken : (i : ℕ) → line_set (watched r) i ≡ 0 → latched M r.table (through r i) ≡ register M (ready r i) 9
  unfolding advanced
  scroll_taken i e = sym (scroll_at ok r i) ∙ rw (starts_at (M.raster (ready r i)) (sym (line_of_lem ok r i) ∙ e))

  pub scroll_waits :
      (s i : ℕ) → s ≤ i → ((j : ℕ) → s < j → j ≤ i → line_set (watched r) j ≢ 0) → latched M r.table (through r i) ≡ latched M r.table
      (through r s)
  scroll_waits s i l h =
      let e : s + (i - s) ≡ i = omega arith in
      subst (λ (n : ℕ). latched M r.table (through r n) ≡ latched M r.table (through r s)) e
      (scroll_on s (i - s) (λ j l u. h j l (omega arith)))

-- ---- the write
module _ {M : Machine} (ok : Lawful M) {a : M.Area} (r : Run M a) {L : ℕ} (m : Moment (watched r) L) (r₀ : Run M a)
    (same : SameUntil (watched r) (watched r₀) m.step) (once : first_line (M.screen a) + rows (M.screen a) ≤ jump_to) where
  stays : (y : ℕ) → y < rows (M.screen a) → (New m y → ⊥) → row_at_end (watched r) y ≡ row_at_end (watched r₀) y
  stays y h l =
      let o = (demand3 ok r once).row_once y h in
      let i : ℕ = o.at in
      let by : i ≤ m.step = no_later ok r m once i y o.below o.holds l in
      (demand3 ok r once).row_bytes_lem i y o.below o.holds
      ∙ ap (λ (d : M.Device). row_bytes (M.colours_of (M.palette d)) (columns (M.screen a)) (picture_at (watched r) i y)) (same.device i by)
      ∙ ap (row_bytes (M.colours_of (M.palette (ready r₀ i))) (columns (M.screen a))) (same_picture ok r r₀ m.step same i y by)
      ∙ sym ((demand3 ok r₀ once).row_bytes_lem i y (in_both ok r r₀ m.step same i o.below) (sym (same_row ok r r₀ m.step same i by) ∙ o.holds))

  pub write_shows : WriteShows m (watched r₀)
  write_shows =
      record {
        stays = stays;
        shows = λ i y h e l. (later ok r m once i y h e l, (demand3 ok r once).row_bytes_lem i y h e);
        scroll_waits = scroll_waits ok r m.step;
        scroll_taken = scroll_taken ok r;
      }

-- ---- the line count
pub count_waits : (g : ℕ → ℕ) (x : Raster) → CountWaits g x
unfolding ticked counted advanced
count_waits g x =
    record {
      goes_down = λ n l c. rw (start n, le-ltb 192 (line x) l, ne_eqb x.line_interrupt_counter 0 c);
      taken_at_0 = λ n c. rw (start n, eq-eqb x.line_interrupt_counter 0 c, or-true (ltb 192 (line x)));
      taken_late = λ l. rw (lt-ltb 192 (line x) l);
    }
  where
    start : line x ≢ 0 → starts x ≡ false
    start n = no_start x n
