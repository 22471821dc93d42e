-- Demand 3, proved of any lawful machine: after any calls, with any calls but steps between, for any area whose lines end where the jump ends.
-- Assumes nothing.
use Rattle.std.specs.Prelude.{Some}
use mathlib.Core.Path.{◌≡◌, refl, sym, ◌∙◌, ap, subst}
use mathlib.Core.Logic.{◌↔◌, ◌≢◌, ◌⊎◌, inl}
use mathlib.Core.List.{List, [], ◌∷◌}
use Prim.Native.Nat.{ℕ, zero, suc, ◌+◌, ◌-◌, ◌≤◌, ◌<◌}
use native.Mathlib.Nat.{add-zero, add-suc, add_comm}
use native.Mathlib.Omega.{arith}
use lib.ListN.{length}
use Rattle.laws.specs.Lists.{row_of}
use Rattle.laws.specs.Once.{ExactlyOnce, ExactlyTwice}
use Rattle.laws.proofs.Once.{once_iff, twice_iff}
use Rattle.picture.specs.declared.Screen.{Screen}
use Rattle.picture.specs.declared.Screen.TheVariants.{VisibleOnly, EffectiveArea, TrueEdges, Home}
use Rattle.picture.specs.Screen.{columns, rows, first_line, row_size, frame_size, row_bytes, picture_of}
use Rattle.raster.specs.declared.Raster.{Raster}
use Rattle.raster.specs.Raster.{jump_line, jump_to, advanced, counted, ticked}
use Rattle.points.specs.declared.DisplayRefresh.TheVariants.{NoDisplay}
use Rattle.points.specs.Points.{row_on}
use Rattle.points.proofs.Rows.{row_low, row_line, row_at}
use Rattle.passes.specs.Machine.{Machine, register, line_of}
use Rattle.passes.specs.Pass.{History, pass, Between, Run, watched, device_after, then, step_call, until, through, ready, answer, line_set}
use Rattle.passes.specs.Pass.{frame_at, latched, colours_at, picture_at, row_at_end, LineInterruptsEvery, ForLine, Demand3}
use Rattle.passes.specs.Rows.{RowsDrawn}
use Rattle.passes.specs.Interrupts.{AllSo, here, call, step}
use Rattle.passes.proofs.Counter.{line}
use Rattle.passes.proofs.Lines.{before_0, line_once, line_twice}
use Rattle.passes.proofs.Lawful.{Lawful}
use Rattle.passes.proofs.Sound.{Sound, sound, table_is, scroll_is, then_raster}
use Rattle.passes.proofs.Interrupts.{from-line_0}

-- ---- row y is drawn by the step that sets its line, and by no other
pub line_row : (a : Screen) (n y : ℕ) → y < rows a → n ≡ y + first_line a → row_on a n ≡ Some y
line_row a n y h e = row_at a n (omega arith) (omega arith) ∙ ap Some (omega arith)

-- every screen's lines are ones that the counter reads
lines_end : (a : Screen) → first_line a + rows a ≤ 256
lines_end VisibleOnly = omega arith
lines_end EffectiveArea = omega arith
lines_end TrueEdges = omega arith
lines_end Home = omega arith

module _ {M : Machine} (ok : Lawful M) {a : M.Area} (r : Run M a) where
  abbrev dev : ℕ → M.Device
  dev i = ready r i

  -- what is drawn
  abbrev shown : Screen
  shown = M.screen a

  -- so the frame has exactly its area's size
  pub exact_frame : length r.frame ≡ frame_size (M.screen a)
  exact_frame = ok.frame_size_lem a (r.vram 0) (length r.frame) (dev 0) (r.accepted 0 (dev 0))

  step_is : (i : ℕ) → M.Steps (step_call r i) (dev i) (answer r i)
  unfolding answer
  step_is i = ok.frame_is a (r.vram i) (length r.frame) (dev i) (r.accepted i (dev i))

  pub after_step : (i : ℕ) → device_after M r.table (through r i) ≡ (answer r i).device
  unfolding device_after answer ready
  after_step i = ok.frame_left_lem a (r.vram i) (length r.frame) (dev i)

  pub raster_left : (i : ℕ) → M.raster (answer r i).device ≡ ticked (register M (dev i)) (M.raster (dev i))
  raster_left i = ok.step_raster (step_call r i) (dev i) (answer r i) (step_is i)

  pub raster_next : (i : ℕ) → M.raster (dev (suc i)) ≡ ticked (register M (dev i)) (M.raster (dev i))
  unfolding ready until
  raster_next i = then_raster ok r.table (r.between (suc i)) (through r i) ∙ ap M.raster (after_step i) ∙ raster_left i

  pub ready_sound : (i : ℕ) → Sound M (dev i)
  unfolding ready
  ready_sound i = sound ok r.table (until r i)

  pub table_at : (i : ℕ) → (M.raster (dev i)).table ≡ r.table
  unfolding ready
  table_at i = table_is ok r.table (until r i)

  -- the scroll that step i draws with
  pub scroll_at : (i : ℕ) → (advanced (register M (dev i)) (M.raster (dev i))).vertical_scroll ≡ latched M r.table (through r i)
  unfolding ticked counted
  scroll_at i =
      sym (ap (λ (x : Raster). x.vertical_scroll) (raster_left i))
      ∙ sym (ap (λ (d : M.Device). (M.raster d).vertical_scroll) (after_step i))
      ∙ scroll_is ok r.table (through r i)

  pub line_of_lem : (i : ℕ) → line_set (watched r) i ≡ line (M.raster (dev i))
  unfolding ticked counted advanced
  line_of_lem i = ap (λ (x : Raster). x.v_counter) (raster_left i)

  pub row_on_lem : (i : ℕ) → (answer r i).row ≡ row_on (M.screen a) (line (M.raster (dev i)))
  unfolding answer
  row_on_lem i = ok.frame_row a (r.vram i) (length r.frame) (dev i) (r.accepted i (dev i))

  no_other : (i y : ℕ) → (answer r i).row ≡ Some y → y < rows shown
  no_other i y e = row_low shown (line (M.raster (dev i))) y (sym (row_on_lem i) ∙ e)

  -- each line but those that the jump goes back over is set by exactly one step of a pass, those by two
  pub lines : (q : ℕ) → (q < jump_to) ⊎ (jump_line r.table ≤ q) → q < 256 → ExactlyOnce (pass (watched r)) (λ i. line (M.raster (dev i)) ≡ q)
  lines q out h = line_once (λ i. M.raster (dev i)) (λ i. register M (dev i)) raster_next r.table (table_at 0) (ready_sound 0).within q out h

  lines_twice : (q : ℕ) → jump_to ≤ q → q < jump_line r.table → ExactlyTwice (pass (watched r)) (λ i. line (M.raster (dev i)) ≡ q)
  lines_twice q l h = line_twice (λ i. M.raster (dev i)) (λ i. register M (dev i)) raster_next r.table (table_at 0) (ready_sound 0).within q l h

  -- and so in the pass that begins one step later
  pub lines_later : (q : ℕ) → q < jump_to → ExactlyOnce (pass (watched r)) (λ i. line (M.raster (dev (suc i))) ≡ q)
  lines_later q h =
      line_once (λ i. M.raster (dev (suc i))) (λ i. register M (dev (suc i))) (λ i. raster_next (suc i)) r.table (table_at 1)
      (ready_sound 1).within q (inl h) (omega arith)

  -- until the next step the counter reads the line that a step set
  pub still : (i : ℕ) → line_of M (dev (suc i)) ≡ line_set (watched r) i
  still i = ap (λ (x : Raster). x.v_counter) (raster_next i ∙ sym (raster_left i))

  end_once : ExactlyOnce (pass (watched r)) (λ i. (answer r i).report ≢ NoDisplay)
  unfolding answer
  end_once =
      once_iff (λ i. ok.frame_report a (r.vram i) (length r.frame) (dev i) (r.accepted i (dev i))) (lines 193 (inl (omega arith)) (omega arith))

  -- ---- the frame
  pub same_length : (i : ℕ) → length (frame_at r i) ≡ length r.frame
  unfolding frame_at
  same_length zero = refl
  same_length (suc i) = ok.frame_length a (r.vram i) (dev i) (frame_at r i) ∙ same_length i

  row_kept : (i y : ℕ) → (answer r i).row ≢ Some y → row_of (row_size shown) y (frame_at r (suc i)) ≡ row_of (row_size shown) y (frame_at r i)
  unfolding frame_at
  row_kept i y n = ok.frame_other a (r.vram i) (dev i) (frame_at r i) y (λ e. n (row_on_lem i ∙ e))

  -- the row that step i draws, in the frame just after it
  just_drawn :
      (i y : ℕ) → (answer r i).row ≡ Some y →
      row_of (row_size shown) y (frame_at r (suc i)) ≡ row_bytes (colours_at (watched r) i) (columns shown) (picture_at (watched r) i y)
  unfolding frame_at
  just_drawn i y e =
      ok.frame_here a (r.vram i) (dev i) (frame_at r i) y (rw (same_length i) (r.accepted i (dev i))) (ready_sound i).clean (sym (row_on_lem i) ∙ e)
      ∙ ap (λ (s : ℕ). row_bytes (colours_at (watched r) i) (columns shown) (picture_of shown (M.registers (dev i)) s (r.vram i) y)) (scroll_at i)

  -- a row that n steps from step i on do not draw
  undrawn :
      (y i n : ℕ) → ((j : ℕ) → i ≤ j → j < i + n → (answer r j).row ≢ Some y) →
      row_of (row_size shown) y (frame_at r (i + n)) ≡ row_of (row_size shown) y (frame_at r i)
  undrawn y i zero h = rw (add-zero i)
  undrawn y i (suc n) h =
      rw (add-suc i n)
      (row_kept (i + n) y (h (i + n) (omega arith) (omega arith)) ∙ undrawn y i n (λ j l u. h j l (omega arith)))

  -- ---- the rows, each at its line
  row_iff : (y : ℕ) → y < rows shown → (i : ℕ) → (line (M.raster (dev i)) ≡ y + first_line shown) ↔ ((answer r i).row ≡ Some y)
  row_iff y h i =
      rw (row_on_lem i) (line_row shown (line (M.raster (dev i))) y h, λ e. row_line shown (line (M.raster (dev i))) y e ∙ add_comm (first_line shown) y)

  -- a row ends as the last step that drew it left it
  last_bytes :
      (i y : ℕ) → i < pass (watched r) → (answer r i).row ≡ Some y → ((j : ℕ) → i < j → j < pass (watched r) → (answer r j).row ≢ Some y) →
      row_at_end (watched r) y ≡ row_bytes (colours_at (watched r) i) (columns shown) (picture_at (watched r) i y)
  last_bytes i y h e later =
      let L : ℕ = pass (watched r) in
      let whole : suc i + (L - suc i) ≡ L = omega arith in
      subst (λ (n : ℕ). row_of (row_size shown) y (frame_at r n) ≡ row_of (row_size shown) y (frame_at r (suc i))) whole
      (undrawn y (suc i) (L - suc i) (λ j l u. later j (omega arith) (omega arith)))
      ∙ just_drawn i y e

  pub rows_drawn : RowsDrawn (watched r)
  rows_drawn =
      record {
        twice = λ y h l u. twice_iff (row_iff y h) (lines_twice (y + first_line shown) l (omega arith));
        once = λ y h out. once_iff (row_iff y h) (lines (y + first_line shown) out (omega (arith, lines_end shown)));
        no_other = no_other;
        at_line = λ i y h. (λ e. line_of_lem i ∙ (row_iff y h i).1 e, λ e. (row_iff y h i).0 (sym (line_of_lem i) ∙ e));
        last_bytes = last_bytes;
      }

  -- ---- the line interrupts: those of any calls
  all_so :
      (N : ℕ) (start : M.Device) (n : ℕ) (h : History M) → AllSo M N start n (device_after M r.table h) → (cs : List (Between M)) →
      AllSo M N start n (device_after M r.table (then {M = M} cs h))
  unfolding then device_after
  all_so N start n h w [] = w
  all_so N start n h w (b ∷ cs) = all_so N start n (b.call ∷ h) (call w b.call (b.no_step (device_after M r.table h))) cs

  module _ (i N : ℕ) (every : (k : ℕ) → k ≤ 193 → LineInterruptsEvery N (register M (dev (i + k)))) where
    so_far : (k : ℕ) → k ≤ 193 → AllSo M N (dev i) k (dev (i + k))
    unfolding ready until
    so_far zero h = rw (add-zero i) here
    so_far (suc k) h =
        rw (add-suc i k)
        (all_so N (dev i) (suc k) (through r (i + k))
        (rw (after_step (i + k)) (step (so_far k (omega arith)) (every k (omega arith)) (step_call r (i + k)) (answer r (i + k)) (step_is (i + k))))
        (r.between (suc (i + k))))

    reads_ff : line_set (watched r) i ≡ 0 → line_of M (dev i) ≡ 0xFF
    reads_ff b = before_0 (M.raster (dev i)) (ready_sound i).within (sym (line_of_lem i) ∙ b)

    line_interrupts : line_set (watched r) i ≡ 0 → (k : ℕ) → k ≤ 193 → ForLine M N k (answer r (i + k))
    line_interrupts b k h =
        (from-line_0 ok N (dev i) (reads_ff b)).to_193 k h (dev (i + k)) (step_call r (i + k)) (answer r (i + k)) (so_far k h) (every k h)
        (step_is (i + k))

  module _ (once : first_line shown + rows shown ≤ jump_to) where
    row_once : (y : ℕ) → y < rows shown → ExactlyOnce (pass (watched r)) (λ i. (answer r i).row ≡ Some y)
    row_once y h = rows_drawn.once y h (inl (omega arith))

    row_bytes_lem :
        (i y : ℕ) → i < pass (watched r) → (answer r i).row ≡ Some y →
        row_at_end (watched r) y ≡ row_bytes (colours_at (watched r) i) (columns shown) (picture_at (watched r) i y)
    row_bytes_lem i y h e =
        let o = row_once y (no_other i y e) in
        last_bytes i y h e (λ j l u f. omega (arith, o.only j u f, o.only i h e))

    pub demand3 : Demand3 (watched r)
    demand3 =
        record {
          row_once = row_once;
          no_other = λ i y e. omega (arith, no_other i y e);
          row_kept = row_kept;
          end_once = end_once;
          row_bytes_lem = row_bytes_lem;
          line_interrupts = λ i N b every k h. line_interrupts i N every b k h;
        }
