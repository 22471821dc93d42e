-- The programs run exactly the records that a reader hands out, and stop where it does.
-- Assumes nothing.
use mathlib.Core.Path.{◌≡◌, refl, sym, ap, subst, ◌∙◌}
use mathlib.Core.Bool.{true, false, cond}
use mathlib.Core.List.{List, [], ◌∷◌, ◌++◌}
use Prim.Native.Nat.{ℕ, zero, suc, ◌+◌}
use native.Mathlib.Nat.{add-zero}
use native.Mathlib.Omega.{arith}
use lib.Dec.{leb}
use lib.ListN.{length, length-append}
use Rattle.laws.proofs.Tests.{either, split, clash}
use Rattle.picture.specs.declared.RenderArea.{RenderArea}
use Rattle.trace_record.specs.declared.Record.{Record}
use Rattle.trace_record.specs.declared.Record.TheVariants.{Write, Read, Step, Bad, End}
use Rattle.trace_record.specs.Record.{record_at}
use Rattle.trace_record.specs.Writer.{record_bytes, size}
use Rattle.trace_record.specs.Reader.{is_call, past, handed, place, records, stop}
use Rattle.trace_record.specs.Promises.{all_bytes}
use Rattle.trace_record.proofs.Promises.{place_stays}
use Rattle.trace_record.specs.declared.Machine.{Machine}
use Rattle.trace_record.specs.declared.Machine.TheVariants.{Handheld}
use Rattle.trace_run.specs.Device.{handheld}
use Rattle.trace_text.specs.Text.{line_of, end_line, bad_line}
use Rattle.trace_record.specs.Machine.{has_area, taken_by}
use Rattle.trace_run.specs.Run.{World, Turn, start, turn_by, turn_of, after, lines, ran}
use Rattle.trace_text.specs.End.{last_line}
use Rattle.trace_run.specs.Output.{text}
use Rattle.trace_run.specs.Promises.{ran_all, lines_all, ReadsAlong, Runs, ReaderRuns, run_by, MachineRuns}
use Rattle.trace_run.proofs.Runs.{write_machine, read_machine, Moves, row_moves, moves_for}
use Rattle.trace_run.proofs.Until.{here, stays, silent, after_first, lines_first}

-- what n turns do, beside what a machine m runs of what a reader hands out in them
record Along (step : RenderArea → World → Turn) (n : ℕ) (s : List ℕ) (w : World) (xs : List Record) : Type 0 where
  world : after step n s w ≡ ran_all step xs w
  prints : lines step n s w ≡ lines_all step xs w
  place : (after step n s w).run.at ≡ w.run.at + length (all_bytes xs)
  count : (after step n s w).run.count ≡ w.run.count + length xs

-- a call that a machine takes is the one that the reader hands out
taken_call : (m : Machine) (x : Record) → is_call (taken_by m x) ≡ true → taken_by m x ≡ x
taken_call m (Write p v) e = refl
taken_call m (Read p) e = refl
taken_call m (Step a) e = either (λ (y : Record). is_call y ≡ true → y ≡ Step a) (has_area m a) (λ _ _. refl) (λ _ f. clash (sym f)) e
taken_call m Bad e = refl
taken_call m End e = refl

module _ (m : Machine) (n : ℕ) (s : List ℕ) (k : ℕ) where
  abbrev x : Record
  x = record_at s k

  runs_on : is_call (taken_by m x) ≡ true → run_by m (handed (suc n) s k) ≡ x ∷ run_by m (handed n s (past s k))
  unfolding handed
  runs_on t =
      let c : is_call x ≡ true = ap is_call (sym (taken_call m x t)) ∙ t in
      rw (c, t)

  runs_off : is_call (taken_by m x) ≡ false → run_by m (handed (suc n) s k) ≡ []
  unfolding handed
  runs_off t = split (is_call x) (λ c. rw (c, t)) (λ c. rw c)

module _ {step : RenderArea → World → Turn} (moves : Moves step) (s : List ℕ) (m : Machine) where
  -- a turn goes on by the bytes of its record, and a call is one record more
  place_by : (x : Record) (w : World) → (turn_by x step w).world.run.at ≡ w.run.at + size x
  unfolding turn_by
  place_by (Write p v) w = refl
  place_by (Read p) w = refl
  place_by (Step a) w = (moves a w).place
  place_by Bad w = sym (add-zero w.run.at)
  place_by End w = sym (add-zero w.run.at)

  count_by : (x : Record) (w : World) → is_call x ≡ true → (turn_by x step w).world.run.count ≡ w.run.count + 1
  unfolding turn_by
  count_by (Write p v) w e = refl
  count_by (Read p) w e = refl
  count_by (Step a) w e = (moves a w).counts
  count_by Bad w e = clash (sym e)
  count_by End w e = clash (sym e)

  machine_by : (x : Record) (w : World) → (turn_by x step w).world.run.device.machine ≡ w.run.device.machine
  unfolding turn_by
  machine_by (Write p v) w = write_machine w.run.device w.vram w.run.device.machine p v
  machine_by (Read p) w = read_machine w.run.device w.vram w.run.device.machine p
  machine_by (Step a) w = (moves a w).machine
  machine_by Bad w = refl
  machine_by End w = refl

  along : (n : ℕ) (w : World) → w.run.device.machine ≡ m → Along step n s w (run_by m (handed n s w.run.at))
  unfolding after lines handed past turn_of
  along zero w e = record { world = refl; prints = refl; place = sym (add-zero w.run.at); count = sym (add-zero w.run.count) }
  along (suc n) w e =
      let k = w.run.at in
      let x = record_at s k in
      let o : here s w.run ≡ taken_by m x = ap (λ (j : Machine). taken_by j x) e in
      split (is_call (taken_by m x))
      (λ t.
      let y = taken_call m x t in
      let v = (turn_by x step w).world in
      let i = along n v (machine_by x w ∙ e) in
      let q : turn_of step s w ≡ turn_by x step w = ap (λ (z : Record). turn_by z step w) (o ∙ y) in
      let f : after step (suc n) s w ≡ after step n s v = after_first step s n w ∙ ap (λ (u : Turn). after step n s u.world) q in
      let b : v.run.at ≡ k + size x = place_by x w in
      let l = run_by m (handed n s (k + size x)) in
      let h : run_by m (handed n s v.run.at) ≡ l = ap (λ (j : ℕ). run_by m (handed n s j)) b in
      let r : run_by m (handed (suc n) s k) ≡ x ∷ l = runs_on m n s k t in
      rw r
      (record {
        world = f ∙ i.world ∙ ap (λ (z : List Record). ran_all step z v) h;
        prints =
            lines_first step s n w
            ∙ ap (λ (u : Turn). line_of u.answer ++ lines step n s u.world) q
            ∙ ap (λ (z : List ℕ). line_of (turn_by x step w).answer ++ z) (i.prints ∙ ap (λ (z : List Record). lines_all step z v) h);
        place =
            ap (λ (u : World). u.run.at) f
            ∙ i.place
            ∙ ap (λ (z : List Record). v.run.at + length (all_bytes z)) h
            ∙ omega (arith, length-append (record_bytes x) (all_bytes l));
        count =
            ap (λ (u : World). u.run.count) f
            ∙ i.count
            ∙ ap (λ (z : List Record). v.run.count + length z) h
            ∙ omega (arith, count_by x w (ap is_call (sym y) ∙ t));
      }))
      (λ t.
      let c = ap is_call o ∙ t in
      let f = stays step s (suc n) w c in
      rw (runs_off m n s k t)
      (record {
        world = f;
        prints = silent step s (suc n) w c;
        place = ap (λ (u : World). u.run.at) f ∙ sym (add-zero k);
        count = ap (λ (u : World). u.run.count) f ∙ sym (add-zero w.run.count);
      }))

  pub reads_along :
      (w : World) → w.run.device.machine ≡ m → w.run.at ≡ 0 → w.run.count ≡ 0
      → ReadsAlong step s w (run_by m (records s)) (length (all_bytes (run_by m (records s))))
  unfolding ran records
  reads_along w e p q =
      let i = along (length s) w e in
      let h : run_by m (handed (length s) s w.run.at) ≡ run_by m (records s) = ap (λ (k : ℕ). run_by m (handed (length s) s k)) p in
      record {
        world = i.world ∙ ap (λ (l : List Record). ran_all step l w) h;
        prints = i.prints ∙ ap (λ (l : List Record). lines_all step l w) h;
        place = i.place ∙ omega (arith, ap (λ (l : List Record). length (all_bytes l)) h);
        count = i.count ∙ omega (arith, ap (λ (l : List Record). length l) h);
      }

pub machine_runs : MachineRuns
unfolding text last_line
machine_runs d s vram row frame =
    let w = start d vram row frame in
    let a = reads_along row_moves s d.machine w refl refl refl in (
      λ shown. reads_along (moves_for shown) s d.machine w refl refl refl,
      λ i. a.prints i ++ cond (leb (length s) (a.place i)) (end_line (a.count i)) (bad_line (a.place i)),
    )

-- ---- the handheld runs all that the reader hands out
as_it_is : (x : Record) → taken_by Handheld x ≡ x
as_it_is (Write p v) = refl
as_it_is (Read p) = refl
as_it_is (Step a) = refl
as_it_is Bad = refl
as_it_is End = refl

module _ (s : List ℕ) where
  all_run : (n k : ℕ) → run_by Handheld (handed n s k) ≡ handed n s k
  unfolding handed
  all_run zero k = refl
  all_run (suc n) k =
      let x = record_at s k in
      split (is_call x) (λ c. rw (c, ap is_call (as_it_is x) ∙ c, all_run n (past s k))) (λ c. rw c)

  all_bytes_lem : (n k : ℕ) → k + length (all_bytes (handed n s k)) ≡ place n s k
  unfolding handed place past
  all_bytes_lem zero k = add-zero k
  all_bytes_lem (suc n) k =
      let x = record_at s k in
      split (is_call x)
      (λ c. rw c (omega (arith, length-append (record_bytes x) (all_bytes (handed n s (k + size x))), all_bytes_lem n (k + size x))))
      (λ c. rw c (add-zero k ∙ sym (place_stays (suc n) s k c)))

pub reader_runs : ReaderRuns
unfolding records stop
reader_runs d s =
    let e : run_by Handheld (records s) ≡ records s = all_run s (length s) 0 in
    let f : length (all_bytes (records s)) ≡ stop s = omega (arith, all_bytes_lem s (length s) 0) in
    subst (Runs (handheld d) s (records s)) f (subst (λ (xs : List Record). Runs (handheld d) s xs (length (all_bytes xs))) e
    (machine_runs (handheld d) s))
