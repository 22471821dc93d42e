-- The line interrupts over any calls, proved.
-- Assumes nothing.
use mathlib.Core.Path.{◌≡◌, refl, sym, ◌∙◌, ap, subst}
use mathlib.Core.Logic.{◌↔◌}
use Prim.Native.Nat.{ℕ, zero, suc, ◌+◌, ◌≤◌, ◌<◌, ◌∣◌}
use native.Mathlib.Nat.{add-zero, dvd_refl, dvd-add_iff_left}
use native.Mathlib.Omega.{arith}
use Rattle.raster.specs.declared.Raster.{Raster}
use Rattle.raster.specs.declared.LineTable.{LineTable}
use Rattle.raster.specs.Raster.{pass_length, jump_to, advanced, counted, ticked}
use Rattle.raster.proofs.Tables.{jump_back, pass_is}
use Rattle.passes.specs.Machine.{Told, Machine, register, line_of}
use Rattle.passes.specs.Pass.{LineInterruptsEvery, InterruptsWhen}
use Rattle.passes.specs.Interrupts.{AllSo, here, call, step, FromLine0, FirstPass}
use Rattle.passes.proofs.Lines.{same_table, Due, Takes, due_first, takes_0, takes_next, sets, leaves, comes, comes_late}
use Rattle.passes.proofs.Lawful.{first_raster, Lawful}
use Rattle.passes.proofs.Sound.{table_kept}

-- ---- from a raster that has Z, whose step goes to place p₀, each step goes one place on
module _ {M : Machine} (ok : Lawful M) (N m p₀ : ℕ) (Z : Raster → Type 0) (begins : (g : ℕ → ℕ) (x : Raster) → Z x → g 10 ≡ N → Takes N m p₀ g x)
  where
    -- the place that step n goes to
    goal : ℕ → ℕ
    goal zero = p₀
    goal (suc n) = suc (goal n)

    goal_is : (n : ℕ) → goal n ≡ n + p₀
    unfolding goal
    goal_is zero = omega arith
    goal_is (suc n) = omega (arith, goal_is n)

    State : ℕ → Raster → Type 0
    State zero x = Z x
    State (suc n) x = Due N m (goal n) x

    takes : (n : ℕ) (g : ℕ → ℕ) (x : Raster) → State n x → g 10 ≡ N → goal n < pass_length x.table → Takes N m (goal n) g x
    unfolding State goal
    takes zero g x w e h = begins g x w e
    takes (suc n) g x w e h = takes_next N m (goal n) g x w h

    module _ (start : M.Device) (z : Z (M.raster start)) where
      -- the table is the first one's
      table_so : (n : ℕ) (d : M.Device) → AllSo M N start n d → (M.raster d).table ≡ (M.raster start).table
      table_so n d here = refl
      table_so n d (call {d = d₀} w c q) = table_kept ok c d₀ ∙ table_so n d₀ w
      table_so (suc n) d (step {d = d₀} w so c s e) =
          ap (λ (x : Raster). x.table) (ok.step_raster c d₀ s e) ∙ same_table (register M d₀) (M.raster d₀) ∙ table_so n d₀ w

      state : (n : ℕ) (d : M.Device) → AllSo M N start n d → goal n ≤ pass_length (M.raster start).table → State n (M.raster d)
      unfolding State goal
      state n d here h = z
      state n d (call {d = d₀} w c q) h = subst (State n) (sym (ok.quiet c d₀ q)) (state n d₀ w h)
      state (suc n) d (step {d = d₀} w so c s e) h =
          subst (Due N m (goal n)) (sym (ok.step_raster c d₀ s e))
          (leaves N m (goal n) (register M d₀) (M.raster d₀)
          (takes n (register M d₀) (M.raster d₀) (state n d₀ w (omega arith)) so.every (rw (table_so n d₀ w) h)) so.every)

      -- what step n answers
      module _ (n : ℕ) (h : n + p₀ < pass_length (M.raster start).table) (d : M.Device) (c : M.Call) (s : Told M.Device)
          (w : AllSo M N start n d) (so : LineInterruptsEvery N (register M d)) (e : M.Steps c d s) where
        abbrev p : ℕ
        p = n + p₀

        t : Takes N m p (register M d) (M.raster d)
        t =
            subst (λ (q : ℕ). Takes N m q (register M d) (M.raster d)) (goal_is n)
            (takes n (register M d) (M.raster d) (state n d w (omega (arith, goal_is n))) so.every (rw (table_so n d w) (omega (arith, goal_is n))))

        pub line_set_lem : p < jump_to → line_of M s.device ≡ p
        unfolding ticked counted advanced
        line_set_lem l = ap (λ (x : Raster). x.v_counter) (ok.step_raster c d s e) ∙ sets N m p (register M d) (M.raster d) t l

        pub early : p ≤ 193 → InterruptsWhen s (N + 1 ∣ p + m)
        early l =
            let a = ok.step_interrupt c d s e so.frame_off in
            let b = comes N m p (register M d) (M.raster d) t so.line_on l in
            (λ f. b.0 (a.0 f), λ v. a.1 (b.1 v))

        pub late : 193 < p → InterruptsWhen s (N ≡ 0)
        late l =
            let a = ok.step_interrupt c d s e so.frame_off in
            let b = comes_late N m p (register M d) (M.raster d) t so.line_on l in
            (λ f. b.0 (a.0 f), λ v. a.1 (b.1 v))

-- ---- from just before line 0
module _ {M : Machine} (ok : Lawful M) (N : ℕ) (start : M.Device) (reads : line_of M start ≡ 0xFF) where
  abbrev AtFF : Raster → Type 0
  AtFF x = x.v_counter ≡ 0xFF

  pub from-line_0 : FromLine0 M N start reads
  from-line_0 =
      record {
        to_193 = λ k h d c s w so e.
            rw (← add-zero k) (
              line_set_lem ok N 2 0 AtFF (takes_0 N) start reads k (omega (arith, pass_is (M.raster start).table, jump_back (M.raster start).table))
                  d c s w so e (omega arith),
              early ok N 2 0 AtFF (takes_0 N) start reads k (omega (arith, pass_is (M.raster start).table, jump_back (M.raster start).table)) d c
                  s w so e (omega arith),
            );
        past_193 = λ k l h d c s w so e. late ok N 2 0 AtFF (takes_0 N) start reads k
            (omega (arith, pass_is (M.raster start).table, jump_back (M.raster start).table)) d c s w so e (omega arith);
      }

-- ---- the first pass
module _ {M : Machine} (ok : Lawful M) (N : ℕ) (t : LineTable) (start : M.Device) (unstepped : M.raster start ≡ M.raster (M.made t)) where
  -- its table, and the steps of its pass
  begun : M.raster start ≡ first_raster t
  begun = unstepped ∙ ok.made_raster t

  pass_of : pass_length (M.raster start).table ≡ pass_length t
  pass_of = rw begun

  begins_1 : (g : ℕ → ℕ) (x : Raster) → Due N N 0 x → g 10 ≡ N → Takes N N 1 g x
  begins_1 g x w n = takes_next N N 0 g x w (omega (arith, pass_is x.table, jump_back x.table))

  due : Due N N 0 (M.raster start)
  due = rw begun (due_first N (first_raster t) refl refl refl)

  -- N + 1 divides i and itself exactly when it divides i
  and_itself : (i : ℕ) → (N + 1 ∣ i + 1 + N) ↔ (N + 1 ∣ i)
  and_itself i =
      let b = dvd-add_iff_left (N + 1) {m = i} (dvd_refl (N + 1)) in
      let e : i + 1 + N ≡ i + (N + 1) = omega arith in
      (λ v. b.1 (subst (λ (n : ℕ). N + 1 ∣ n) e v), λ v. subst (λ (n : ℕ). N + 1 ∣ n) (sym e) (b.0 v))

  first_reports : (i : ℕ) (s : Told M.Device) → InterruptsWhen s (N + 1 ∣ i + 1 + N) → InterruptsWhen s (N + 1 ∣ i)
  first_reports i s r = (λ f. (and_itself i).0 (r.0 f), λ v. r.1 ((and_itself i).1 v))

  pub first_pass : FirstPass M N t start unstepped
  first_pass =
      record {
        to_193 = λ i h d c s w so e. (
          line_set_lem ok N N 1 (Due N N 0) begins_1 start due i (omega (arith, pass_of, pass_is t, jump_back t)) d c s w so e (omega arith) ∙ omega
              arith,
          first_reports i s (early ok N N 1 (Due N N 0) begins_1 start due i (omega (arith, pass_of, pass_is t, jump_back t)) d c s w so e
              (omega arith)),
        );
        past_193 = λ i l h d c s w so e. late ok N N 1 (Due N N 0) begins_1 start due i (omega (arith, pass_of, pass_is t, jump_back t)) d c s w so e
            (omega arith);
      }
