-- Any sequence of rasters in which each is the last one ticked, with registers that change as they like between the steps:
-- each line is set by exactly one step of a pass, or by two where the jump goes back over it, and the line interrupts come as N + 1 divides the
-- line and 2.
-- Nothing here knows of a device, a port or a picture.
-- Assumes nothing.
use mathlib.Core.Path.{◌≡◌, refl, sym, ◌∙◌, ap, subst}
use mathlib.Core.Logic.{◌↔◌, ◌≢◌, ◌⊎◌, ⊎_elim}
use mathlib.Core.Bool.{Bool, true, false, cond}
use Prim.Native.Nat.{ℕ, zero, suc, ◌+◌, ◌-◌, ◌%◌, ◌≤◌, ◌<◌, ◌∣◌}
use native.Mathlib.Nat.{dvd-add, dvd_refl, one-dvd, le_of_dvd, dvd-add_iff_left}
use native.Mathlib.Omega.{arith}
use lib.Dec.{eqb}
use borrow.Author.Tests.{eq-eqb, ne_eqb, eqb-true, eqb-false, le-ltb, lt-ltb}
use Rattle.laws.specs.Bits.{bit}
use Rattle.laws.specs.Once.{ExactlyOnce, ExactlyTwice}
use Rattle.laws.proofs.Tests.{either, split}
use Rattle.laws.proofs.Once.{once_iff, once_and_once, each_once}
use Rattle.raster.specs.declared.Raster.{Raster}
use Rattle.raster.specs.declared.LineTable.{LineTable}
use Rattle.raster.specs.Raster.{jump_line, jump_to, pass_length, up, jumps, starts, advanced, counted, line_interrupt, ticked}
use Rattle.raster.proofs.Tables.{jump_back, jump_above, jump_high, jump_not_0, pass_is}
use Rattle.passes.proofs.Counter.{line, flag, Within, place_of, Ticked, InPass, place, tick, same_place, two_places, late_place, no_less}
use Rattle.passes.proofs.Counter.{not_yet, place_below}

-- a step that sets line 0 starts a pass, and so does no other
pub starts_at : (x : Raster) → line x ≡ 0 → starts x ≡ true
unfolding starts
starts_at x e =
    split (jumps x)
    (λ j. absurd (let z : jump_to ≡ 0 = rw j at e in omega arith))
    (λ j. eq-eqb (up x) 0 (rw j at e))

-- just before it the counter reads FF
pub before_0 : (x : Raster) → InPass x → line x ≡ 0 → x.v_counter ≡ 0xFF
unfolding starts
before_0 x w e = at_most x.v_counter_jumped x.v_counter w (eqb-true (up x) 0 (starts_at x e))
  where
    at_most : (b : Bool) (c : ℕ) → Within (jump_line x.table) jump_to b c → (c + 1) % 256 ≡ 0 → c ≡ 0xFF
    at_most true c w z = omega arith
    at_most false c w z = omega (arith, jump_high x.table)

-- the count as the interrupt finds it
abbrev count : (ℕ → ℕ) → Raster → ℕ
count g x = cond (starts x) (g 10 - 1) x.line_interrupt_counter

-- a step from a line before the jump sets the next one
pub line_next : (x : Raster) (k : ℕ) → x.v_counter ≡ k → suc k < jump_to → line x ≡ suc k
unfolding jumps
line_next x k e h =
    let u : up x ≡ suc k = omega arith in
    rw (ne_eqb (up x) (jump_line x.table) (λ f. omega (arith, jump_back x.table))) u

-- the count at line k, with register 10 at N: m is 2 from line 0 on, and N in a first pass
record Counting (N m k c : ℕ) : Type 0 where
  small : c ≤ N
  divides : N + 1 ∣ c + (k + m)

first : (N : ℕ) → Counting N 2 0 (N - 1)
first zero = record { small = omega arith; divides = one-dvd 2 }
first (suc n) =
    record { small = omega arith; divides = subst (λ (x : ℕ). suc n + 1 ∣ x) (omega arith) (dvd_refl (suc n + 1)) }

-- the count goes down, or starts again at N
again : (N m k c : ℕ) → Counting N m k c → Counting N m (suc k) (cond (eqb c 0) N (c - 1))
again N m k c w =
    either (Counting N m (suc k)) (eqb c 0)
    (λ e.
    let z : c ≡ 0 = eqb-true c 0 e in
    record {
      small = omega arith;
      divides = subst (λ (x : ℕ). N + 1 ∣ x) (omega arith) (dvd-add (N + 1) (dvd_refl (N + 1)) w.divides);
    })
    (λ e.
    let s : c ≤ N = w.small in
    let p : c ≢ 0 = eqb-false c 0 e in
    record { small = omega arith; divides = subst (λ (x : ℕ). N + 1 ∣ x) (omega arith) w.divides })

-- the count is 0 exactly when N + 1 divides k + m
zero_iff : (N m k c : ℕ) → Counting N m k c → (eqb c 0 ≡ true) ↔ (N + 1 ∣ k + m)
zero_iff N m k c w = (there, back)
  where
    there : eqb c 0 ≡ true → N + 1 ∣ k + m
    there e =
        let z : c ≡ 0 = eqb-true c 0 e in
        subst (λ (x : ℕ). N + 1 ∣ x) (omega arith) w.divides

    back : N + 1 ∣ k + m → eqb c 0 ≡ true
    back v =
        split (eqb c 0) (λ e. e)
        (λ e.
        let p : c ≢ 0 = eqb-false c 0 e in
        let s : c ≤ N = w.small in
        absurd (omega (arith, le_of_dvd {m = N + 1} {n = c} (omega arith) ((dvd-add_iff_left (N + 1) v).1 w.divides))))

-- a raster at place p of its pass, as a step leaves it: the count is that of the next line, or N from line 193 on
pub record Due (N m p : ℕ) (x : Raster) : Type 0 where
  within : InPass x
  at : place x ≡ p
  low : p ≤ 192 → Counting N m (suc p) x.line_interrupt_counter
  high : 193 ≤ p → x.line_interrupt_counter ≡ N

-- a step from raster x to place p, and the count that its interrupt finds
pub record Takes (N m p : ℕ) (g : ℕ → ℕ) (x : Raster) : Type 0 where
  within : Within (jump_line x.table) jump_to (flag x) (line x)
  at : place_of (jump_line x.table) jump_to (flag x) (line x) ≡ p
  low : p ≤ 193 → Counting N m p (count g x)
  high : 193 < p → count g x ≡ N

-- a raster that has not stepped: counter, flag and count at 0
pub due_first : (N : ℕ) (x : Raster) → x.v_counter ≡ 0 → x.v_counter_jumped ≡ false → x.line_interrupt_counter ≡ 0 → Due N N 0 x
due_first N x c f l =
    record {
      within = rw (c, f) (omega (arith, jump_back x.table));
      at = rw (c, f);
      low = λ _. rw l record { small = omega arith; divides = subst (λ (n : ℕ). N + 1 ∣ n) (omega arith) (dvd_refl (N + 1)) };
      high = λ h. absurd (omega arith);
    }

-- the step that sets line 0, from any raster at FF
pub takes_0 : (N : ℕ) (g : ℕ → ℕ) (x : Raster) → x.v_counter ≡ 0xFF → g 10 ≡ N → Takes N 2 0 g x
unfolding jumps starts
takes_0 N g x e n =
    record {
      within = rw (e, jump_not_0 x.table) (omega (arith, jump_back x.table));
      at = rw (e, jump_not_0 x.table);
      low = λ _. rw (e, n) (first N);
      high = λ h. absurd (omega arith);
    }

module _ (N m p : ℕ) (g : ℕ → ℕ) (x : Raster) where
  -- before the last place of a pass none starts
  not_start : Due N m p x → suc p < pass_length x.table → starts x ≡ false
  unfolding starts
  not_start d h =
      ne_eqb (up x) 0
      (not_yet (jump_line x.table) jump_to (jump_back x.table) jump_above (jump_high x.table) x.v_counter_jumped x.v_counter
      d.within (omega (arith, d.at, pass_is x.table)))

  -- any other step of a pass
  pub takes_next : Due N m p x → suc p < pass_length x.table → Takes N m (suc p) g x
  takes_next d h =
      let t = tick x d.within in
      let e : place x ≡ p = d.at in
      let s : starts x ≡ false = not_start d h in
      record {
        within = t.within;
        at = t.next.goes (omega (arith, e, pass_is x.table)) ∙ ap suc e;
        low = λ l. rw s (d.low (omega arith));
        high = λ l. rw s (d.high (omega arith));
      }

module _ (N m p : ℕ) (g : ℕ → ℕ) (x : Raster) (t : Takes N m p g x) where
  pub sets : p < jump_to → line x ≡ p
  sets h = (same_place (jump_line x.table) jump_to (jump_back x.table) jump_above (jump_high x.table) (flag x) (line x) p t.within h).0
      t.at

  -- what it leaves
  pub leaves : g 10 ≡ N → Due N m p (ticked g x)
  unfolding ticked counted advanced
  leaves n =
      record {
        within = t.within;
        at = t.at;
        low = λ h.
            let l : line x ≤ 192 = omega (arith, sets (omega arith)) in
            let c : (ticked g x).line_interrupt_counter ≡ cond (eqb (count g x) 0) N (count g x - 1) = rw (le-ltb 192 (line x) l, n) in
            subst (Counting N m (suc p)) (sym c) (again N m p (count g x) (t.low (omega arith)));
        high = λ h.
            let l : 193 ≤ line x = no_less (jump_line x.table) jump_to (jump_back x.table) jump_above (jump_high x.table) (flag x) (line x)
            193 t.within (omega arith) (omega (arith, t.at)) in
            rw (lt-ltb 192 (line x) (omega arith), n);
      }

  -- and when its line interrupt comes
  pub comes : bit (g 0) 4 ≡ true → p ≤ 193 → (line_interrupt g (advanced g x) ≡ true) ↔ (N + 1 ∣ p + m)
  unfolding line_interrupt advanced
  comes on h = rw on (zero_iff N m p (count g x) (t.low h))

  pub comes_late : bit (g 0) 4 ≡ true → 193 < p → (line_interrupt g (advanced g x) ≡ true) ↔ (N ≡ 0)
  unfolding line_interrupt advanced
  comes_late on h = rw (on, t.high h) (λ e. eqb-true N 0 e, λ e. eq-eqb N 0 e)

-- no tick changes the table
pub same_table : (g : ℕ → ℕ) (x : Raster) → (ticked g x).table ≡ x.table
unfolding ticked counted advanced
same_table g x = refl

module _ (x : ℕ → Raster) (g : ℕ → ℕ → ℕ) (next : (i : ℕ) → x (suc i) ≡ ticked (g i) (x i)) (t : LineTable) (begun : (x 0).table ≡ t) where
  abbrev J : ℕ
  J = jump_line t

  table_is : (i : ℕ) → (x i).table ≡ t
  table_is zero = begun
  table_is (suc i) = ap (λ (y : Raster). y.table) (next i) ∙ same_table (g i) (x i) ∙ table_is i

  -- the place of a raster of this table
  abbrev place_at : ℕ → ℕ
  place_at i = place_of J jump_to (x i).v_counter_jumped (x i).v_counter

  module _ (start : InPass (x 0)) where
    within : (i : ℕ) → InPass (x i)
    unfolding ticked counted advanced
    within zero = start
    within (suc i) = subst InPass (sym (next i)) (tick (x i) (within i)).within

    abbrev Left : (i : ℕ) → Type 0
    Left i = Ticked J jump_to (place_at i) (x (suc i)).v_counter_jumped (x (suc i)).v_counter

    ticked_at : (i : ℕ) → Ticked J jump_to (place_at i) (flag (x i)) (line (x i))
    ticked_at i =
        subst
        (λ (u : LineTable). Ticked (jump_line u) jump_to (place_of (jump_line u) jump_to (x i).v_counter_jumped (x i).v_counter) (flag (x i))
        (line (x i)))
        (table_is i) (tick (x i) (within i))

    left : (i : ℕ) → Left i
    unfolding ticked counted advanced
    left i = subst (λ (y : Raster). Ticked J jump_to (place_at i) y.v_counter_jumped y.v_counter) (sym (next i)) (ticked_at i)

    set-by : (i : ℕ) → (x (suc i)).v_counter ≡ line (x i)
    unfolding ticked counted advanced
    set-by i = ap (λ (y : Raster). y.v_counter) (next i)

    place_line : (q : ℕ) → q < jump_to → (i : ℕ) → (place_at (suc i) ≡ q) ↔ (line (x i) ≡ q)
    place_line q h i =
        rw (← set-by i)
        (same_place J jump_to (jump_back t) jump_above (jump_high t) (x (suc i)).v_counter_jumped (x (suc i)).v_counter q (left i).within h)

    -- a line that the jump goes back over has two places, a line after the jump one
    two_lines :
        (q : ℕ) → jump_to ≤ q → q < J → (i : ℕ) →
        ((place_at (suc i) ≡ q) ⊎ (place_at (suc i) ≡ q + (J - jump_to))) ↔ (line (x i) ≡ q)
    two_lines q l h i =
        rw (← set-by i)
        (two_places J jump_to (jump_back t) jump_above (jump_high t) (x (suc i)).v_counter_jumped (x (suc i)).v_counter q (left i).within l h)

    late_line : (q : ℕ) → J ≤ q → (i : ℕ) → (place_at (suc i) ≡ q + (J - jump_to)) ↔ (line (x i) ≡ q)
    late_line q h i =
        rw (← set-by i)
        (late_place J jump_to (jump_back t) jump_above (jump_high t) (x (suc i)).v_counter_jumped (x (suc i)).v_counter q (left i).within h)

    place_start : place_at 0 < J + (256 - jump_to)
    place_start =
        place_below J jump_to (jump_back t) jump_above (jump_high t) (x 0).v_counter_jumped (x 0).v_counter
        (subst (λ (u : LineTable). Within (jump_line u) jump_to (x 0).v_counter_jumped (x 0).v_counter) begun start)

    place_once : (q : ℕ) → q < pass_length t → ExactlyOnce (pass_length t) (λ i. place_at (suc i) ≡ q)
    place_once q h =
        subst (λ (n : ℕ). ExactlyOnce n (λ i. place_at (suc i) ≡ q)) (sym (pass_is t))
        (each_once (J + (256 - jump_to)) (λ i. place_at i) place_start (λ i. (left i).next) q (omega (arith, pass_is t)))

    -- a line that the jump goes back over is set by exactly two steps of a pass
    pub line_twice : (q : ℕ) → jump_to ≤ q → q < J → ExactlyTwice (pass_length t) (λ i. line (x i) ≡ q)
    line_twice q l h =
        once_and_once (place_once q (omega (arith, pass_is t, jump_back t, jump_high t)))
        (place_once (q + (J - jump_to)) (omega (arith, pass_is t, jump_back t, jump_high t))) (two_lines q l h)
        (λ i e f. omega (arith, jump_back t))

    -- any other by exactly one
    pub line_once : (q : ℕ) → (q < jump_to) ⊎ (J ≤ q) → q < 256 → ExactlyOnce (pass_length t) (λ i. line (x i) ≡ q)
    line_once q out h =
        ⊎_elim (λ l. once_iff (place_line q l) (place_once q (omega (arith, pass_is t, jump_back t, jump_high t))))
        (λ l. once_iff (late_line q l) (place_once (q + (J - jump_to)) (omega (arith, pass_is t, jump_back t, jump_high t)))) out
