-- The counter goes by the chart, proved of any lawful machine.
-- Assumes nothing.
use mathlib.Core.Path.{◌≡◌, sym, ◌∙◌, ap, subst}
use mathlib.Core.Bool.{Bool, true, false, cond}
use Prim.Native.Nat.{ℕ, zero, suc, ◌+◌, ◌-◌, ◌≤◌, ◌<◌}
use native.Mathlib.Omega.{arith}
use lib.Dec.{eqb, ltb}
use borrow.Author.Tests.{ltb-true, ltb-false, lt-ltb, le-ltb, eqb-true, eqb-false}
use Rattle.laws.proofs.Tests.{split}
use Rattle.laws.proofs.Once.{Next}
use Rattle.raster.specs.declared.Raster.{Raster}
use Rattle.raster.specs.declared.LineTable.{LineTable}
use Rattle.raster.specs.Raster.{jump_line, jump_to, pass_length, advanced, counted, ticked}
use Rattle.raster.proofs.Tables.{jump_back, jump_above, jump_high, pass_is}
use Rattle.passes.specs.Machine.{Machine, register}
use Rattle.passes.specs.Pass.{History, device_after, Run, watched, pass, ready, answer, line_set}
use Rattle.passes.specs.Chart.{chart_line, place_of, next_place, Charted, comes_at, place_set, InOrder}
use Rattle.passes.proofs.Counter.{Within, InPass, tick, same_place, place_below}
use Rattle.passes.proofs.Lawful.{Lawful}
use Rattle.passes.proofs.Sound.{sound, table_is}
use Rattle.passes.proofs.Lines.{line_next}
use Rattle.passes.proofs.Demand3.{table_at, ready_sound, raster_left, raster_next, line_of_lem, still}

-- ---- a raster in its pass
below : (x : Raster) → InPass x → place_of x < pass_length x.table
below x w =
    let t = x.table in
    let b = place_below (jump_line t) jump_to (jump_back t) jump_above (jump_high t) x.v_counter_jumped x.v_counter w in
    omega (arith, b, pass_is t)

reads : (x : Raster) → InPass x → x.v_counter ≡ chart_line x.table (place_of x)
reads x w = go x.v_counter_jumped x.v_counter w
  where
    go : (b : Bool) (c : ℕ) → Within (jump_line x.table) jump_to b c → c ≡ chart_line x.table (cond b (c + (jump_line x.table - jump_to)) c)
    go false c w = rw (lt-ltb c (jump_line x.table) w)
    go true c w =
        rw (le-ltb (c + (jump_line x.table - jump_to)) (jump_line x.table) (omega (arith, w.0, jump_back x.table))) (omega arith)

next_is : (t : LineTable) (p q : ℕ) → p < pass_length t → Next (jump_line t + (256 - jump_to)) p q → q ≡ next_place t p
next_is t p q h n =
    split (eqb (suc p) (pass_length t))
    (λ e. rw e (n.wraps (omega (arith, eqb-true (suc p) (pass_length t) e, pass_is t))))
    (λ e. rw e (n.goes (omega (arith, eqb-false (suc p) (pass_length t) e, pass_is t))))

place_next : (g : ℕ → ℕ) (x : Raster) → InPass x → place_of (ticked g x) ≡ next_place x.table (place_of x)
unfolding ticked counted advanced
place_next g x w = next_is x.table (place_of x) (place_of (ticked g x)) (below x w) (tick x w).next

-- ---- after any calls
pub charted : {M : Machine} (ok : Lawful M) (t : LineTable) (h : History M) → Charted M t h
charted {M} ok t h =
    let d = device_after M t h in
    let x = M.raster d in
    let w = (sound ok t h).within in
    let e = table_is ok t h in
    record {
      in_chart = subst (λ (u : LineTable). place_of x < pass_length u) e (below x w);
      reads = subst (λ (u : LineTable). x.v_counter ≡ chart_line u (place_of x)) e (reads x w);
      steps = λ c s p.
          ap place_of (ok.step_raster c d s p)
          ∙ subst (λ (u : LineTable). place_of (ticked (register M d) x) ≡ next_place u (place_of x)) e (place_next (register M d) x w);
      stays = λ c n. ap place_of (ok.quiet c d n);
    }

-- ---- the order of a pass
first_comes : (t : LineTable) (s : ℕ) → comes_at t s s ≡ 0
first_comes t s = rw (le-ltb s s (omega arith)) (omega arith)

next_comes :
    (t : LineTable) (s p i : ℕ) → s < pass_length t → p < pass_length t → comes_at t s p ≡ i → suc i < pass_length t → comes_at t s (next_place t p) ≡ suc i
next_comes t s p i hs hp e h =
    split (eqb (suc p) (pass_length t))
    (λ b.
    let last : suc p ≡ pass_length t = eqb-true (suc p) (pass_length t) b in
    let back : p - s ≡ i = rw (le-ltb p s (omega arith)) at e in
    rw (b, lt-ltb 0 s (omega arith)) (omega arith))
    (λ b.
    rw b
    (split (ltb p s)
    (λ f.
    let l : p < s = ltb-true p s f in
    let before : p + pass_length t - s ≡ i = rw f at e in
    rw (lt-ltb (suc p) s (omega arith)) (omega arith))
    (λ f.
    let l : s ≤ p = ltb-false p s f in
    let behind : p - s ≡ i = rw f at e in
    rw (le-ltb (suc p) s (omega arith)) (omega arith))))

module _ {M : Machine} (ok : Lawful M) {a : M.Area} (r : Run M a) where
  abbrev x : ℕ → Raster
  x i = M.raster (ready r i)

  set_next : (i : ℕ) → M.raster (answer r i).device ≡ x (suc i)
  set_next i = raster_left ok r i ∙ sym (raster_next ok r i)

  pub in_chart : (i : ℕ) → place_set (watched r) i < pass (watched r)
  in_chart i = rw (set_next i) (subst (λ (u : LineTable). place_of (x (suc i)) < pass_length u) (table_at ok r (suc i))
      (below (x (suc i)) (ready_sound ok r (suc i)).within))

  place_on : (i : ℕ) → place_set (watched r) (suc i) ≡ next_place r.table (place_set (watched r) i)
  place_on i =
      ap place_of (raster_left ok r (suc i))
      ∙ place_next (register M (ready r (suc i))) (x (suc i)) (ready_sound ok r (suc i)).within
      ∙ ap (λ (u : LineTable). next_place u (place_of (x (suc i)))) (table_at ok r (suc i))
      ∙ ap (λ (y : Raster). next_place r.table (place_of y)) (sym (set_next i))

  pub order : (i : ℕ) → i < pass (watched r) → comes_at r.table (place_set (watched r) 0) (place_set (watched r) i) ≡ i
  order zero h = first_comes r.table (place_set (watched r) 0)
  order (suc i) h =
      ap (comes_at r.table (place_set (watched r) 0)) (place_on i)
      ∙ next_comes r.table (place_set (watched r) 0) (place_set (watched r) i) i (in_chart 0) (in_chart i) (order i (omega arith)) h

  line_set_lem : (i : ℕ) → line_set (watched r) i ≡ chart_line r.table (place_set (watched r) i)
  line_set_lem i =
      ap (λ (y : Raster). y.v_counter) (set_next i)
      ∙ subst (λ (u : LineTable). (x (suc i)).v_counter ≡ chart_line u (place_of (x (suc i)))) (table_at ok r (suc i))
      (reads (x (suc i)) (ready_sound ok r (suc i)).within)
      ∙ ap (λ (y : Raster). chart_line r.table (place_of y)) (sym (set_next i))

  pub own_place : (i q : ℕ) → q < jump_to → line_set (watched r) i ≡ q → place_set (watched r) i ≡ q
  own_place i q h e =
      let t = (x (suc i)).table in
      ap place_of (set_next i)
      ∙ (same_place (jump_line t) jump_to (jump_back t) jump_above (jump_high t) (x (suc i)).v_counter_jumped (x (suc i)).v_counter q
      (ready_sound ok r (suc i)).within h).1
      (still ok r i ∙ e)

  first_pass : M.raster (ready r 0) ≡ M.raster (M.made r.table) → place_set (watched r) 0 ≡ 1
  first_pass e =
      own_place 0 1 (omega arith)
      (line_of_lem ok r 0 ∙ line_next (M.raster (ready r 0)) 0 (ap (λ (y : Raster). y.v_counter) (e ∙ ok.made_raster r.table)) (omega arith))

  pub in_order : InOrder (watched r)
  in_order = record { in_chart = in_chart; order = order; line = line_set_lem; own_place = own_place; first_pass = first_pass }
