-- From a fresh device of either table, after any calls: clean colours, a counter in its pass, an address in its memory, and the scroll that was latched last.
-- Assumes nothing.
use mathlib.Core.Path.{◌≡◌, refl, sym, ap, ◌∙◌, subst}
use mathlib.Core.Bool.{Bool, true, false, cond, not, ◌&&◌, and-false}
use mathlib.Core.List.{List, [], ◌∷◌}
use Prim.Native.Nat.{ℕ}
use native.Mathlib.Omega.{arith}
use lib.Dec.{eqb}
use borrow.Author.Tests.{eqb-true, ne_eqb}
use Rattle.laws.proofs.Tests.{split, clash}
use Rattle.raster.specs.declared.Raster.{Raster}
use Rattle.raster.specs.declared.LineTable.{LineTable}
use Rattle.raster.specs.Raster.{up, jumps, starts, jump_line, advanced, counted, ticked}
use Rattle.raster.proofs.Tables.{jump_back}
use Rattle.passes.specs.Machine.{Machine}
use Rattle.passes.specs.Pass.{History, device_after, latched_along, latched, Between, then}
use Rattle.passes.specs.Chart.{TableKept}
use Rattle.passes.proofs.Counter.{InPass, tick, line}
use Rattle.passes.proofs.Lines.{starts_at, same_table}
use Rattle.passes.proofs.Lawful.{Moved, stays, ticks, Clean, Aimed, Lawful}

moved_within : {g : ℕ → ℕ} {x x' : Raster} → Moved g x x' → InPass x → InPass x'
unfolding ticked counted advanced
moved_within (stays e) w = subst InPass (sym e) w
moved_within {x = x} (ticks e) w = subst InPass (sym e) (tick x w).within

moved_table : {g : ℕ → ℕ} {x x' : Raster} → Moved g x x' → x'.table ≡ x.table
moved_table (stays e) = ap (λ (y : Raster). y.table) e
moved_table {g} {x} (ticks e) = ap (λ (y : Raster). y.table) e ∙ same_table g x

-- ---- the latched scroll
-- a step makes the counter 0 exactly when it starts a pass
zero-starts : (x : Raster) → (not (eqb x.v_counter 0) && eqb (line x) 0) ≡ starts x
unfolding starts jumps
zero-starts x =
    split (starts x)
    (λ s.
    let z : up x ≡ 0 = eqb-true (up x) 0 s in
    rw (ne_eqb (up x) (jump_line x.table) (λ f. omega (arith, jump_back x.table)), ne_eqb x.v_counter 0 (λ f. omega arith)))
    (λ s. rw (ne_eqb (line x) 0 (λ f. clash (sym (starts_at x f) ∙ s)), s) (and-false (not (eqb x.v_counter 0))))

not_both : (b : Bool) → (not b && b) ≡ false
not_both true = refl
not_both false = refl

moved_scroll :
    {g : ℕ → ℕ} {x x' : Raster} (l : ℕ) → Moved g x x' → x.vertical_scroll ≡ l →
    x'.vertical_scroll ≡ cond (not (eqb x.v_counter 0) && eqb x'.v_counter 0) (g 9) l
unfolding ticked counted advanced
moved_scroll {x = x} l (stays e) s = rw (e, not_both (eqb x.v_counter 0)) s
moved_scroll {x = x} l (ticks e) s = rw (e, zero-starts x, s)

pub record Sound (M : Machine) (d : M.Device) : Type 0 where
  pub clean : Clean M d
  pub within : InPass (M.raster d)
  pub aimed : Aimed M d

module _ {M : Machine} (ok : Lawful M) where
  pub sound : (t : LineTable) (h : History M) → Sound M (device_after M t h)
  unfolding device_after
  sound t [] =
      record {
        clean = λ e. clash (sym (ok.made_dirty t) ∙ e);
        within = subst InPass (sym (ok.made_raster t)) (omega (arith, jump_back t));
        aimed = ok.made_aimed t;
      }
  sound t (c ∷ h) =
      let l = ok.left c (device_after M t h) in
      let s = sound t h in
      record { clean = l.clean s.clean; within = moved_within l.moved s.within; aimed = l.aimed s.aimed }

  -- ---- the table
  pub table_kept : TableKept M
  table_kept c d = moved_table (ok.left c d).moved

  -- so it is the one that the device was made with
  pub table_is : (t : LineTable) (h : History M) → (M.raster (device_after M t h)).table ≡ t
  unfolding device_after
  table_is t [] = ap (λ (x : Raster). x.table) (ok.made_raster t)
  table_is t (c ∷ h) = table_kept c (device_after M t h) ∙ table_is t h

  -- ---- the scroll
  -- the scroll in the record is the one latched when the counter last became 0
  pub scroll_is : (t : LineTable) (h : History M) → (M.raster (device_after M t h)).vertical_scroll ≡ latched M t h
  unfolding device_after latched_along
  scroll_is t [] = ap (λ (x : Raster). x.vertical_scroll) (ok.made_raster t)
  scroll_is t (c ∷ h) =
      moved_scroll (latched M t h) (ok.left c (device_after M t h)).moved (scroll_is t h)

  -- ---- between steps
  pub then_raster : (t : LineTable) (cs : List (Between M)) (h : History M) → M.raster (device_after M t (then {M = M} cs h)) ≡ M.raster
      (device_after M t h)
  unfolding then device_after
  then_raster t [] h = refl
  then_raster t (c ∷ cs) h = then_raster t cs (c.call ∷ h) ∙ ok.quiet c.call (device_after M t h) (c.no_step (device_after M t h))
