-- What a coming step is to do: its refusal, by the first line of its table that holds, or the row of its line; with layers and without.
-- Assumes nothing.
use Rattle.std.specs.Prelude.{Err, Ok}
use mathlib.Core.Path.{◌≡◌, refl, sym, ap}
use mathlib.Core.Bool.{true, false, cond}
use mathlib.Core.Logic.{◌≢◌}
use mathlib.Core.List.{List, [], ◌∷◌}
use Prim.Native.Nat.{ℕ, ◌<◌, ◌≤◌}
use borrow.Author.Tests.{le-ltb, lt-ltb}
use Rattle.picture.specs.declared.Screen.{Screen}
use Rattle.raster.specs.declared.Raster.{Raster}
use Rattle.refusal.specs.declared.Refusal.TheVariants.{LayerLength}
use Rattle.refusal.specs.Refusals.{Line, first, under, Outcome}
use Rattle.refusal.proofs.Tables.{under_map}
use Rattle.laws.proofs.Tests.{split, clash}
use Rattle.points.specs.declared.Due.{Due}
use Rattle.points.specs.Bytes.{also_layers}
use Rattle.points.specs.Due.{refused_due, taken_due, due_of}

-- ---- the lines of the table
-- where another line holds, 16 is not the first
pub not_last : (least size : ℕ) (ls : List Line) → first ls ≢ (Ok tt) → first (also_layers least size ls) ≡ first ls
not_last least size [] n = absurd (n refl)
not_last least size (l ∷ ls) n = split l.holds (λ t. rw t) (λ t. rw t (not_last least size ls (rw t at n)))

-- with room for its layers, a step is as it is without
pub under_also : {A : Type 0} (least size : ℕ) (ls : List Line) (refuse : Outcome → A) (call : A) → least ≤ size → under (also_layers least size ls)
    refuse call ≡ under ls refuse call
under_also least size [] refuse call h = rw (le-ltb size least h)
under_also least size (l ∷ ls) refuse call h = ap (λ (x : _). cond l.holds (refuse l.outcome) x) (under_also least size ls refuse call h)

-- ---- what a step is to do
module _ (s : Screen) (reg : List ℕ) (raster : Raster) where
  -- whatever is made of it is made of the refusal, or of the step that is taken
  pub due_map : {A : Type 0} (f : Due → A) (ls : List Line) → f (due_of ls s reg raster) ≡ under ls (λ r. f (refused_due r raster))
      (f (taken_due s reg raster))
  due_map f ls = under_map f ls (λ r. refused_due r raster) (taken_due s reg raster)

  -- and by 16 where there are layers
  module _ (least size : ℕ) where
    pub also_refused : (ls : List Line) → (due_of ls s reg raster).good ≡ false → due_of ls s reg raster ≡ due_of (also_layers least size ls) s reg raster
    also_refused [] e = clash e
    also_refused (l ∷ ls) e = split l.holds (λ t. rw t) (λ t. rw t (also_refused ls (rw t at e)))

    pub also_16 : (ls : List Line) → (due_of ls s reg raster).good ≡ true → size < least → refused_due (Err LayerLength) raster ≡ due_of
        (also_layers least size ls) s reg raster
    also_16 [] e h = rw (lt-ltb size least h)
    also_16 (l ∷ ls) e h = split l.holds (λ t. clash (sym (rw t at e))) (λ t. rw t (also_16 ls (rw t at e) h))

    pub also_taken : (ls : List Line) → least ≤ size → due_of ls s reg raster ≡ due_of (also_layers least size ls) s reg raster
    also_taken ls h = sym (under_also least size ls (λ r. refused_due r raster) (taken_due s reg raster) h)
