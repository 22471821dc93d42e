-- The record at an offset as a machine takes it, by its kind.
-- Assumes nothing.
use mathlib.Core.Path.{◌≡◌, refl, sym, ap, ◌∙◌}
use mathlib.Core.Bool.{Bool, cond}
use mathlib.Core.List.{List, [], ◌∷◌}
use Prim.Native.Nat.{ℕ}
use types.Run.{OneOf, miss}
use denote.Enum.Declared.{tag_of}
use Rattle.picture.specs.declared.RenderArea.{RenderArea}
use Rattle.trace_record.specs.declared.Machine.{Machine}
use Rattle.trace_record.specs.declared.Record.{Record}
use Rattle.trace_record.specs.declared.Record.TheVariants.{Write, Read, Step, Bad, End}
use Rattle.trace_record.specs.contracts.Record.{the_type}
use Rattle.trace_record.specs.Record.{record_at}
use Rattle.trace_record.specs.Machine.{has_area, taken_by, record_on}

-- a record that is no step, by its tag, is taken as it is
plain : (m : Machine) (x : Record) → OneOf (0 ∷ 1 ∷ 3 ∷ 4 ∷ []) (tag_of the_type x) → x ≡ taken_by m x
plain m (Write port value) _ = refl
plain m (Read port) _ = refl
plain m (Step area) h = absurd (miss (0 ∷ 1 ∷ 3 ∷ 4 ∷ []) 2 tt h)
plain m Bad _ = refl
plain m End _ = refl

module _ (m : Machine) (s : List ℕ) (k : ℕ) {x : Record} (e : x ≡ record_at s k) where
  pub no_step : OneOf (0 ∷ 1 ∷ 3 ∷ 4 ∷ []) (tag_of the_type x) → x ≡ record_on m s k
  no_step h = plain m x h ∙ ap (taken_by m) e

  pub by_area : {a : RenderArea} {b c : Bool} → x ≡ Step a → b ≡ has_area m a → b ≡ c → cond c (Step a) Bad ≡ record_on m s k
  by_area {a} f h t = ap (λ (c : Bool). cond c (Step a) Bad) (sym t ∙ h) ∙ ap (taken_by m) (sym f ∙ e)
