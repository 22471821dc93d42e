-- R9.1, one outcome: said of the contract itself, as the toolchain generates it from a function's clauses.
-- Assumes nothing.
use Rattle.std.specs.Prelude.{◌≡◌, Bool, List, ℕ}
use contract.Lifetimes.{Lfts}
use contract.Monad.{fact}
use denote.Triple.Entry.{Args, Res}
use denote.Triple.Clauses.{Ended, Clauses, Lasts, AtExit, at_exit}
use borrow.Fn.World.{World}
use borrow.Fn.Kind.{ParamKind, ResultKind}
use borrow.Fn.Kinds.{In, Out, Dens, res_t, ended_of}
use Rattle.laws.specs.Lists.{at}
use Rattle.laws.specs.Paint.{painted}
use Rattle.bitmap.specs.Mask.{bytes_of}
use Rattle.picture.specs.Layers.{layers_in}

module _ (n : ℕ) (ps : List (ParamKind n)) (r : ResultKind n) where
  -- For any arguments a that meet `asked`: two answers z, z', each with what the lent buffers hold at exit, w, w', of which a caller learns what the
  -- contract tells, `learnt`, are the same.
  abbrev pub OneOutcome : In n ps → Out n ps r → Type 0
  OneOutcome asked learnt =
      (κs : Lfts n) (a : Dens κs ps) → asked κs a →
      (z z' : (res_t r κs).Denot) (w w' : Lasts (ended_of n ps r) κs a) →
      learnt κs a z (at_exit (ended_of n ps r) κs a w) → learnt κs a z' (at_exit (ended_of n ps r) κs a w') →
      (z ≡ z') × (w ≡ w')

  -- the same of what is seen of the answer
  abbrev pub OneOutcomeSeen : In n ps → Out n ps r → ((κs : Lfts n) → (res_t r κs).Denot → List ℕ) → Type 0
  OneOutcomeSeen asked learnt see =
      (κs : Lfts n) (a : Dens κs ps) → asked κs a →
      (z z' : (res_t r κs).Denot) (w w' : Lasts (ended_of n ps r) κs a) →
      learnt κs a z (at_exit (ended_of n ps r) κs a w) → learnt κs a z' (at_exit (ended_of n ps r) κs a w') →
      (see κs z ≡ see κs z') × (w ≡ w')

-- The same where the toolchain reads no `learnt` off the clauses, as of a function over a struct that holds a reference: in every model m of the logic
-- the clauses, as the toolchain has them, say the fact `learnt` and nothing else, and two outcomes of which it is so are the same.
pub record OneOutcomeSaid (T : Ended) (said : (m : World) → Clauses m.𝓤 T) : Type 2 where
  pub learnt : (κs : Lfts T.signature.lifetimes) → Args T.signature κs → Res T.signature κs → AtExit T κs → Type 0
  pub is_said : (m : World) (κs : Lfts T.signature.lifetimes) (a : Args T.signature κs) (g : (said m κs a).ghost)
      (z : Res T.signature κs) (s : AtExit T κs) → (said m κs a).ensures g z s ≡ fact m.𝓤 (learnt κs a z s)
  pub once : (κs : Lfts T.signature.lifetimes) (a : Args T.signature κs) (z z' : Res T.signature κs) (w w' : Lasts T κs a) →
      learnt κs a z (at_exit T κs a w) → learnt κs a z' (at_exit T κs a w') → (z ≡ z') × (w ≡ w')

-- What the line of sprites is lent: a row that is painted in the colours, layers that are all background's, and a mask that is a mask's bytes.
pub record PaintedRow (row layers colours : List ℕ) (width : ℕ) (prio : List ℕ) : Type 0 where
  pub row₀ : List ℕ
  pub layers₀ : List ℕ
  pub colour : ℕ → ℕ
  pub mask : ℕ → Bool
  pub is_mask : prio ≡ bytes_of mask
  pub is_painted : row ≡ painted row₀ 0 width (λ x. at colours (colour x))
  pub is_clear : layers ≡ layers_in layers₀ width (λ x. 0)
