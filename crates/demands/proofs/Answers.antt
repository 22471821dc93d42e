-- What the laws of either machine need of an answer: a refusal that no line of a table gives, the line's interrupt, and the line that ends the screen.
-- Assumes nothing.
use mathlib.Core.Path.{◌≡◌, refl}
use mathlib.Core.Logic.{◌↔◌, ◌≢◌}
use mathlib.Core.Bool.{Bool, true, false, cond, ◌&&◌, ◌||◌}
use mathlib.Core.List.{List}
use Prim.Native.Nat.{ℕ}
use native.Mathlib.Omega.{arith}
use lib.Dec.{eqb}
use borrow.Author.Tests.{eq-eqb, eqb-true}
use Rattle.laws.specs.Bits.{bit}
use Rattle.laws.specs.Lists.{at}
use Rattle.refusal.specs.Refusals.{refusal_number, Line, first, Outcome}
use Rattle.points.specs.declared.VdpInt.TheVariants.{InterruptGenerated, NoInterrupt}
use Rattle.points.specs.declared.DisplayRefresh.TheVariants.{NoDisplay, ScreenDone, ScreenDoneNoRefresh}
use Rattle.points.specs.Points.{report_by}
use Rattle.face.proofs.Exact.{none, never}

abbrev pub NotSeven : Outcome → Type 0
NotSeven r = refusal_number r ≢ 7

-- a table that has no line of 7
pub without : (ls : List Line) → none 7 ls ≡ true → NotSeven (first ls)
without ls h = never 7 ls (λ z. omega arith) h

-- with frame interrupts off an interrupt is the line's
pub line_alone : (frame ended line : Bool) → frame ≡ false → (cond ((frame && ended) || line) InterruptGenerated NoInterrupt ≡ InterruptGenerated) ↔
    (line ≡ true)
line_alone frame ended line off = rw off (raised line)
  where
    raised : (b : Bool) → (cond b InterruptGenerated NoInterrupt ≡ InterruptGenerated) ↔ (b ≡ true)
    raised true = (λ _. refl, λ _. refl)
    raised false = (λ e. absurd (let z : ◌≡◌ {A = ℕ} 0 1 = cc in omega arith), λ e. absurd (let z : ◌≡◌ {A = ℕ} 0 1 = cc in omega arith))

-- the screen end is reported by the step that sets line C1, and by no other
pub end_line_lem : (reg : List ℕ) (n : ℕ) → (n ≡ 193) ↔ (report_by reg n ≢ NoDisplay)
unfolding report_by
end_line_lem reg n = (there, λ f. back (eqb n 193) refl f)
  where
    told : (b : Bool) → cond b ScreenDone ScreenDoneNoRefresh ≢ NoDisplay
    told true e = let z : ◌≡◌ {A = ℕ} 0 1 = cc in omega arith
    told false e = let z : ◌≡◌ {A = ℕ} 0 1 = cc in omega arith

    there : n ≡ 193 → report_by reg n ≢ NoDisplay
    there e = rw (eq-eqb n 193 e) (told (bit (at reg 1) 6))

    back : (b : Bool) → eqb n 193 ≡ b → cond b (cond (bit (at reg 1) 6) ScreenDone ScreenDoneNoRefresh) NoDisplay ≢ NoDisplay → n ≡ 193
    back true e f = eqb-true n 193 e
    back false e f = absurd (f refl)
