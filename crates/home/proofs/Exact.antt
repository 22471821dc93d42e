-- A port call of the home machine is refused by the first line of its table that holds, and leaves what the table's column says. So 6 never comes of a
-- write, and 7 only where the address lies outside.
-- Assumes nothing.
use Rattle.std.specs.Prelude.{Ok}
use Prim.Native.Nat.{ℕ}
use mathlib.Core.Path.{◌≡◌, refl, sym, ap, ◌∙◌}
use mathlib.Core.Logic.{◌≢◌}
use mathlib.Core.List.{List, []}
use native.Mathlib.Omega.{arith}
use Rattle.laws.proofs.Tests.{either, cond-in}
use Rattle.refusal.specs.Refusals.{refusal_number, first, outcome_of, byte_given}
use Rattle.front.specs.Ports.{front_write}
use Rattle.front.proofs.Exact.{front_write_exact, front_read_exact}
use Rattle.front.proofs.Behind.{front_write_behind, front_read_behind}
use Rattle.front.proofs.Invariant.{front_write_inside, front_read_inside}
use Rattle.front.proofs.Kept.{write_kept}
use Rattle.refusal.proofs.Tables.{first_not}
use Rattle.home.specs.declared.HomeState.{HomeState}
use Rattle.front.specs.declared.Written.{Written}
use Rattle.front.specs.declared.ReadBack.{ReadBack}
use Rattle.home.specs.Home.{with_front}
use Rattle.home.specs.Ports.{After, port_write, port_read, device_left, write_lines, read_lines}
use Rattle.home.specs.Promises.{OutsideOnly}

-- ---- the first line that holds
module _ (h : HomeState) (m : List ℕ) (p : ℕ) where
  pub write_exact : (v : ℕ) → (port_write h m p v).answer.outcome ≡ first (write_lines h m p v)
  unfolding port_write
  write_exact v =
      sym (cond-in (λ (w : Written HomeState). w.outcome) (front_write 32 h.front m p v).answer.palette _ _)
      ∙ front_write_exact 32 h.front m v (λ f. (Ok tt)) p [] (λ _. refl) (λ _. refl)

  pub read_exact : outcome_of (port_read h m p).byte ≡ first (read_lines h m p)
  unfolding port_read
  read_exact = front_read_exact 32 h.front m p h.raster.v_counter

-- ---- what a refused call leaves: the device as the column says, and video memory; byte 0
module _ (h : HomeState) where
  pub record LeftA (m : List ℕ) (a : After) : Type 0 where
    pub device : a.answer.outcome ≢ (Ok tt) → a.answer.device ≡ device_left a.answer.outcome h
    pub memory : a.answer.outcome ≢ (Ok tt) → a.vram ≡ m

  pub record LeftR (a : ReadBack HomeState) : Type 0 where
    pub device : outcome_of a.byte ≢ (Ok tt) → a.device ≡ device_left (outcome_of a.byte) h
    pub zero : outcome_of a.byte ≢ (Ok tt) → byte_given a.byte ≡ 0

  abbrev LeftW : Written HomeState → Type 0
  LeftW a = a.outcome ≢ (Ok tt) → a.device ≡ device_left a.outcome h

  pub write_behind : (m : List ℕ) (p v : ℕ) → LeftA m (port_write h m p v)
  unfolding port_write
  write_behind m p v =
      let a = front_write 32 h.front m p v in
      let k = write_kept 32 h.front m p v in
      let b = front_write_behind h.front 32 m p v in
      record {
        device = either LeftW a.answer.palette (λ _ n. absurd (n refl)) (λ _ n. ap (with_front h) (b.front n));
        memory = either (λ (w : Written HomeState). w.outcome ≢ (Ok tt) → a.vram ≡ m) a.answer.palette (λ t _. (k.palette t).memory)
            (λ _ n. b.memory n);
      }

  pub read_behind : (m : List ℕ) (p : ℕ) → LeftR (port_read h m p)
  unfolding port_read
  read_behind m p =
      let b = front_read_behind h.front m p h.raster.v_counter in
      record { device = λ n. ap (with_front h) (b.front n); zero = b.zero }

-- ---- 6 and 7
pub never_six : (h : HomeState) (m : List ℕ) (p v : ℕ) → refusal_number (port_write h m p v).answer.outcome ≢ 6
never_six h m p v =
    rw (write_exact h m p v)
    (first_not 6 (λ z. omega arith) (write_lines h m p v)
    (λ _. omega arith, (λ _. omega arith, (λ _. omega arith, (λ _. omega arith, (λ _. omega arith, tt))))))

pub outside_only : OutsideOnly
outside_only =
    record {
      write = λ h m p v aimed. rw (write_exact h m p v) (front_write_inside 32 h.front m p aimed v [] tt);
      read = λ h m p aimed. rw (read_exact h m p) (front_read_inside 32 h.front m p aimed);
    }
