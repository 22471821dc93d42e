-- The small fields, to bytes and back.
-- Assumes nothing.
use Rattle.std.specs.Prelude.{None, Option, Some, ℕ}
use mathlib.Core.Path.{◌≡◌, refl, sym}
use mathlib.Core.Bool.{Bool, true, false}
use Prim.Native.Nat.{ℕ, zero, suc, ◌+◌, ◌*◌, ◌/◌, ◌%◌, ◌≤◌}
use native.Mathlib.Omega.{arith}
use borrow.Author.Tests.{ne_eqb, eqb-true}
use lib.Dec.{leb}
use Rattle.front.specs.declared.WriteDest.{WriteDest}
use Rattle.front.specs.declared.WriteDest.TheVariants.{Vram, Cram}
use Rattle.fields.specs.Fields.{flag_of, flag_from, chosen_of, chosen_from, latch_flag, latch_byte, latch_from, latch_fits}

-- ---- a field is read back
pub flag_back : (t : Bool) → flag_from (flag_of t) ≡ t
flag_back true = refl
flag_back false = refl

pub chosen_back : (w : Option WriteDest) → chosen_from (chosen_of w) ≡ w
chosen_back None = refl
chosen_back (Some Vram) = refl
chosen_back (Some Cram) = refl

pub latch_back : (l : Option ℕ) → latch_from (latch_flag l) (latch_byte l) ≡ l
latch_back None = refl
latch_back (Some b) = refl

pub address_back : (a : ℕ) → a % 256 + 256 * (a / 256) ≡ a
address_back a = omega arith

-- ---- and its bytes are what they may be
pub flag_ok : (t : Bool) → leb (flag_of t) 1 ≡ true
flag_ok true = refl
flag_ok false = refl

pub chosen_ok : (w : Option WriteDest) → leb (chosen_of w) 2 ≡ true
chosen_ok None = refl
chosen_ok (Some Vram) = refl
chosen_ok (Some Cram) = refl

pub latch_ok : (l : Option ℕ) → leb (latch_flag l) 1 ≡ true
latch_ok None = refl
latch_ok (Some b) = refl

pub byte_ok : (l : Option ℕ) → latch_fits (latch_flag l) (latch_byte l) ≡ true
byte_ok None = refl
byte_ok (Some b) = refl

-- ---- a byte that may be one is that of the field that is read
pub flag_in : (x : ℕ) → x ≤ 1 → flag_of (flag_from x) ≡ x
flag_in zero h = refl
flag_in (suc zero) h = refl
flag_in (suc (suc x)) h = absurd (omega arith)

pub chosen_in : (x : ℕ) → x ≤ 2 → chosen_of (chosen_from x) ≡ x
chosen_in zero h = refl
chosen_in (suc zero) h = refl
chosen_in (suc (suc zero)) h = refl
chosen_in (suc (suc (suc x))) h = absurd (omega arith)

pub latch_flag_in : (f y : ℕ) → f ≤ 1 → latch_flag (latch_from f y) ≡ f
latch_flag_in zero y h = refl
latch_flag_in (suc zero) y h = refl
latch_flag_in (suc (suc f)) y h = absurd (omega arith)

pub latch_byte_in : (f y : ℕ) → latch_fits f y ≡ true → latch_byte (latch_from f y) ≡ y
latch_byte_in zero y h = sym (eqb-true y 0 h)
latch_byte_in (suc f) y h = rw (ne_eqb (suc f) 0 (λ e. omega arith))
