-- The counter's place in its pass: before the jump the counter itself, after it as much more as the jump went back. A step takes the place one up.
-- Assumes nothing.
use mathlib.Core.Path.{◌≡◌, refl}
use mathlib.Core.Logic.{◌↔◌, ◌⊎◌, inl, inr, ⊎_elim}
use mathlib.Core.Bool.{Bool, true, false, cond, not, ◌&&◌, ◌||◌}
use Prim.Native.Nat.{ℕ, suc, ◌+◌, ◌-◌, ◌%◌, ◌≤◌, ◌<◌}
use native.Mathlib.Omega.{arith}
use lib.Dec.{eqb}
use borrow.Author.Tests.{eqb-true, eqb-false, ne_eqb}
use Rattle.laws.proofs.Tests.{split}
use Rattle.laws.proofs.Once.{Next}
use Rattle.raster.specs.declared.Raster.{Raster}
use Rattle.raster.specs.Raster.{jump_line, jump_to, up, jumps, starts}
use Rattle.raster.proofs.Tables.{jump_back, jump_above, jump_high}

-- the line that a step sets, and the flag that it leaves
abbrev pub line : Raster → ℕ
line x = cond (jumps x) jump_to (up x)

abbrev pub flag : Raster → Bool
flag x = cond (starts x) false (jumps x || x.v_counter_jumped)

-- before the jump (from J to T) the counter is below the jump line; after it, from T to FF
abbrev pub Within : (J T : ℕ) → Bool → ℕ → Type 0
Within J T false c = c < J
Within J T true c = (T ≤ c) × (c < 256)

abbrev pub place_of : (J T : ℕ) → Bool → ℕ → ℕ
place_of J T b c = cond b (c + (J - T)) c

-- what a step at place p leaves: a counter in its bounds, and the next place of a pass of J + (256 - T)
pub record Ticked (J T p : ℕ) (jumped : Bool) (c : ℕ) : Type 0 where
  pub within : Within J T jumped c
  pub next : Next (J + (256 - T)) p (place_of J T jumped c)

abbrev line_of : (J T : ℕ) → Bool → ℕ → ℕ
line_of J T b u = cond (eqb u J && not b) T u

abbrev flag_of : (J : ℕ) → Bool → ℕ → Bool
flag_of J b u = cond (eqb u 0) false ((eqb u J && not b) || b)

module _ (J T : ℕ) (back : T < J) (above : 0 < T) (high : J < 256) where
  stepped : (b : Bool) (c u : ℕ) → Within J T b c → u ≡ (c + 1) % 256 → Ticked J T (place_of J T b c) (flag_of J b u) (line_of J T b u)
  stepped false c u w e =
      split (eqb u J)
      (λ t.
      let at : u ≡ J = eqb-true u J t in
      rw (t, ne_eqb u 0 (λ z. omega arith))
      record { within = (omega arith, omega arith); next = record { goes = λ h. omega arith; wraps = λ h. omega arith } })
      (λ t.
      let off : u ≡ J → ⊥ = eqb-false u J t in
      let u' : u ≡ c + 1 = omega arith in
      rw (t, ne_eqb u 0 (λ z. omega arith))
      record { within = omega arith; next = record { goes = λ h. omega arith; wraps = λ h. omega arith } })
  stepped true c u w e = go (eqb u J) (eqb u 0) refl refl
    where
      wrapped : u ≡ 0 → Ticked J T (c + (J - T)) false u
      wrapped z = record { within = omega arith; next = record { goes = λ h. omega arith; wraps = λ h. omega arith } }

      onward : (u ≡ 0 → ⊥) → Ticked J T (c + (J - T)) true u
      onward z =
          let u' : u ≡ c + 1 = omega arith in
          record { within = (omega arith, omega arith); next = record { goes = λ h. omega arith; wraps = λ h. omega arith } }

      go : (t z : Bool) → eqb u J ≡ t → eqb u 0 ≡ z → Ticked J T (c + (J - T)) (flag_of J true u) (line_of J T true u)
      go true true t z = rw (t, z) (wrapped (eqb-true u 0 z))
      go true false t z = rw (t, z) (onward (eqb-false u 0 z))
      go false true t z = rw (t, z) (wrapped (eqb-true u 0 z))
      go false false t z = rw (t, z) (onward (eqb-false u 0 z))

  -- below T the counter and its place are the same
  pub same_place : (b : Bool) (c q : ℕ) → Within J T b c → q < T → (place_of J T b c ≡ q) ↔ (c ≡ q)
  same_place false c q w h = (λ e. e, λ e. e)
  same_place true c q w h = (λ e. absurd (omega arith), λ e. absurd (omega arith))

  -- a line that the jump goes back over has two places, a line after the jump one
  pub two_places :
      (b : Bool) (c q : ℕ) → Within J T b c → T ≤ q → q < J → ((place_of J T b c ≡ q) ⊎ (place_of J T b c ≡ q + (J - T))) ↔ (c ≡ q)
  two_places false c q w l h = (⊎_elim (λ e. e) (λ e. absurd (omega arith)), λ e. inl e)
  two_places true c q w l h = (⊎_elim (λ e. absurd (omega arith)) (λ e. omega arith), λ e. inr (omega arith))

  pub late_place : (b : Bool) (c q : ℕ) → Within J T b c → J ≤ q → (place_of J T b c ≡ q + (J - T)) ↔ (c ≡ q)
  late_place false c q w h = (λ e. absurd (omega arith), λ e. absurd (omega arith))
  late_place true c q w h = (λ e. omega arith, λ e. omega arith)

  -- a counter whose place is n or later is itself at n or later
  pub no_less : (b : Bool) (c n : ℕ) → Within J T b c → n ≤ T → n ≤ place_of J T b c → n ≤ c
  no_less false c n w h l = l
  no_less true c n w h l = omega arith

  -- before the last place of a pass the counter does not become 0
  pub not_yet : (b : Bool) (c : ℕ) → Within J T b c → suc (place_of J T b c) < J + (256 - T) → (c + 1) % 256 ≡ 0 → ⊥
  not_yet false c w h e = omega arith
  not_yet true c w h e = omega arith

  pub place_below : (b : Bool) (c : ℕ) → Within J T b c → place_of J T b c < J + (256 - T)
  place_below false c w = omega arith
  place_below true c w = omega arith

-- a raster as every step leaves it, and its place
abbrev pub InPass : Raster → Type 0
InPass x = Within (jump_line x.table) jump_to x.v_counter_jumped x.v_counter

abbrev pub place : Raster → ℕ
place x = place_of (jump_line x.table) jump_to x.v_counter_jumped x.v_counter

pub tick : (x : Raster) → InPass x → Ticked (jump_line x.table) jump_to (place x) (flag x) (line x)
unfolding jumps starts
tick x w =
    let t = x.table in
    stepped (jump_line t) jump_to (jump_back t) jump_above (jump_high t) x.v_counter_jumped x.v_counter (up x) w refl
