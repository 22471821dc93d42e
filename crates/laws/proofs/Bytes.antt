-- A colour and its four bytes, each from the other.
-- Assumes nothing.
use mathlib.Core.Path.{◌≡◌, sym, ap, ◌∙◌}
use Prim.Native.Nat.{ℕ, ◌+◌, ◌*◌, ◌/◌, ◌%◌, ◌<◌}
use native.Mathlib.Nat.{div-div-eq-div-mul}
use native.Mathlib.Omega.{arith}
use Rattle.laws.specs.Paint.{byte_of_colour, of_bytes}

module _ (r g b a : ℕ) (hr : r < 256) (hg : g < 256) (hb : b < 256) (ha : a < 256) where
  second : of_bytes r g b a / 256 ≡ g + 256 * (b + 256 * a)
  second = omega arith

  third : of_bytes r g b a / 65536 ≡ b + 256 * a
  third = sym (div-div-eq-div-mul (of_bytes r g b a) 256 256) ∙ ap (λ (n : ℕ). n / 256) second ∙ omega arith

  fourth : of_bytes r g b a / 16777216 ≡ a
  fourth = sym (div-div-eq-div-mul (of_bytes r g b a) 65536 256) ∙ ap (λ (n : ℕ). n / 256) third ∙ omega arith

  pub byte_0 : byte_of_colour (of_bytes r g b a) 0 ≡ r
  byte_0 = omega arith

  pub byte_1 : byte_of_colour (of_bytes r g b a) 1 ≡ g
  byte_1 = ap (λ (n : ℕ). n % 256) second ∙ omega arith

  pub byte_2 : byte_of_colour (of_bytes r g b a) 2 ≡ b
  byte_2 = ap (λ (n : ℕ). n % 256) third ∙ omega arith

  pub byte_3 : byte_of_colour (of_bytes r g b a) 3 ≡ a
  byte_3 = ap (λ (n : ℕ). n % 256) fourth ∙ omega arith

-- the quotients, each from the one before
in_order :
    (c r0 q1 r1 q2 r2 q3 r3 : ℕ) → r0 + 256 * q1 ≡ c → r1 + 256 * q2 ≡ q1 → r2 + 256 * q3 ≡ q2 → r3 ≡ q3 → of_bytes r0 r1 r2 r3 ≡ c
in_order c r0 q1 r1 q2 r2 q3 r3 e0 e1 e2 e3 = omega arith

low : (n : ℕ) → n % 256 + 256 * (n / 256) ≡ n
low n = omega arith

pub of_bytes_lem : (c : ℕ) → c < 4294967296 → of_bytes (byte_of_colour c 0) (byte_of_colour c 1) (byte_of_colour c 2) (byte_of_colour c 3) ≡ c
of_bytes_lem c h =
    let e2 : c / 65536 ≡ c / 256 / 256 = sym (div-div-eq-div-mul c 256 256) in
    let e3 : c / 16777216 ≡ c / 65536 / 256 = sym (div-div-eq-div-mul c 65536 256) in
    let e4 : c / 16777216 % 256 ≡ c / 16777216 = omega arith in
    in_order c (c % 256) (c / 256) (c / 256 % 256) (c / 65536) (c / 65536 % 256) (c / 16777216) (c / 16777216 % 256)
    (low c) (rw e2 (low (c / 256))) (rw e3 (low (c / 65536))) e4
