-- A colour's four bytes, and an array that calls give, one element after the other.
-- Assumes nothing.
use mathlib.Core.Path.{◌≡◌, ◌∙◌}
use mathlib.Core.List.{List}
use Prim.Native.Nat.{ℕ, zero, suc, ◌+◌, ◌*◌, ◌<◌}
use native.Mathlib.Omega.{arith}
use lib.ListN.{length, get_or}
use Rattle.laws.specs.Lists.{at}
use Rattle.laws.specs.Paint.{byte_of_colour}
use Rattle.laws.specs.Table.{table}
use Rattle.laws.proofs.Bytes.{byte_0, byte_1, byte_2, byte_3}
use Rattle.laws.proofs.Tables.{length-table, get_d_table, is_table}
use Rattle.std.specs.Array.{IsFromFnResult, IsFromFnResultFrom}
use Rattle.std.specs.Fn.{Mut, Called}
use native.Mathlib.Nat.{not-suc-le-zero}
use Rattle.colour.specs.Colour.{red, green, blue, colour, colours_of}
use Rattle.colour.specs.Home.{home_colour, home_colours_of}

-- R4.6, the order of its bytes
module _ (a b : ℕ) (small : a < 256) where
  pub red_byte : byte_of_colour (colour a b) 0 ≡ red a b
  unfolding colour
  red_byte = byte_0 (red a b) (green a b) (blue a b) 255 (omega arith) (omega arith) (omega arith) (omega arith)

  pub green_byte : byte_of_colour (colour a b) 1 ≡ green a b
  unfolding colour
  green_byte = byte_1 (red a b) (green a b) (blue a b) 255 (omega arith) (omega arith) (omega arith) (omega arith)

  pub blue_byte : byte_of_colour (colour a b) 2 ≡ blue a b
  unfolding colour
  blue_byte = byte_2 (red a b) (green a b) (blue a b) 255 (omega arith) (omega arith) (omega arith) (omega arith)

  pub last_byte : byte_of_colour (colour a b) 3 ≡ 255
  unfolding colour
  last_byte = byte_3 (red a b) (green a b) (blue a b) 255 (omega arith) (omega arith) (omega arith) (omega arith)

pub length_colours : (p : List ℕ) → length (colours_of p) ≡ 32
unfolding colours_of
length_colours p = length-table 32 _

pub colours_at_lem : (p : List ℕ) (i : ℕ) → i < 32 → at (colours_of p) i ≡ colour (at p (2 * i)) (at p (2 * i + 1))
unfolding colours_of
colours_at_lem p i h = get_d_table 32 (λ i. colour (at p (2 * i)) (at p (2 * i + 1))) i h

-- an array that calls at 0, 1, .. gave, where a call at i gives h i and keeps what K says of the callee
module _ {F : Type 0} (g : Mut F (ℕ × Unit {0}) ℕ) (K : F → Type 0) (h : ℕ → ℕ)
    (step : (p : F) (i y : ℕ) (q : F) → K p → Called g p (i, tt) y q → (y ≡ h i) × K q) where
  called_from : (n i : ℕ) (p : F) (ys : List ℕ) → K p → IsFromFnResultFrom g p ys i n → (j k : ℕ) → k ≡ i + j → j < n → get_or ys k 0 ≡ h k
  called_from zero i p ys e all j k at below = absurd (not-suc-le-zero below)
  called_from (suc n) i p ys e all zero k at below =
      let here : k ≡ i = omega arith in
      rw here (all.2.1 0 ∙ (step p i all.1 all.0 e all.3).0)
  called_from (suc n) i p ys e all (suc j) k at below =
      called_from n (i + 1) all.0 ys (step p i all.1 all.0 e all.3).1 all.4 j k (omega arith) (omega arith)

  pub is_table_by_calls : (n : ℕ) (p : F) (ys : List ℕ) → K p → IsFromFnResult g p ys n → ys ≡ table n h
  is_table_by_calls n p ys e all = is_table ys n h all.long (λ k below. called_from n 0 p ys e all.each k k (omega arith) below)

-- ---- the home machine's
pub length-home_colours : (p : List ℕ) → length (home_colours_of p) ≡ 32
unfolding home_colours_of
length-home_colours p = length-table 32 _

pub home_colours_at : (p : List ℕ) (i : ℕ) → i < 32 → at (home_colours_of p) i ≡ home_colour (at p i)
unfolding home_colours_of
home_colours_at p i h = get_d_table 32 (λ i. home_colour (at p i)) i h
