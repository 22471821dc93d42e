-- Where a tile stands, and which tile stands there: each from the other.
-- Assumes nothing.
use mathlib.Core.Path.{◌≡◌}
use mathlib.Core.Bool.{Bool, true, false}
use Prim.Native.Nat.{ℕ, ◌+◌, ◌*◌, ◌/◌, ◌%◌, ◌<◌, ◌≤◌}
use native.Mathlib.Decide.{dec_lt}
use native.Mathlib.Omega.{arith}
use borrow.Author.Tests.{le-leb, lt-leb}
use Rattle.dump.specs.Dump.{tile_column, tile_row, tile_at}

-- the two parts of a pair's row
half : (q r : ℕ) → r < 2 → (2 * q + r) / 2 ≡ q
half q r h = omega arith

rest : (q r : ℕ) → r < 2 → (2 * q + r) % 2 ≡ r
rest q r h = omega arith

pair : (c : ℕ) → 32 * (c / 32) + 2 * (c % 32 / 2) + c % 2 ≡ c
pair c = omega arith

-- where tile c stands, tile c stands
pub tile_there : (tall : Bool) (c : ℕ) → c < 512 → tile_at tall (tile_column tall c) (tile_row tall c) ≡ c
unfolding tile_column tile_row tile_at
tile_there true c h =
    elim (dec_lt c 256) [
      | yes l ↦ let r : c / 16 < 16 = omega arith in rw (lt-leb 256 c l, lt-leb 16 (c / 16) r) (omega arith)
      | no n ↦
          let l : 256 ≤ c = omega arith in
          let r : 16 ≤ 2 * (c / 32) + c % 2 = omega arith in
          let s : c % 2 < 2 = omega arith in
          rw (le-leb 256 c l, le-leb 16 (2 * (c / 32) + c % 2) r, half (c / 32) (c % 2) s, rest (c / 32) (c % 2) s) (pair c)
    ]
tile_there false c h = omega arith

-- at column i of row j stands the tile that is at column i of row j
module _ (i j : ℕ) (hi : i < 16) (hj : j < 32) where
  paired_high : 16 ≤ j → 256 ≤ 32 * (j / 2) + 2 * i + j % 2
  paired_high h = omega arith

  pub column_there : (tall : Bool) → tile_column tall (tile_at tall i j) ≡ i
  unfolding tile_column tile_at
  column_there true =
      elim (dec_lt j 16) [
        | yes l ↦ let r : 16 * j + i < 256 = omega arith in rw (lt-leb 16 j l, lt-leb 256 (16 * j + i) r) (omega arith)
        | no n ↦
            let l : 16 ≤ j = omega arith in
            let r = paired_high l in
            rw (le-leb 16 j l, le-leb 256 (32 * (j / 2) + 2 * i + j % 2) r) (omega arith)
      ]
  column_there false = omega arith

  pub row_there : (tall : Bool) → tile_row tall (tile_at tall i j) ≡ j
  unfolding tile_row tile_at
  row_there true =
      elim (dec_lt j 16) [
        | yes l ↦ let r : 16 * j + i < 256 = omega arith in rw (lt-leb 16 j l, lt-leb 256 (16 * j + i) r) (omega arith)
        | no n ↦
            let l : 16 ≤ j = omega arith in
            let r = paired_high l in
            rw (le-leb 16 j l, le-leb 256 (32 * (j / 2) + 2 * i + j % 2) r) (omega arith)
      ]
  row_there false = omega arith
