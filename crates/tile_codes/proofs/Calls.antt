-- The answers of the two calls and what they leave, case by case.
-- Assumes nothing.
use Rattle.std.specs.Prelude.{Err, Ok}
use mathlib.Core.Path.{◌≡◌, ◌∙◌}
use mathlib.Core.Logic.{◌≢◌}
use mathlib.Core.Bool.{true, false}
use mathlib.Core.List.{List}
use Prim.Native.Nat.{ℕ, ◌+◌, ◌*◌, ◌<◌, ◌≤◌}
use native.Mathlib.Nat.{zero-add}
use lib.ListN.{length}
use borrow.Author.Tests.{eq-eqb, ne_eqb, le-leb, lt-leb}
use Rattle.laws.specs.Lists.{at, written}
use Rattle.refusal.specs.declared.Refusal.TheVariants.{VramLength, UnknownTile, CodesLength, HighCode}
use Rattle.tile_codes.specs.Tiles.{codes_at, tile_bytes}
use Rattle.tile_codes.specs.Calls.{any_high, read_tile_refusal, write_tile_refusal, tile_written, tile_read, WriteLeaves, ReadLeaves}

module _ (vram : List ℕ) (n : ℕ) (codes : List ℕ) where
  pub write_8 : length vram ≢ 16384 → WriteLeaves vram n codes (Err VramLength) vram
  unfolding write_tile_refusal tile_written
  write_8 h = let t = ne_eqb (length vram) 16384 h in record { outcome = rw t; memory = rw t }

  pub read_8 : length vram ≢ 16384 → ReadLeaves vram n codes (Err VramLength) codes
  unfolding read_tile_refusal tile_read
  read_8 h = let t = ne_eqb (length vram) 16384 h in record { outcome = rw t; buffer = rw t }

  module _ (mem : length vram ≡ 16384) where
    pub write_13 : 511 < n → WriteLeaves vram n codes (Err UnknownTile) vram
    unfolding write_tile_refusal tile_written
    write_13 h = let t = eq-eqb (length vram) 16384 mem in let u = lt-leb n 511 h in record { outcome = rw (t, u); memory = rw (t, u) }

    pub read_13 : 511 < n → ReadLeaves vram n codes (Err UnknownTile) codes
    unfolding read_tile_refusal tile_read
    read_13 h = let t = eq-eqb (length vram) 16384 mem in let u = lt-leb n 511 h in record { outcome = rw (t, u); buffer = rw (t, u) }

    module _ (low : n ≤ 511) where
      pub write_14 : length codes ≢ 64 → WriteLeaves vram n codes (Err CodesLength) vram
      unfolding write_tile_refusal tile_written
      write_14 h =
          let t = eq-eqb (length vram) 16384 mem in
          let u = le-leb n 511 low in
          let v = ne_eqb (length codes) 64 h in
          record { outcome = rw (t, u, v); memory = rw (t, u, v) }

      pub read_14 : length codes ≢ 64 → ReadLeaves vram n codes (Err CodesLength) codes
      unfolding read_tile_refusal tile_read
      read_14 h =
          let t = eq-eqb (length vram) 16384 mem in
          let u = le-leb n 511 low in
          let v = ne_eqb (length codes) 64 h in
          record { outcome = rw (t, u, v); buffer = rw (t, u, v) }

      module _ (many : length codes ≡ 64) where
        pub write_15 : any_high codes ≡ true → WriteLeaves vram n codes (Err HighCode) vram
        unfolding write_tile_refusal tile_written
        write_15 h =
            let t = eq-eqb (length vram) 16384 mem in
            let u = le-leb n 511 low in
            let v = eq-eqb (length codes) 64 many in
            record { outcome = rw (t, u, v, h); memory = rw (t, u, v, h) }

        pub write_0 :
            {vram' : List ℕ} → any_high codes ≡ false → vram' ≡ written vram (32 * n) (tile_bytes (λ k. at codes (0 + k))) → WriteLeaves vram n codes
            (Ok tt) vram'
        unfolding write_tile_refusal tile_written
        write_0 h e =
            let t = eq-eqb (length vram) 16384 mem in
            let u = le-leb n 511 low in
            let v = eq-eqb (length codes) 64 many in
            let z : written vram (32 * n) (tile_bytes (λ k. at codes (0 + k))) ≡ written vram (32 * n) (tile_bytes (at codes)) =
            (λ i. written vram (32 * n) (tile_bytes (λ k. at codes (zero-add k i)))) in
            record { outcome = rw (t, u, v, h); memory = rw (t, u, v, h) (e ∙ z) }

        pub read_0 : {codes' : List ℕ} → codes' ≡ codes_at (at vram) (32 * n) → ReadLeaves vram n codes (Ok tt) codes'
        unfolding read_tile_refusal tile_read
        read_0 e =
            let t = eq-eqb (length vram) 16384 mem in
            let u = le-leb n 511 low in
            let v = eq-eqb (length codes) 64 many in
            record { outcome = rw (t, u, v); buffer = rw (t, u, v) e }
