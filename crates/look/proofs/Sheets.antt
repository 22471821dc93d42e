-- The sheet that a dump leaves: refused, accepted, and its length.
-- Assumes nothing.
use mathlib.Core.Path.{◌≡◌, refl, sym, ◌∙◌}
use mathlib.Core.Bool.{false, ◌&&◌}
use mathlib.Core.List.{List}
use Prim.Native.Nat.{ℕ}
use lib.Dec.{eqb}
use lib.ListN.{length}
use borrow.Author.Tests.{eq-eqb, eqb-true}
use Rattle.laws.proofs.Tables.{length-table}
use Rattle.laws.proofs.Tests.{either, both}
use Rattle.refusal.specs.Refusals.{whole}
use Rattle.dump.specs.Dump.{dump_size, dumped}
use Rattle.dump.specs.Sheet.{sheet_after}

module _ (reg colours vram pixels : List ℕ) where
  pub dump_refused : (whole vram && eqb (length pixels) dump_size) ≡ false → sheet_after reg colours vram pixels ≡ pixels
  unfolding sheet_after
  dump_refused t = rw t

  pub dump_accepted : length vram ≡ 16384 → length pixels ≡ 131072 → sheet_after reg colours vram pixels ≡ dumped vram reg colours pixels
  unfolding sheet_after
  dump_accepted m n = rw (eq-eqb (length vram) 16384 m, eq-eqb (length pixels) 131072 n)

  pub dump_length : length (sheet_after reg colours vram pixels) ≡ length pixels
  unfolding sheet_after dumped
  dump_length =
      either (λ (l : List ℕ). length l ≡ length pixels) (whole vram && eqb (length pixels) dump_size)
      (λ t. length-table 131072 _ ∙ sym (eqb-true (length pixels) 131072 (both (whole vram) (eqb (length pixels) 131072) t).1))
      (λ t. refl)
