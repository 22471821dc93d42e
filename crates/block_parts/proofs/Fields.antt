-- What is asked of the bytes that both blocks have, part by part.
-- Assumes nothing.
use mathlib.Core.Path.{◌≡◌}
use mathlib.Core.Bool.{true, ◌&&◌}
use mathlib.Core.List.{List}
use Prim.Native.Nat.{ℕ, ◌≤◌}
use borrow.Author.Tests.{leb-true}
use lib.Dec.{leb}
use Rattle.laws.specs.Lists.{at}
use Rattle.laws.proofs.Tests.{both}
use Rattle.fields.specs.Fields.{latch_fits}
use Rattle.block_parts.specs.Parts.{fields_fit}

pub record Fit (b : List ℕ) : Type 0 where
  pub flag_15 : at b 15 ≤ 1
  pub chosen_20 : at b 20 ≤ 2
  pub flag_21 : at b 21 ≤ 1
  pub command : latch_fits (at b 21) (at b 22) ≡ true

pub fit : (b : List ℕ) → fields_fit b ≡ true → Fit b
fit b e =
    let t15 = leb (at b 15) 1 in
    let t20 = leb (at b 20) 2 in
    let t21 = leb (at b 21) 1 in
    let three = both (t15 && t20 && t21) (latch_fits (at b 21) (at b 22)) e in
    let two = both (t15 && t20) t21 three.0 in
    let one = both t15 t20 two.0 in
    record {
      flag_15 = leb-true (at b 15) 1 one.0;
      chosen_20 = leb-true (at b 20) 2 one.1;
      flag_21 = leb-true (at b 21) 1 two.1;
      command = three.1;
    }
