-- What a sprite's columns leave in a layer buffer.
-- Assumes nothing.
use Rattle.std.specs.Prelude.{cond, ◌&&◌, List, ℕ, ◌-◌, ltb, leb, length}
use Rattle.laws.specs.Bits.{bit}
use Rattle.laws.specs.Lists.{at}
use Rattle.laws.specs.Table.{table}
use Rattle.picture.specs.Layers.{owner}

-- R15.1, R15.2: the layers of a row of `width` columns with the first `count` columns of sprite n, from column x on: bits k of `drawn` and `held` say what
-- became of its column k. Off the row it has no byte
unfoldable pub stamped : List ℕ → ℕ → ℕ → ℕ → ℕ → ℕ → ℕ → List ℕ
stamped layers width x n drawn held count =
    table (length layers)
    (λ k. cond (leb x k && (ltb (k - x) count && ltb k width)) (owner n (bit drawn (k - x)) (bit held (k - x)) (at layers k)) (at layers k))
