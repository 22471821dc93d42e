-- R17.5 in the C face: the number of offsets that changed stands from bit 8 on, and the other buffer is the list.
-- Assumes nothing.
use Rattle.std.specs.Prelude.{List, ℕ, ◌*◌, length}
use Rattle.laws.specs.Lists.{written}
use Rattle.refusal.specs.Refusals.{under}
use Rattle.block_repair.specs.Repair.{mended, changes, repair_lines}
use Rattle.face.specs.Face.{Called, refused}

unfoldable pub repair_call : List ℕ → List ℕ → Called
repair_call b l =
    under (repair_lines b (length l)) (λ r. refused r b l)
    (record { word = 256 * length (changes b); block = mended b; lent = written l 0 (changes b) })
