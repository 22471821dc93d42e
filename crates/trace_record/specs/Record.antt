-- R7.9: the records of a recording, as they are read.
-- Assumes nothing.
use Rattle.std.specs.Prelude.{cond, List, ℕ, ◌+◌, ◌-◌, ◌*◌, ltb, leb, eqb, length}
use Rattle.laws.specs.Lists.{at}
use Rattle.picture.specs.Area.{area_from}
use Rattle.trace_record.specs.declared.Record.{Record}
use Rattle.trace_record.specs.declared.Record.TheVariants.{Write, Read, Step, Bad, End}

-- the record of the mark m, `PW`, `PR` or `LS`, at offset k, with n bytes from there to the end;
-- R7.11: one with another mark, an area above 2 or bytes missing is bad
unfoldable pub marked : List ℕ → ℕ → ℕ → ℕ → Record
marked s k n m =
    cond (eqb m 0x5057) (cond (ltb n 4) Bad (Write (at s (k + 2)) (at s (k + 3))))
    (cond (eqb m 0x5052) (Read (at s (k + 2)))
    (cond (eqb m 0x4C53) (cond (ltb 2 (at s (k + 2))) Bad (Step (area_from (at s (k + 2))))) Bad))

-- the record at offset k: the shortest has 3 bytes, and the mark is the first two
unfoldable pub record_at : List ℕ → ℕ → Record
record_at s k =
    cond (leb (length s) k) End (cond (ltb (length s - k) 3) Bad (marked s k (length s - k) (256 * at s k + at s (k + 1))))
