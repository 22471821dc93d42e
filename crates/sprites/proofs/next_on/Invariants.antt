-- `sprites::next_on` meets its contract: the next sprite on the line, of those from sprite `from` on.
use Rattle.std.proofs.Common.{◌≡◌, ℕ, ◌-◌, cond}
use Rattle.laws.specs.Lists.{at}
use Rattle.picture.specs.Picture.{table_at, tall, listed}
use Rattle.sprites.proofs.next_on.Given as goal

abbrev pub invariant-loop-n : goal.invariant-loop-n
invariant-loop-n l =
    (g : ℕ → ℕ) → l.table ≡ table_at g → l.lines ≡ cond (tall g) 16 8 → listed (at l.vram) g l.line (64 - l.from) l.from ≡ listed
    (at l.vram) g l.line (64 - l.n) l.n
