-- `pixel::one_column::first_group` meets its contract: where the search of the list may begin: behind the first sixteens with no sprite on the line.
use Rattle.std.proofs.Common.{◌≡◌, ℕ, ◌-◌, ◌%◌, ◌≤◌, cond}
use Rattle.laws.specs.Lists.{at}
use Rattle.picture.specs.Picture.{table_at, tall, listed}
use Rattle.pixel.proofs.one_column.first_group.Given as goal

abbrev pub invariant-loop-n : goal.invariant-loop-n
invariant-loop-n l =
    (l.n ≤ 64) × (l.n % 16 ≡ 0) × (l.l ≡ l.line) × ((g : ℕ → ℕ) → l.table ≡ table_at g → l.lines ≡ cond (tall g) 16 8 →
    listed (at l.vram) g l.line 64 0 ≡ listed
    (at l.vram) g l.line (64 - l.n) l.n)

abbrev pub decreases-loop-n : goal.decreases-loop-n
decreases-loop-n l = 64 - l.n
