-- What the contracts of `program` say of counts.
-- Assumes nothing.
use Rattle.std.specs.Prelude.{◌≡◌, ℕ, ◌≤◌, List, length, take}

-- the first n of these are within them, and are n
abbrev pub IsPrefixLen : ℕ → List ℕ → Type 0
IsPrefixLen n l = (n ≤ length l) × (n ≡ length (take n l))
