-- What happens exactly once, and exactly twice.
-- Assumes nothing.
use Rattle.std.specs.Prelude.{◌≡◌, ◌⊎◌, ℕ, ◌<◌}

-- exactly one i below n has Q
pub record ExactlyOnce (n : ℕ) (Q : ℕ → Type 0) : Type 0 where
  pub at : ℕ
  pub below : at < n
  pub holds : Q at
  pub only : (j : ℕ) → j < n → Q j → j ≡ at

-- exactly two do
pub record ExactlyTwice (n : ℕ) (Q : ℕ → Type 0) : Type 0 where
  pub first : ℕ
  pub second : ℕ
  pub apart : first < second
  pub below : second < n
  pub holds_first : Q first
  pub holds_second : Q second
  pub only : (j : ℕ) → j < n → Q j → (j ≡ first) ⊎ (j ≡ second)
