-- Four colours of pixels side by side.
-- Assumes nothing.
use Rattle.std.specs.Prelude.{cond, ℕ, zero, suc, ◌+◌}
use Rattle.laws.specs.Bits.{bit}
use Rattle.tile.specs.declared.Four.{Four}

-- the four that f has from k on
unfoldable pub fours : (ℕ → ℕ) → ℕ → Four
fours f k = record { a = f k; b = f (k + 1); c = f (k + 2); d = f (k + 3) }

-- one of four
unfoldable pub one_of : Four → ℕ → ℕ
one_of v zero = v.a
one_of v (suc zero) = v.b
one_of v (suc (suc zero)) = v.c
one_of v (suc (suc (suc i))) = v.d

-- of each two the new one where the bit of `drawn` is set, from bit k on, else the old
unfoldable pub chosen_of : ℕ → ℕ → Four → Four → Four
chosen_of drawn k new old =
    record {
      a = cond (bit drawn k) new.a old.a;
      b = cond (bit drawn (k + 1)) new.b old.b;
      c = cond (bit drawn (k + 2)) new.c old.c;
      d = cond (bit drawn (k + 3)) new.d old.d;
    }
