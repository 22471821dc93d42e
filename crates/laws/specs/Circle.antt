-- A circle of 256 places: place 256 is place 0 again.
-- Assumes nothing.
use Rattle.std.specs.Prelude.{ℕ, ◌+◌, ◌-◌, ◌%◌}

-- how far place i is past place k, around the circle
abbrev pub past : ℕ → ℕ → ℕ
past i k = (i + (256 - k % 256)) % 256
