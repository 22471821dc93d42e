-- The number of the C face, by which a program tells whether the library that it runs with is the one whose header it was compiled with.
-- Assumes nothing.
use Rattle.std.specs.Prelude.{ℕ, ◌+◌, ◌*◌}

-- major, minor and small: major goes up where a program that was right may have to change, minor where calls are added, small where neither is so
abbrev pub version_of : ℕ → ℕ → ℕ → ℕ
version_of major minor small = 65536 * major + 256 * minor + small

abbrev pub version : ℕ
version = version_of 4 6 0
