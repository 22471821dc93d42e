-- R7.5: the small fields of a state block as bytes. A flag is 0 or 1; the chosen memory has a number (R11.11); a latch is a flag and a byte, 0 under flag 0.
-- Assumes nothing.
use Rattle.std.specs.Prelude.{ℕ, Bool, true, false, cond, not, ◌||◌, eqb, None, Option, Some}
use Rattle.front.specs.declared.WriteDest.{WriteDest}
use Rattle.front.specs.declared.WriteDest.TheVariants.{Vram, Cram}

abbrev pub flag_of : Bool → ℕ
flag_of true = 1
flag_of false = 0

abbrev pub flag_from : ℕ → Bool
flag_from n = eqb n 1

abbrev pub chosen_of : Option WriteDest → ℕ
chosen_of None = 0
chosen_of (Some Vram) = 1
chosen_of (Some Cram) = 2

abbrev pub chosen_from : ℕ → Option WriteDest
chosen_from n = cond (eqb n 0) None (cond (eqb n 1) (Some Vram) (Some Cram))

abbrev pub latch_flag : Option ℕ → ℕ
latch_flag None = 0
latch_flag (Some b) = 1

abbrev pub latch_byte : Option ℕ → ℕ
latch_byte None = 0
latch_byte (Some b) = b

abbrev pub latch_from : ℕ → ℕ → Option ℕ
latch_from flag byte = cond (eqb flag 0) None (Some byte)

-- R7.6: nothing stands under an empty latch
abbrev pub latch_fits : ℕ → ℕ → Bool
latch_fits flag byte = not (eqb flag 0) || eqb byte 0
