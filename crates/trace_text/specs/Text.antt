-- R7.10, R7.11: numbers as text, and the lines that a trace prints.
-- Assumes nothing.
use Rattle.std.specs.Prelude.{cond, List, [], ◌∷◌, ◌++◌, ℕ, ◌+◌, ◌/◌, ◌%◌, ltb, None, Option, Some}
use Rattle.points.specs.Points.{interrupt_number, report_number}
use Rattle.trace_text.specs.declared.Answer.{Answer}
use Rattle.trace_text.specs.declared.Answer.TheVariants.{Wrote, Gave, Stepped}

-- ---- R7.10, numbers: in decimal, and in two hexadecimal capitals
-- the last digit of n
abbrev pub digit_of : ℕ → ℕ
digit_of n = 48 + n % 10

-- n in decimal; no number of a trace has more than five digits
unfoldable pub decimal : ℕ → List ℕ
decimal n =
    cond (ltb n 10) (digit_of n ∷ [])
    (cond (ltb n 100) (digit_of (n / 10) ∷ digit_of n ∷ [])
    (cond (ltb n 1000) (digit_of (n / 100) ∷ digit_of (n / 10) ∷ digit_of n ∷ [])
    (cond (ltb n 10000) (digit_of (n / 1000) ∷ digit_of (n / 100) ∷ digit_of (n / 10) ∷ digit_of n ∷ [])
    (digit_of (n / 10000) ∷ digit_of (n / 1000) ∷ digit_of (n / 100) ∷ digit_of (n / 10) ∷ digit_of n ∷ []))))

abbrev pub hex_digit : ℕ → ℕ
hex_digit d = cond (ltb d 10) (48 + d) (55 + d)

abbrev pub hex : ℕ → List ℕ
hex b = hex_digit (b / 16) ∷ hex_digit (b % 16) ∷ []

-- ---- a line: its words with a space between, and the end of the line
abbrev pub line : List (List ℕ) → List ℕ
line [] = 0x0A ∷ []
line (word ∷ []) = word ++ (0x0A ∷ [])
line (word ∷ next ∷ rest) = word ++ (0x20 ∷ line (next ∷ rest))

-- the words `w`, `r`, `s`, `end`, `bad`, `long`
abbrev pub w : List ℕ
w = 0x77 ∷ []

abbrev pub r : List ℕ
r = 0x72 ∷ []

abbrev pub s : List ℕ
s = 0x73 ∷ []

abbrev pub end : List ℕ
end = 0x65 ∷ 0x6E ∷ 0x64 ∷ []

abbrev pub bad : List ℕ
bad = 0x62 ∷ 0x61 ∷ 0x64 ∷ []

abbrev pub long : List ℕ
long = 0x6C ∷ 0x6F ∷ 0x6E ∷ 0x67 ∷ []

-- R7.10: the line of a call's answer, which has its refusal's number; without a call there is none
unfoldable pub line_of : Option Answer → List ℕ
line_of None = []
line_of (Some (Wrote refusal)) = line (w ∷ decimal refusal ∷ [])
line_of (Some (Gave refusal byte)) = line (r ∷ decimal refusal ∷ hex byte ∷ [])
line_of (Some (Stepped refusal counter interrupt report)) =
    line (s ∷ decimal refusal ∷ hex counter ∷ decimal (interrupt_number interrupt) ∷ decimal (report_number report) ∷ [])

-- R7.11, R7.8: the lines of the end, of a bad record and of a long recording
unfoldable pub end_line : ℕ → List ℕ
end_line count = line (end ∷ decimal count ∷ [])

unfoldable pub bad_line : ℕ → List ℕ
bad_line offset = line (bad ∷ decimal offset ∷ [])

unfoldable pub long_line : List ℕ
long_line = line (long ∷ [])

-- a line of one number, by the bytes that stand before it
abbrev pub numbered : List ℕ → ℕ → List ℕ
numbered head n = head ++ (decimal n ++ (0x0A ∷ []))

-- a line that tells a refusal, by its letter, the refusal's number and what stands behind it
abbrev pub told : ℕ → ℕ → List ℕ → List ℕ
told letter n rest = letter ∷ 0x20 ∷ (decimal n ++ rest)
