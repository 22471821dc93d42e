-- A number of at most five digits, as a trace prints it, reads back as that number; and every number that a trace prints in decimal is such a one.
-- Assumes nothing.
use Rattle.std.specs.Prelude.{Err, Ok}
use mathlib.Core.Path.{◌≡◌, refl, sym}
use mathlib.Core.List.{List, [], ◌∷◌}
use Prim.Native.Nat.{ℕ, ◌+◌, ◌-◌, ◌*◌, ◌/◌, ◌<◌, ◌≤◌}
use native.Mathlib.Nat.{div-div-eq-div-mul}
use native.Mathlib.Omega.{arith}
use borrow.Author.Tests.{ltb-true, ltb-false, lt-ltb, le-ltb}
use lib.Dec.{ltb, lit≤}
use lib.ListN.{length}
use Rattle.laws.proofs.Tests.{split}
use Rattle.refusal.specs.declared.Refusal.TheVariants.{UnknownPort, HorizontalCounter, HighRegister, NothingChosen, PaletteRead, NoPaletteByte}
use Rattle.refusal.specs.declared.Refusal.TheVariants.{OutsideMemory, VramLength, PixelLength, BlockMalformed, UnknownArea, FrameTooLong, UnknownTile}
use Rattle.refusal.specs.declared.Refusal.TheVariants.{CodesLength, HighCode, LayerLength, ListLength, RecordRoom}
use Rattle.refusal.specs.Refusals.{refusal_number, Outcome}
use Rattle.trace_run.specs.declared.Device.{Device}
use Rattle.trace_text.specs.Text.{digit_of, decimal}
use Rattle.trace_run.specs.Run.{start, row_turn, ran}
use Rattle.trace_text.proofs.Lines.{one}
use Rattle.trace_run.proofs.Runs.{row_moves, ran_small}

-- the number that decimal digits spell, read from the left behind the number k
abbrev pub spelt : ℕ → List ℕ → ℕ
spelt k [] = k
spelt k (d ∷ ds) = spelt (10 * k + (d - 48)) ds

-- the digits, by the tests that lead to them
two : (n : ℕ) → 10 ≤ n → n < 100 → decimal n ≡ digit_of (n / 10) ∷ digit_of n ∷ []
unfolding decimal
two n g h = rw (le-ltb n 10 g, lt-ltb n 100 h)

three : (n : ℕ) → 100 ≤ n → n < 1000 → decimal n ≡ digit_of (n / 100) ∷ digit_of (n / 10) ∷ digit_of n ∷ []
unfolding decimal
three n g h = rw (le-ltb n 10 (omega arith), le-ltb n 100 g, lt-ltb n 1000 h)

four : (n : ℕ) → 1000 ≤ n → n < 10000 → decimal n ≡ digit_of (n / 1000) ∷ digit_of (n / 100) ∷ digit_of (n / 10) ∷ digit_of n ∷ []
unfolding decimal
four n g h = rw (le-ltb n 10 (omega arith), le-ltb n 100 (omega arith), le-ltb n 1000 g, lt-ltb n 10000 h)

five : (n : ℕ) → 10000 ≤ n → decimal n ≡ digit_of (n / 10000) ∷ digit_of (n / 1000) ∷ digit_of (n / 100) ∷ digit_of (n / 10) ∷ digit_of n ∷ []
unfolding decimal
five n g = rw (le-ltb n 10 (omega arith), le-ltb n 100 (omega arith), le-ltb n 1000 (omega arith), le-ltb n 10000 g)

-- a first digit, and one digit more: q is what stands before the last digit of n
first : (q : ℕ) → q < 10 → 10 * 0 + (digit_of q - 48) ≡ q
first q h = omega arith

more : {k : ℕ} (q n : ℕ) → q ≡ n / 10 → k ≡ q → 10 * k + (digit_of n - 48) ≡ n
more q n e f = omega arith

below_100 : (n : ℕ) → n < 100 → n / 10 < 10
below_100 n h = omega arith

below_1000 : (n : ℕ) → n < 1000 → n / 100 < 10
below_1000 n h = omega arith

below_10000 : (n : ℕ) → n < 10000 → n / 1000 < 10
below_10000 n h = omega arith

below_100000 : (n : ℕ) → n < 100000 → n / 10000 < 10
below_100000 n h = omega arith

-- a number of at most five digits reads back
pub reads_back : (n : ℕ) → n < 100000 → spelt 0 (decimal n) ≡ n
reads_back n h =
    let h1 : n / 100 ≡ n / 10 / 10 = sym (div-div-eq-div-mul n 10 10) in
    let h2 : n / 1000 ≡ n / 100 / 10 = sym (div-div-eq-div-mul n 100 10) in
    let h3 : n / 10000 ≡ n / 1000 / 10 = sym (div-div-eq-div-mul n 1000 10) in
    split (ltb n 10) (λ t. rw (one n (ltb-true n 10 t)) (first n (ltb-true n 10 t)))
    (λ t.
    split (ltb n 100)
    (λ u. let b = ltb-true n 100 u in rw (two n (ltb-false n 10 t) b) (more (n / 10) n refl (first (n / 10) (below_100 n b))))
    (λ u.
    split (ltb n 1000)
    (λ v.
    let b = ltb-true n 1000 v in
    rw (three n (ltb-false n 100 u) b) (more (n / 10) n refl (more (n / 100) (n / 10) h1 (first (n / 100) (below_1000 n b)))))
    (λ v.
    split (ltb n 10000)
    (λ w.
    let b = ltb-true n 10000 w in
    rw (four n (ltb-false n 1000 v) b)
    (more (n / 10) n refl (more (n / 100) (n / 10) h1 (more (n / 1000) (n / 100) h2 (first (n / 1000) (below_10000 n b))))))
    (λ w.
    rw (five n (ltb-false n 10000 w))
    (more (n / 10) n refl
    (more (n / 100) (n / 10) h1 (more (n / 1000) (n / 100) h2 (more (n / 10000) (n / 1000) h3 (first (n / 10000) (below_100000 n h))))))))))

-- every number that is printed in decimal is one: refusals, interrupts, reports, and places and counts in a recording that is not too long
pub refusal_low : (f : Outcome) → refusal_number f < 100000
refusal_low (Ok tt) = lit≤ tt
refusal_low (Err UnknownPort) = lit≤ tt
refusal_low (Err HorizontalCounter) = lit≤ tt
refusal_low (Err HighRegister) = lit≤ tt
refusal_low (Err NothingChosen) = lit≤ tt
refusal_low (Err PaletteRead) = lit≤ tt
refusal_low (Err NoPaletteByte) = lit≤ tt
refusal_low (Err OutsideMemory) = lit≤ tt
refusal_low (Err VramLength) = lit≤ tt
refusal_low (Err PixelLength) = lit≤ tt
refusal_low (Err BlockMalformed) = lit≤ tt
refusal_low (Err UnknownArea) = lit≤ tt
refusal_low (Err FrameTooLong) = lit≤ tt
refusal_low (Err UnknownTile) = lit≤ tt
refusal_low (Err CodesLength) = lit≤ tt
refusal_low (Err HighCode) = lit≤ tt
refusal_low (Err LayerLength) = lit≤ tt
refusal_low (Err ListLength) = lit≤ tt
refusal_low (Err RecordRoom) = lit≤ tt

pub place_low : (d : Device) (s : List ℕ) (vram row frame : List ℕ) → length s ≤ 65535 → (ran row_turn s (start d vram row frame)).run.at < 100000
unfolding ran
place_low d s vram row frame h =
    let g = ran_small row_moves (length s) s (start d vram row frame) refl refl refl in
    omega (arith, g.inside)

pub count_low : (d : Device) (s : List ℕ) (vram row frame : List ℕ) → length s ≤ 65535 → (ran row_turn s (start d vram row frame)).run.count < 100000
unfolding ran
count_low d s vram row frame h =
    let g = ran_small row_moves (length s) s (start d vram row frame) refl refl refl in
    omega (arith, g.inside, g.counted)
