-- Numbers and lines, as the code writes them.
-- Assumes nothing.
use Rattle.std.specs.Prelude.{None, Option, Some}
use mathlib.Core.Path.{◌≡◌, sym, ap, ◌∙◌}
use mathlib.Core.List.{List, [], ◌∷◌, ◌++◌, append_assoc}
use Prim.Native.Nat.{ℕ, ◌+◌, ◌-◌, ◌/◌, ◌%◌, ◌<◌, ◌≤◌}
use native.Mathlib.Omega.{arith}
use borrow.Author.Tests.{lt-ltb}
use lib.Dec.{ltb, lit≤}
use lib.ListN.{length, take, drop, length-append}
use Rattle.laws.specs.Lists.{written}
use Rattle.laws.proofs.Lists.{written_on, written_nil}
use Rattle.laws.proofs.Tests.{either}
use Rattle.points.specs.declared.VdpInt.{VdpInt}
use Rattle.points.specs.declared.DisplayRefresh.{DisplayRefresh}
use Rattle.points.specs.Points.{interrupt_number, report_number}
use Rattle.trace_text.specs.declared.Answer.{Answer}
use Rattle.trace_text.specs.declared.Answer.TheVariants.{Stepped}
use Rattle.trace_text.specs.Text.{digit_of, decimal, hex_digit, told, line_of}

-- a number of one digit
pub one : (n : ℕ) → n < 10 → decimal n ≡ digit_of n ∷ []
unfolding decimal
one n h = rw (lt-ltb n 10 h)

-- the same, as the code writes it
as_digit : {x n : ℕ} → x ≡ n → x < 10 → (48 + x) ∷ [] ≡ decimal n
as_digit {x} {n} e h =
    let d : 48 + x ≡ digit_of n = omega arith in
    ap (λ (k : ℕ). k ∷ []) d ∙ sym (one n (omega arith))

-- a number is as many of its five last digits as it has
abbrev pub five : ℕ → List ℕ
five n = digit_of (n / 10000) ∷ digit_of (n / 1000) ∷ digit_of (n / 100) ∷ digit_of (n / 10) ∷ digit_of n ∷ []

pub printed : (n k : ℕ) → length (decimal n) + k ≡ 5 → take (5 - k) (drop k (five n)) ≡ decimal n
unfolding decimal
printed n k =
    let P : List ℕ → Type 0 = λ l. length l + k ≡ 5 → take (5 - k) (drop k (five n)) ≡ l in
    either P (ltb n 10) (λ _ h. let e : k ≡ 4 = omega arith in rw e)
    (λ _.
    either P (ltb n 100) (λ _ h. let e : k ≡ 3 = omega arith in rw e)
    (λ _.
    either P (ltb n 1000) (λ _ h. let e : k ≡ 2 = omega arith in rw e)
    (λ _. either P (ltb n 10000) (λ _ h. let e : k ≡ 1 = omega arith in rw e) (λ _ h. let e : k ≡ 0 = omega arith in rw e))))

pub decimal_short : (n : ℕ) → length (decimal n) ≤ 5
unfolding decimal
decimal_short n =
    let P : List ℕ → Type 0 = λ l. length l ≤ 5 in
    either P (ltb n 10) (λ _. lit≤ tt)
    (λ _. either P (ltb n 100) (λ _. lit≤ tt)
    (λ _. either P (ltb n 1000) (λ _. lit≤ tt) (λ _. either P (ltb n 10000) (λ _. lit≤ tt) (λ _. lit≤ tt))))

-- what was written, said in another way
pub put_as :
    (o : List ℕ) (at : ℕ) {x y o' : List ℕ} {r : ℕ} → x ≡ y → (r ≡ at + length x) × (o' ≡ written o at x)
    → (r ≡ at + length y) × (o' ≡ written o at y)
put_as o at e h = (h.0 ∙ ap (λ (l : List ℕ). at + length l) e, h.1 ∙ ap (written o at) e)

-- the line of an answer, by its cases: what was written is that line
pub line_done :
    (o : List ℕ) (at : ℕ) {a : Option Answer} {b c : Answer} {x o' : List ℕ} {r : ℕ} → a ≡ Some b → b ≡ c → x ≡ line_of (Some c)
    → (r ≡ at + length x) × (o' ≡ written o at x) → (r ≡ at + length (line_of a)) × (o' ≡ written o at (line_of a))
line_done o at e d f h = put_as o at (f ∙ ap line_of (sym (e ∙ ap Some d))) h

pub no_line : (o : List ℕ) (at : ℕ) {a : Option Answer} → a ≡ None → (at ≡ at + length (line_of a)) × (o ≡ written o at (line_of a))
unfolding line_of
no_line o at e = put_as o at {x = []} (ap line_of (sym e)) (omega arith, sym (written_nil o at))

pub step_line :
    (f k : ℕ) (i : VdpInt) (d : DisplayRefresh) {h l x y : ℕ} → h ≡ hex_digit (k / 16) → l ≡ hex_digit (k % 16)
    → (x ≡ interrupt_number i) × (x < 2) → (y ≡ report_number d) × (y < 3)
    → told 0x73 f (0x20 ∷ h ∷ l ∷ 0x20 ∷ (48 + x) ∷ 0x20 ∷ (48 + y) ∷ 0x0A ∷ []) ≡ line_of (Some (Stepped f k i d))
unfolding line_of
step_line f k i d eh el p q =
    let ei = as_digit p.0 (omega (arith, p.1)) in
    let ed = as_digit q.0 (omega (arith, q.1)) in
    λ j. told 0x73 f (0x20 ∷ eh j ∷ el j ∷ 0x20 ∷ (ei j ++ (0x20 ∷ (ed j ++ (0x0A ∷ [])))))

-- a text from the start of o on, and one more piece of it
pub grow :
    (o l m : List ℕ) {n n' : ℕ} {o' o'' : List ℕ} → length l ≤ length o → n ≡ length l → o' ≡ written o 0 l
    → (n' ≡ n + length m) × (o'' ≡ written o' n m) → (n' ≡ length (l ++ m)) × (o'' ≡ written o 0 (l ++ m))
grow o l m {n} {n'} {o'} {o''} room en eo p =
    let b : n ≡ 0 + length l = omega arith in (
      p.0 ∙ ap (λ (k : ℕ). k + length m) en ∙ sym (length-append l m),
      p.1 ∙ ap (λ (y : List ℕ). written y n m) eo ∙ written_on o 0 l m b (omega arith),
    )

-- three texts, side by side
pub three_writes :
    (o : List ℕ) (at : ℕ) (x y z : List ℕ) {o1 o2 o3 : List ℕ} {a1 a2 r : ℕ} → at + length x + length y + length z ≤ length o
    → o1 ≡ written o at x → a1 ≡ at + length x → o2 ≡ written o1 a1 y → a2 ≡ a1 + length y → o3 ≡ written o2 a2 z → r ≡ a2 + length z
    → (r ≡ at + length (x ++ (y ++ z))) × (o3 ≡ written o at (x ++ (y ++ z)))
three_writes o at x y z {o1} {o2} {o3} {a1} {a2} {r} h e1 f1 e2 f2 e3 f3 =
    let p : o2 ≡ written o at (x ++ y) = e2 ∙ ap (λ (t : List ℕ). written t a1 y) e1 ∙ written_on o at x y f1 (omega arith) in
    let k : length (x ++ y) ≡ length x + length y = length-append x y in
    let g : a2 ≡ at + length (x ++ y) = omega arith in
    let q : o3 ≡ written o at ((x ++ y) ++ z) = e3 ∙ ap (λ (t : List ℕ). written t a2 z) p ∙ written_on o at (x ++ y) z g (omega arith) in
    (simp length-append (omega arith), q ∙ ap (written o at) (append_assoc x y z))
