-- Pixels put into a row: what each byte is after it, and what stays.
-- Assumes nothing.
use mathlib.Core.Path.{◌≡◌, refl, sym, ap, ◌∙◌}
use mathlib.Core.List.{List, ◌++◌}
use mathlib.Core.Bool.{Bool, true, false, cond, ◌&&◌, and-false}
use Prim.Native.Nat.{ℕ, zero, suc, ◌+◌, ◌-◌, ◌*◌, ◌/◌, ◌%◌, ◌<◌, ◌≤◌}
use mathlib.Core.Logic.{⊎_elim}
use native.Mathlib.Nat.{eq-or-lt_of_le, le_of_suc-le-suc, add-zero, zero-add, add-suc, add_assoc}
use native.Mathlib.Numerals.{add-one}
use native.Mathlib.Omega.{arith}
use lib.ListN.{length, get_or, set, drop, length-set, length-append, length-drop, get_or-append}
use lib.Seq.{get_or-set_same, get_or-set_other, get_or-append-add, get_or-drop, ext_get_or}
use lib.Dec.{eqb, ltb, leb}
use native.Mathlib.Decide.{ℕ_discrete, dec_lt}
use borrow.Author.Tests.{eq-eqb, ne_eqb, eqb-true, eqb-false, ltb-true, ltb-false, lt-ltb, le-ltb, le-leb, lt-leb}
use Rattle.laws.specs.Paint.{put, painted, byte_of_colour, over, put_if, overlaid, overlay}
use Rattle.laws.specs.Table.{table}
use Rattle.laws.proofs.Tables.{length-table, get_d_table}
use Rattle.laws.proofs.Tests.{same_cond}

pub painted_more : (row : List ℕ) (x n : ℕ) (f : ℕ → ℕ) → painted row x (n + 1) f ≡ put (painted row x n f) (x + n) (f n)
unfolding painted
painted_more row x n f = rw add-one

-- one pixel more: what a turn of a loop that paints shows
pub painted_step : (row₀ : List ℕ) (x i : ℕ) (f : ℕ → ℕ) {row row' : List ℕ} {v : ℕ} → row ≡ painted row₀ x i f → v ≡ f i → row' ≡ put row (x + i)
    v → row' ≡ painted row₀ x (i + 1) f
painted_step row₀ x i f e q p = rw (painted_more, ← e, ← q) p

-- ---- what `put` and `painted` leave, byte by byte
pub length-put : (row : List ℕ) (x c : ℕ) → length (put row x c) ≡ length row
unfolding put
length-put row x c = simp length-set

pub length-painted : (row : List ℕ) (x n : ℕ) (f : ℕ → ℕ) → length (painted row x n f) ≡ length row
unfolding painted
length-painted row x zero f = refl
length-painted row x (suc n) f = length-put _ _ _ ∙ length-painted row x n f

-- a byte that is none of the pixel's stays
pub put_other : (row : List ℕ) (x c k : ℕ) → (x * 4 ≤ k → k < x * 4 + 4 → ⊥) → get_or (put row x c) k 0 ≡ get_or row k 0
unfolding put
put_other row x c k o =
    let o0 : k ≡ x * 4 → ⊥ = λ e. o (omega arith) (omega arith) in
    let o1 : k ≡ x * 4 + 1 → ⊥ = λ e. o (omega arith) (omega arith) in
    let o2 : k ≡ x * 4 + 2 → ⊥ = λ e. o (omega arith) (omega arith) in
    let o3 : k ≡ x * 4 + 3 → ⊥ = λ e. o (omega arith) (omega arith) in
    rw (get_or-set_other, get_or-set_other, get_or-set_other, get_or-set_other)

-- byte b of the pixel is the colour's
pub put_at : (row : List ℕ) (x c b : ℕ) → b < 4 → x * 4 + 4 ≤ length row → get_or (put row x c) (x * 4 + b) 0 ≡ byte_of_colour c b
unfolding put
put_at row x c zero h r =
    let n1 : x * 4 ≡ x * 4 + 1 → ⊥ = λ e. omega arith in
    let n2 : x * 4 ≡ x * 4 + 2 → ⊥ = λ e. omega arith in
    let n3 : x * 4 ≡ x * 4 + 3 → ⊥ = λ e. omega arith in
    let s : x * 4 < length row = omega arith in
    rw (add-zero, get_or-set_other, get_or-set_other, get_or-set_other, get_or-set_same)
put_at row x c (suc zero) h r =
    let n2 : x * 4 + 1 ≡ x * 4 + 2 → ⊥ = λ e. omega arith in
    let n3 : x * 4 + 1 ≡ x * 4 + 3 → ⊥ = λ e. omega arith in
    let s : x * 4 + 1 < length (set row (x * 4) (c % 256)) = simp length-set (omega arith) in
    rw (get_or-set_other, get_or-set_other, get_or-set_same)
put_at row x c (suc (suc zero)) h r =
    let n3 : x * 4 + 2 ≡ x * 4 + 3 → ⊥ = λ e. omega arith in
    let s : x * 4 + 2 < length (set (set row (x * 4) (c % 256)) (x * 4 + 1) (c / 256 % 256)) = simp length-set (omega arith) in
    rw (get_or-set_other, get_or-set_same)
put_at row x c (suc (suc (suc b))) h r =
    let e : suc (suc (suc b)) ≡ 3 = omega arith in
    let s : x * 4 + 3 < length (set (set (set row (x * 4) (c % 256)) (x * 4 + 1) (c / 256 % 256)) (x * 4 + 2) (c / 65536 % 256)) = simp length-set
    (omega arith) in
    rw (e, get_or-set_same)

-- a byte of no painted pixel stays
pub painted_other : (row : List ℕ) (x n : ℕ) (f : ℕ → ℕ) (k : ℕ) → (x * 4 ≤ k → k < (x + n) * 4 → ⊥) → get_or (painted row x n f) k 0 ≡ get_or row k 0
unfolding painted
painted_other row x zero f k o = refl
painted_other row x (suc n) f k o =
    put_other _ _ _ k (λ l u. o (omega arith) (omega arith)) ∙ painted_other row x n f k (λ l u. o (omega arith) (omega arith))

-- painting goes by what f is below n
pub painted_cong : (row : List ℕ) (x n : ℕ) (f g : ℕ → ℕ) → ((i : ℕ) → i < n → f i ≡ g i) → painted row x n f ≡ painted row x n g
unfolding painted
painted_cong row x zero f g h = refl
painted_cong row x (suc n) f g h = rw (painted_cong row x n f g (λ i l. h i (omega arith)), h n (omega arith))

-- two runs side by side are one
pub painted_join : (row : List ℕ) (x n m : ℕ) (f : ℕ → ℕ) → painted (painted row x n f) (x + n) m (λ i. f (n + i)) ≡ painted row x (n + m) f
unfolding painted
painted_join row x n zero f = rw add-zero
painted_join row x n (suc m) f = rw (add-suc, painted_join row x n m f, add_assoc)

-- byte b of painted pixel i is that of its colour
pub painted_at : (row : List ℕ) (x n : ℕ) (f : ℕ → ℕ) (i b : ℕ) → i < n → b < 4 → (x + n) * 4 ≤ length row → get_or (painted row x n f)
    ((x + i) * 4 + b) 0 ≡ byte_of_colour (f i) b
unfolding painted
painted_at row x zero f i b l h r = absurd (omega arith)
painted_at row x (suc n) f i b l h r =
    ⊎_elim
    (λ e.
    let s : (x + n) * 4 + 4 ≤ length (painted row x n f) = rw length-painted (omega arith) in
    rw e (put_at _ _ _ b h s))
    (λ p.
    let o : (x + n) * 4 ≤ (x + i) * 4 + b → (x + i) * 4 + b < (x + n) * 4 + 4 → ⊥ = λ l u. omega arith in
    let s : (x + n) * 4 ≤ length row = omega arith in
    put_other _ _ _ _ o ∙ painted_at row x n f i b p h s)
    (eq-or-lt_of_le (le_of_suc-le-suc l))

-- a run after what is painted so far
pub painted_on : (row₀ : List ℕ) (x n : ℕ) (f : ℕ → ℕ) {row row' : List ℕ} → row ≡ painted row₀ 0 x f → row' ≡ painted row x n (λ i. f (x + i)) →
    row' ≡ painted row₀ 0 (x + n) f
painted_on row₀ x n f e p = p ∙ rw (e, ← painted_join row₀ 0 x n f, zero-add)

-- ---- a pixel put over a painted row is a row painted otherwise
-- every index of a painted row is byte b of pixel i
pub painted_byte : (row : List ℕ) (w : ℕ) (f : ℕ → ℕ) (k : ℕ) → k < w * 4 → w * 4 ≤ length row → get_or (painted row 0 w f) k 0 ≡ byte_of_colour
    (f (k / 4)) (k % 4)
painted_byte row w f k l r =
    let e : (0 + k / 4) * 4 + k % 4 ≡ k = omega arith in
    let i : k / 4 < w = omega arith in
    let b : k % 4 < 4 = omega arith in
    let r' : (0 + w) * 4 ≤ length row = omega arith in
    rw e at (painted_at row 0 w f (k / 4) (k % 4) i b r')

put_byte : (row : List ℕ) (p c k : ℕ) → k / 4 ≡ p → p * 4 + 4 ≤ length row → get_or (put row p c) k 0 ≡ byte_of_colour c (k % 4)
put_byte row p c k q r =
    let e : p * 4 + k % 4 ≡ k = omega arith in
    let b : k % 4 < 4 = omega arith in
    rw e at (put_at row p c (k % 4) b r)

pub over_same : (f : ℕ → ℕ) (p c i : ℕ) → i ≡ p → over f p c i ≡ c
unfolding over
over_same f p c i e = simp (eq-eqb i p e)

pub over_other : (f : ℕ → ℕ) (p c i : ℕ) → (i ≡ p → ⊥) → over f p c i ≡ f i
unfolding over
over_other f p c i e = simp (ne_eqb i p e)

pub painted_put : (row : List ℕ) (w : ℕ) (f : ℕ → ℕ) (p c : ℕ) → p < w → w * 4 ≤ length row → put (painted row 0 w f) p c ≡ painted row 0 w
    (over f p c)
painted_put row w f p c h r =
    ext_get_or 0 _ _ (length-put _ _ _ ∙ length-painted row 0 w f ∙ sym (length-painted row 0 w (over f p c))) (λ k l. each k (ltb k (w * 4)) refl)
  where
    room : p * 4 + 4 ≤ length (painted row 0 w f)
    room = rw length-painted (omega arith)

    here : (k : ℕ) → k / 4 ≡ p → k < w * 4 → get_or (put (painted row 0 w f) p c) k 0 ≡ get_or (painted row 0 w (over f p c)) k 0
    here k q l = put_byte _ p c k q room ∙ sym (painted_byte row w (over f p c) k l r ∙ ap (λ v. byte_of_colour v (k % 4)) (over_same f p c (k / 4) q))

    away : (k : ℕ) → (k / 4 ≡ p → ⊥) → get_or (put (painted row 0 w f) p c) k 0 ≡ get_or (painted row 0 w f) k 0
    away k ne =
        let o : p * 4 ≤ k → k < p * 4 + 4 → ⊥ = λ a b. ne (omega arith) in
        put_other _ p c k o

    outside : (k : ℕ) → w * 4 ≤ k → get_or (put (painted row 0 w f) p c) k 0 ≡ get_or (painted row 0 w (over f p c)) k 0
    outside k out =
        let o : 0 * 4 ≤ k → k < (0 + w) * 4 → ⊥ = λ a b. omega arith in
        let ne : k / 4 ≡ p → ⊥ = λ q. omega arith in
        away k ne ∙ painted_other row 0 w f k o ∙ sym (painted_other row 0 w (over f p c) k o)

    inside : (k : ℕ) → k < w * 4 → (t : Bool) → eqb (k / 4) p ≡ t → get_or (put (painted row 0 w f) p c) k 0 ≡ get_or (painted row 0 w (over f p c)) k 0
    inside k l true q = here k (eqb-true (k / 4) p q) l
    inside k l false q =
        let ne = eqb-false (k / 4) p q in
        away k ne ∙ painted_byte row w f k l r ∙ sym (painted_byte row w (over f p c) k l r ∙ ap (λ v. byte_of_colour v (k % 4))
        (over_other f p c (k / 4) ne))

    each : (k : ℕ) (t : Bool) → ltb k (w * 4) ≡ t → get_or (put (painted row 0 w f) p c) k 0 ≡ get_or (painted row 0 w (over f p c)) k 0
    each k true q = inside k (ltb-true k (w * 4) q) (eqb (k / 4) p) refl
    each k false q = outside k (ltb-false k (w * 4) q)

-- one column more of what is laid over a row
pub overlaid_step : (row₀ : List ℕ) (x i : ℕ) (s : ℕ → Bool) (f : ℕ → ℕ) {row row' : List ℕ} {t : Bool} {v : ℕ} → row ≡ overlaid row₀ x i s f → t ≡ s
    i → v ≡ f i → row' ≡ put_if t row (x + i) v → row' ≡ overlaid row₀ x (i + 1) s f
unfolding overlaid
overlaid_step row₀ x i s f e q w p = p ∙ rw (add-one, e, q, w)

-- what is laid over a painted row is a row painted otherwise
put_if_painted : (t : Bool) (row : List ℕ) (w : ℕ) (g : ℕ → ℕ) (p c : ℕ) → (t ≡ true → p < w) → w * 4 ≤ length row → put_if t (painted row 0 w g) p c
    ≡ painted row 0 w (λ q. cond t (over g p c q) (g q))
put_if_painted true row w g p c h r = painted_put row w g p c (h refl) r
put_if_painted false row w g p c h r = refl

pub overlaid_painted : (row : List ℕ) (w : ℕ) (g : ℕ → ℕ) (x n : ℕ) (s : ℕ → Bool) (f : ℕ → ℕ) → ((i : ℕ) → i < n → s i ≡ true → x + i < w) → w * 4 ≤
    length row → overlaid (painted row 0 w g) x n s f ≡ painted row 0 w (overlay g x n s f)
unfolding overlaid overlay
overlaid_painted row w g x zero s f h r = refl
overlaid_painted row w g x (suc n) s f h r =
    let h' : (i : ℕ) → i < n → s i ≡ true → x + i < w = λ i l. h i (omega arith) in
    let k : n < suc n = omega arith in
    rw (overlaid_painted row w g x n s f h' r) (put_if_painted (s n) row w _ (x + n) (f n) (h n k) r)

-- ---- the overlay, pixel by pixel
pub overlay_at : (g : ℕ → ℕ) (x n : ℕ) (s : ℕ → Bool) (f : ℕ → ℕ) (p : ℕ) → overlay g x n s f p ≡ cond (leb x p && (ltb (p - x) n && s (p - x)))
    (f (p - x)) (g p)
unfolding overlay over
overlay_at g x zero s f p = let z : 0 ≤ p - x = omega arith in rw (le-ltb (p - x) 0 z, and-false (leb x p))
overlay_at g x (suc n) s f p =
    elim (ℕ_discrete p (x + n)) [
      | yes e ↦
          let d : p - x ≡ n = omega arith in
          let l : x ≤ p = omega arith in
          let a : n ≤ n = omega arith in
          let b : n < suc n = omega arith in
          rw (overlay_at g x n s f p, eq-eqb p (x + n) e, le-leb x p l, d, le-ltb n n a, lt-ltb n (suc n) b)
      | no ne ↦
          rw (ne_eqb p (x + n) ne, same_cond (s n) (overlay g x n s f p), overlay_at g x n s f p)
          (elim (dec_lt p x) [
            | yes h ↦ rw (lt-leb x p h)
            | no h ↦
                elim (dec_lt (p - x) n) [
                  | yes k ↦ let b : p - x < suc n = omega arith in rw (lt-ltb (p - x) n k, lt-ltb (p - x) (suc n) b)
                  | no k ↦
                      let a : n ≤ p - x = omega arith in
                      let b : suc n ≤ p - x = omega arith in
                      rw (le-ltb (p - x) n a, le-ltb (p - x) (suc n) b)
                ]
          ])
    ]

-- ---- nothing shown from column n on: n columns are all eight
overlaid_by : (row : List ℕ) (x : ℕ) (s : ℕ → Bool) (f : ℕ → ℕ) (n d : ℕ) → ((k : ℕ) → n ≤ k → s k ≡ false) → overlaid row x n s f ≡ overlaid row x
    (n + d) s f
unfolding overlaid
overlaid_by row x s f n zero h = rw add-zero
overlaid_by row x s f n (suc d) h = rw (add-suc, h (n + d) (omega arith)) (overlaid_by row x s f n d h)

pub overlaid_all : (row : List ℕ) (x : ℕ) (s : ℕ → Bool) (f : ℕ → ℕ) (n : ℕ) → n ≤ 8 → ((k : ℕ) → n ≤ k → s k ≡ false) → overlaid row x n s f ≡
    overlaid row x 8 s f
overlaid_all row x s f n l h = let e : n + (8 - n) ≡ 8 = omega arith in rw e at (overlaid_by row x s f n (8 - n) h)

-- ---- a row painted from its start is a table of bytes, and what was behind it
module _ (row : List ℕ) (w : ℕ) (f : ℕ → ℕ) (room : w * 4 ≤ length row) where
  abbrev bytes : ℕ → ℕ
  bytes k = byte_of_colour (f (k / 4)) (k % 4)

  all_at : (k : ℕ) (t : Bool) → ltb k (w * 4) ≡ t → get_or (painted row 0 w f) k 0 ≡ get_or (table (w * 4) bytes ++ drop (w * 4) row) k 0
  all_at k true q =
      let l : k < w * 4 = ltb-true k (w * 4) q in
      let l' : k < length (table (w * 4) bytes) = rw length-table l in
      painted_byte row w f k l room ∙ sym (get_d_table (w * 4) bytes k l) ∙ sym (get_or-append (table (w * 4) bytes) (drop (w * 4) row) 0 k l')
  all_at k false q =
      let l : w * 4 ≤ k = ltb-false k (w * 4) q in
      let o : 0 * 4 ≤ k → k < (0 + w) * 4 → ⊥ = λ a b. omega arith in
      let e : length (table (w * 4) bytes) + (k - w * 4) ≡ k = rw length-table (omega arith) in
      let d : w * 4 + (k - w * 4) ≡ k = omega arith in
      painted_other row 0 w f k o
      ∙ sym ((rw e at (get_or-append-add (table (w * 4) bytes) (drop (w * 4) row) (k - w * 4) 0)) ∙ (rw d at (get_or-drop (w * 4) row (k - w * 4) 0)))

  pub painted_all : painted row 0 w f ≡ table (w * 4) (λ k. byte_of_colour (f (k / 4)) (k % 4)) ++ drop (w * 4) row
  painted_all =
      let e : length row ≡ length (table (w * 4) bytes ++ drop (w * 4) row) = rw (length-append, length-table, length-drop) (omega arith) in
      ext_get_or 0 (painted row 0 w f) (table (w * 4) bytes ++ drop (w * 4) row) (length-painted row 0 w f ∙ e) (λ k h. all_at k (ltb k (w * 4)) refl)

-- ---- what is laid over a row, byte by byte
pub length-overlaid : (row : List ℕ) (x n : ℕ) (s : ℕ → Bool) (f : ℕ → ℕ) → length (overlaid row x n s f) ≡ length row
unfolding overlaid
length-overlaid row x zero s f = refl
length-overlaid row x (suc n) s f = length-put_if (s n) (overlaid row x n s f) (x + n) (f n) ∙ length-overlaid row x n s f
  where
    length-put_if : (t : Bool) (row : List ℕ) (p c : ℕ) → length (put_if t row p c) ≡ length row
    length-put_if true row p c = length-put row p c
    length-put_if false row p c = refl

put_if_here : (t : Bool) (row : List ℕ) (p c k : ℕ) → k / 4 ≡ p → p * 4 + 4 ≤ length row → get_or (put_if t row p c) k 0 ≡ cond t
    (byte_of_colour c (k % 4)) (get_or row k 0)
put_if_here true row p c k e r = put_byte row p c k e r
put_if_here false row p c k e r = refl

put_if_away : (t : Bool) (row : List ℕ) (p c k : ℕ) → (k / 4 ≡ p → ⊥) → get_or (put_if t row p c) k 0 ≡ get_or row k 0
put_if_away true row p c k ne = let o : p * 4 ≤ k → k < p * 4 + 4 → ⊥ = λ a b. ne (omega arith) in put_other row p c k o
put_if_away false row p c k ne = refl

pub overlaid_byte :
    (row : List ℕ) (x n : ℕ) (s : ℕ → Bool) (f : ℕ → ℕ) (k : ℕ) → (x + n) * 4 ≤ length row
    → get_or (overlaid row x n s f) k 0 ≡ cond (leb x (k / 4) && (ltb (k / 4 - x) n && s (k / 4 - x))) (byte_of_colour (f (k / 4 - x)) (k % 4))
    (get_or row k 0)
unfolding overlaid
overlaid_byte row x zero s f k r = let z : 0 ≤ k / 4 - x = omega arith in rw (le-ltb (k / 4 - x) 0 z, and-false (leb x (k / 4)))
overlaid_byte row x (suc n) s f k r =
    let r' : (x + n) * 4 ≤ length row = omega arith in
    elim (ℕ_discrete (k / 4) (x + n)) [
      | yes e ↦
          let d : k / 4 - x ≡ n = omega arith in
          let l : x ≤ k / 4 = omega arith in
          let a : n ≤ n = omega arith in
          let b : n < suc n = omega arith in
          let room : (x + n) * 4 + 4 ≤ length (overlaid row x n s f) = rw length-overlaid (omega arith) in
          put_if_here (s n) (overlaid row x n s f) (x + n) (f n) k e room
          ∙ rw (overlaid_byte row x n s f k r', le-leb x (k / 4) l, d, le-ltb n n a, lt-ltb n (suc n) b)
      | no ne ↦
          put_if_away (s n) (overlaid row x n s f) (x + n) (f n) k ne
          ∙ overlaid_byte row x n s f k r'
          ∙ elim (dec_lt (k / 4) x) [
            | yes h ↦ rw (lt-leb x (k / 4) h)
            | no h ↦
                elim (dec_lt (k / 4 - x) n) [
                  | yes q ↦ let b : k / 4 - x < suc n = omega arith in rw (lt-ltb (k / 4 - x) n q, lt-ltb (k / 4 - x) (suc n) b)
                  | no q ↦
                      let a : n ≤ k / 4 - x = omega arith in
                      let b : suc n ≤ k / 4 - x = omega arith in
                      rw (le-ltb (k / 4 - x) n a, le-ltb (k / 4 - x) (suc n) b)
                ]
          ]
    ]

-- painting is laying over, all of it shown
pub painted_overlaid : (row : List ℕ) (x n : ℕ) (f : ℕ → ℕ) → painted row x n f ≡ overlaid row x n (λ i. true) f
unfolding painted overlaid
painted_overlaid row x zero f = refl
painted_overlaid row x (suc n) f = rw (painted_overlaid row x n f)
