-- The laws of a list that a function gives, place by place.
-- Assumes nothing.
use mathlib.Core.Path.{◌≡◌, refl, sym, ap, ◌∙◌}
use mathlib.Core.List.{List}
use Prim.Native.Nat.{ℕ, zero, suc, ◌+◌, ◌<◌}
use native.Mathlib.Nat.{add-zero, not-suc-le-zero}
use native.Mathlib.Omega.{arith}
use lib.ListN.{length, get_or}
use lib.Seq.{ext_get_or}
use Rattle.laws.specs.Table.{table, table_from}

length_from : (n k : ℕ) (f : ℕ → ℕ) → length (table_from n k f) ≡ n
unfolding table_from
length_from zero k f = refl
length_from (suc n) k f = ap suc (length_from n (suc k) f)

get_d_from : (n k i : ℕ) (f : ℕ → ℕ) → i < n → get_or (table_from n k f) i 0 ≡ f (k + i)
unfolding table_from
get_d_from zero k i f h = absurd (not-suc-le-zero h)
get_d_from (suc n) k zero f h = ap f (sym (add-zero k))
get_d_from (suc n) k (suc i) f h = get_d_from n (suc k) i f (omega arith) ∙ ap f (omega arith)

pub length-table : (n : ℕ) (f : ℕ → ℕ) → length (table n f) ≡ n
unfolding table
length-table n f = length_from n 0 f

pub get_d_table : (n : ℕ) (f : ℕ → ℕ) (i : ℕ) → i < n → get_or (table n f) i 0 ≡ f i
unfolding table
get_d_table n f i h = get_d_from n 0 i f h ∙ ap f (omega arith)

-- a list that has f's value at each place is f's table
pub is_table : (l : List ℕ) (n : ℕ) (f : ℕ → ℕ) → length l ≡ n → ((i : ℕ) → i < n → get_or l i 0 ≡ f i) → l ≡ table n f
is_table l n f len at =
    ext_get_or 0 l (table n f) (len ∙ sym (length-table n f))
    (λ i h. let h' : i < n = omega arith in at i h' ∙ sym (get_d_table n f i h'))

-- two functions that agree below n give one table
pub table_ext : (n : ℕ) (f g : ℕ → ℕ) → ((i : ℕ) → i < n → f i ≡ g i) → table n f ≡ table n g
table_ext n f g e = is_table (table n f) n g (length-table n f) (λ i h. get_d_table n f i h ∙ e i h)
