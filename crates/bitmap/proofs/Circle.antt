-- The laws of the circular mask: what its callers cite, and what the code of `set` and `get` comes to.
-- Assumes nothing.
use mathlib.Core.Logic.{◌≢◌}
use mathlib.Core.Path.{◌≡◌, refl, sym, ap, ap₂, ◌∙◌}
use mathlib.Core.Bool.{Bool, false, cond, ◌||◌, or-false}
use mathlib.Core.List.{List}
use Prim.Native.Nat.{ℕ, ◌+◌, ◌-◌, ◌*◌, ◌/◌, ◌%◌, ◌^◌, ◌≤◌, ◌<◌}
use native.Mathlib.Decide.{dec_lt, ℕ_discrete}
use native.Mathlib.Omega.{arith}
use lib.ListN.{length, get_or, set, length-set, get_or-eq_default}
use lib.Seq.{get_or-set_same, get_or-set_other}
use lib.Dec.{ltb}
use lib.Pow.{shr_le}
use lib.Bits.{bit_or}
use Rattle.laws.specs.Bits.{bit, number, byte_of}
use Rattle.laws.specs.Circle.{past}
use Rattle.laws.specs.Table.{table_from, table}
use Rattle.bitmap.specs.Mask.{bit_of, bytes_of, laid, cleared, with_byte, byte_at, joined}
use Rattle.laws.proofs.Tables.{length-table, get_d_table, is_table, table_ext}
use Rattle.laws.proofs.Bits.{number_ext, number_lt, bit_above, bit_shr, bit_shl, bit_shl_low, byte_or, byte_is, bit_byte_of}

-- ---- bits and bytes of a mask
pub bit_of_at : (m : List ℕ) (k j : ℕ) → k < 32 → j < 8 → bit_of m (8 * k + j) ≡ bit (get_or m k 0) j
unfolding bit_of
bit_of_at m k j hk hj =
    let p : (8 * k + j) % 256 / 8 ≡ k = omega arith in
    let q : (8 * k + j) % 8 ≡ j = omega arith in
    ap₂ (λ (a b : ℕ). bit (get_or m a 0) b) p q

pub length-bytes_of : (f : ℕ → Bool) → length (bytes_of f) ≡ 32
unfolding bytes_of
length-bytes_of f = length-table 32 (λ k. byte_of (λ j. f (8 * k + j)))

pub bit_of_bytes_of : (f : ℕ → Bool) (i : ℕ) → bit_of (bytes_of f) i ≡ f (i % 256)
unfolding bit_of bytes_of
bit_of_bytes_of f i =
    let e : 8 * (i % 256 / 8) + i % 8 ≡ i % 256 = omega arith in
    ap (λ (x : ℕ). bit x (i % 8)) (get_d_table 32 (λ k. byte_of (λ j. f (8 * k + j))) (i % 256 / 8) (omega arith))
    ∙ bit_byte_of (λ j. f (8 * (i % 256 / 8) + j)) (i % 8) (omega arith)
    ∙ ap f e

-- 32 bytes are the mask of their own bits
pub bytes_of_bit_of : (m : List ℕ) → length m ≡ 32 → ((k : ℕ) → get_or m k 0 < 256) → m ≡ bytes_of (bit_of m)
unfolding bytes_of
bytes_of_bit_of m len small =
    is_table m 32 (λ k. byte_of (λ j. bit_of m (8 * k + j))) len
    (λ k h. byte_is (get_or m k 0) (λ j. bit_of m (8 * k + j)) (small k) (λ j hj. bit_of_at m k j h hj))

-- ---- what callers cite
pub bit_of_cleared : (i : ℕ) → bit_of cleared i ≡ false
unfolding cleared
bit_of_cleared i = bit_of_bytes_of (λ i. false) i

pub bit_of_with_byte : (m : List ℕ) (off value i : ℕ) → bit_of (with_byte m off value) i ≡ (bit_of m i || bit value (past i off))
unfolding with_byte laid bit_of
bit_of_with_byte m off value i =
    let a : i % 256 % 256 / 8 ≡ i % 256 / 8 = omega arith in
    let b : i % 256 % 8 ≡ i % 8 = omega arith in
    let c : (i % 256 + (256 - off % 256)) % 256 ≡ (i + (256 - off % 256)) % 256 = omega arith in
    bit_of_bytes_of (laid m off value) i
    ∙ ap₂ (λ (x y : Bool). x || y) (ap₂ (λ (p q : ℕ). bit (get_or m p 0) q) a b) (ap (bit value) c)

pub bit_byte_at : (m : List ℕ) (off j : ℕ) → j < 8 → bit (byte_at m off) j ≡ bit_of m (off + j)
unfolding byte_at
bit_byte_at m off j h = bit_byte_of (λ j. bit_of m (off + j)) j h

-- ---- the same of a mask that a predicate gives
pub bytes_of_ext : (f g : ℕ → Bool) → ((i : ℕ) → i < 256 → f i ≡ g i) → bytes_of f ≡ bytes_of g
unfolding bytes_of byte_of
bytes_of_ext f g e =
    table_ext 32 (λ k. byte_of (λ j. f (8 * k + j))) (λ k. byte_of (λ j. g (8 * k + j)))
    (λ k hk. number_ext 8 (λ j. f (8 * k + j)) (λ j. g (8 * k + j)) (λ j hj. e (8 * k + j) (omega arith)))

pub with_byte-bytes_of : (f : ℕ → Bool) (off value : ℕ) → with_byte (bytes_of f) off value ≡ bytes_of (λ i. f i || bit value (past i off))
unfolding with_byte laid
with_byte-bytes_of f off value =
    bytes_of_ext (laid (bytes_of f) off value) (λ i. f i || bit value ((i + (256 - off % 256)) % 256))
    (λ i h.
    let e : i % 256 ≡ i = omega arith in
    ap (λ (b : Bool). b || bit value ((i + (256 - off % 256)) % 256)) (bit_of_bytes_of f i ∙ ap f e))

pub byte_at_bytes_of : (f : ℕ → Bool) (off : ℕ) → byte_at (bytes_of f) off ≡ byte_of (λ j. f ((off + j) % 256))
unfolding byte_at byte_of
byte_at_bytes_of f off = number_ext 8 (λ j. bit_of (bytes_of f) (off + j)) (λ j. f ((off + j) % 256)) (λ j h. bit_of_bytes_of f (off + j))

-- two masks joined: the places below 192 are the one's, and the others the other's
pub joined_bytes_of : (f g : ℕ → Bool) → joined (bytes_of f) (bytes_of g) ≡ bytes_of (λ i. cond (ltb i 192) (f i) (g (i - 192)))
unfolding joined bytes_of table table_from byte_of number
joined_bytes_of f g = refl

-- ---- the code of `set`: the place o is bit s of byte q
module _ (v q s o : ℕ) (hv : v < 256) (hq : q < 32) (hs : s < 8) (ho : o ≡ 8 * q + s) where
  first : (j : ℕ) → j < 8 → bit v ((8 * q + j + (256 - o)) % 256) ≡ bit (v * 2 ^ s % 256) j
  first j hj =
      elim (dec_lt j s) [
        | yes h ↦ bit_above 8 v ((8 * q + j + (256 - o)) % 256) hv (omega arith) ∙ sym (bit_shl_low v s j h hj)
        | no h ↦
            let e : (8 * q + j + (256 - o)) % 256 ≡ j - s = omega arith in
            let e' : s + (j - s) ≡ j = omega arith in
            ap (bit v) e ∙ sym (bit_shl v s (j - s) (omega arith)) ∙ ap (bit (v * 2 ^ s % 256)) e'
      ]

  second : (j : ℕ) → j < 8 → bit v ((8 * ((q + 1) % 32) + j + (256 - o)) % 256) ≡ bit (v / 2 / 2 ^ (8 - s - 1)) j
  second j hj =
      let e : (8 * ((q + 1) % 32) + j + (256 - o)) % 256 ≡ 1 + (8 - s - 1 + j) = omega arith in
      ap (bit v) e ∙ sym (bit_shr v 1 (8 - s - 1 + j)) ∙ sym (bit_shr (v / 2) (8 - s - 1) j)

  other : (k j : ℕ) → k < 32 → j < 8 → k ≢ q → k ≢ (q + 1) % 32 → bit v ((8 * k + j + (256 - o)) % 256) ≡ false
  other k j hk hj nq nn = bit_above 8 v ((8 * k + j + (256 - o)) % 256) hv (omega arith)

  module _ (m : List ℕ) (len : length m ≡ 32) (small : (k : ℕ) → get_or m k 0 < 256) where
    -- the byte that the code gives place k, where x is what it lays in there
    byte_laid : (k x : ℕ) → k < 32 → x < 256 → ((j : ℕ) → j < 8 → bit v ((8 * k + j + (256 - o)) % 256) ≡ bit x j)
        → bit_or (get_or m k 0) x ≡ byte_of (λ j. bit_of m (8 * k + j) || bit v ((8 * k + j + (256 - o)) % 256))
    byte_laid k x hk hx e =
        byte_or (get_or m k 0) x (λ j. bit_of m (8 * k + j) || bit v ((8 * k + j + (256 - o)) % 256)) (small k) hx
        (λ j hj. ap₂ (λ (a b : Bool). a || b) (bit_of_at m k j hk hj) (e j hj))

    byte_kept : (k : ℕ) → k < 32 → k ≢ q → k ≢ (q + 1) % 32
        → get_or m k 0 ≡ byte_of (λ j. bit_of m (8 * k + j) || bit v ((8 * k + j + (256 - o)) % 256))
    byte_kept k hk nq nn =
        byte_is (get_or m k 0) (λ j. bit_of m (8 * k + j) || bit v ((8 * k + j + (256 - o)) % 256)) (small k)
        (λ j hj. ap₂ (λ (a b : Bool). a || b) (bit_of_at m k j hk hj) (other k j hk hj nq nn) ∙ or-false (bit (get_or m k 0) j))

    -- the two stores of `set`
    abbrev once : List ℕ
    once = set m q (bit_or (get_or m q 0) (v * 2 ^ s % 256))

    abbrev twice : List ℕ
    twice = set once ((q + 1) % 32) (bit_or (get_or once ((q + 1) % 32) 0) (v / 2 / 2 ^ (8 - s - 1)))

    stored : (k : ℕ) → k < 32 → get_or twice k 0 ≡ byte_of (λ j. bit_of m (8 * k + j) || bit v ((8 * k + j + (256 - o)) % 256))
    stored k hk =
        elim (ℕ_discrete k ((q + 1) % 32)) [
          | yes e ↦
              rw e (get_or-set_same once ((q + 1) % 32) (bit_or (get_or once ((q + 1) % 32) 0) (v / 2 / 2 ^ (8 - s - 1))) 0 (simp length-set (omega arith))
              ∙ ap (λ (x : ℕ). bit_or x (v / 2 / 2 ^ (8 - s - 1)))
              (get_or-set_other m q ((q + 1) % 32) (bit_or (get_or m q 0) (v * 2 ^ s % 256)) 0 (omega arith))
              ∙ byte_laid ((q + 1) % 32) (v / 2 / 2 ^ (8 - s - 1)) (omega arith) (omega (arith, shr_le (v / 2) (8 - s - 1))) second)
          | no nn ↦
              get_or-set_other once ((q + 1) % 32) k (bit_or (get_or once ((q + 1) % 32) 0) (v / 2 / 2 ^ (8 - s - 1))) 0 nn
              ∙ elim (ℕ_discrete k q) [
                | yes e ↦
                    rw e (get_or-set_same m q (bit_or (get_or m q 0) (v * 2 ^ s % 256)) 0 (omega arith)
                    ∙ byte_laid q (v * 2 ^ s % 256) hq (omega arith) first)
                | no nq ↦ get_or-set_other m q k (bit_or (get_or m q 0) (v * 2 ^ s % 256)) 0 nq ∙ byte_kept k hk nq nn
              ]
        ]

-- what `set` leaves is the mask that its contract names
pub set_is : (m : List ℕ) (off v : ℕ) → length m ≡ 32 → ((k : ℕ) → get_or m k 0 < 256) → v < 256
    → set (set m (off % 256 / 8) (bit_or (get_or m (off % 256 / 8) 0) (v * 2 ^ (off % 256 % 8) % 256))) ((off % 256 / 8 + 1) % 32)
    (bit_or (get_or (set m (off % 256 / 8) (bit_or (get_or m (off % 256 / 8) 0) (v * 2 ^ (off % 256 % 8) % 256))) ((off % 256 / 8 + 1) % 32) 0)
    (v / 2 / 2 ^ (8 - off % 256 % 8 - 1)))
    ≡ with_byte m off v
unfolding with_byte bytes_of laid
set_is m off v len small hv =
    is_table (twice v (off % 256 / 8) (off % 256 % 8) (off % 256) hv (omega arith) (omega arith) (omega arith) m len small) 32
    (λ k. byte_of (λ j. bit_of m (8 * k + j) || bit v ((8 * k + j + (256 - off % 256)) % 256)))
    (simp length-set len)
    (stored v (off % 256 / 8) (off % 256 % 8) (off % 256) hv (omega arith) (omega arith) (omega arith) m len small)

-- ---- the code of `get`
shl_twice_low : (e t j : ℕ) → j < 8 → j ≤ t → bit (e * 2 % 256 * 2 ^ t % 256) j ≡ false
shl_twice_low e t j hj h =
    elim (dec_lt j t) [
      | yes l ↦ bit_shl_low (e * 2 % 256) t j l hj
      | no n ↦
          let p : t + 0 ≡ j = omega arith in
          ap (bit (e * 2 % 256 * 2 ^ t % 256)) (sym p) ∙ bit_shl (e * 2 % 256) t 0 (omega arith) ∙ bit_shl_low e 1 0 (omega arith) (omega arith)
    ]

shl_twice : (e t j : ℕ) → j < 8 → t < j → bit (e * 2 % 256 * 2 ^ t % 256) j ≡ bit e (j - (t + 1))
shl_twice e t j hj h =
    let p : t + (1 + (j - (t + 1))) ≡ j = omega arith in
    ap (bit (e * 2 % 256 * 2 ^ t % 256)) (sym p)
    ∙ bit_shl (e * 2 % 256) t (1 + (j - (t + 1))) (omega arith)
    ∙ bit_shl e 1 (j - (t + 1)) (omega arith)

module _ (m : List ℕ) (off : ℕ) (small : (k : ℕ) → get_or m k 0 < 256) where
  read : (j : ℕ) → j < 8
      → bit_of m (off + j)
      ≡ (bit (get_or m (off % 256 / 8) 0 / 2 ^ (off % 256 % 8)) j
      || bit (get_or m ((off % 256 / 8 + 1) % 32) 0 * 2 % 256 * 2 ^ (8 - off % 256 % 8 - 1) % 256) j)
  unfolding bit_of
  read j hj =
      elim (dec_lt (8 - off % 256 % 8 - 1) j) [
        | yes h ↦
            let a : (off + j) % 256 / 8 ≡ (off % 256 / 8 + 1) % 32 = omega arith in
            let b : (off + j) % 8 ≡ j - (8 - off % 256 % 8 - 1 + 1) = omega arith in
            ap₂ (λ (x y : ℕ). bit (get_or m x 0) y) a b
            ∙ sym (ap₂ (λ (x y : Bool). x || y)
            (bit_shr (get_or m (off % 256 / 8) 0) (off % 256 % 8) j ∙ bit_above 8 (get_or m (off % 256 / 8) 0) (off % 256 % 8 + j)
            (small (off % 256 / 8)) (omega arith))
            (shl_twice (get_or m ((off % 256 / 8 + 1) % 32) 0) (8 - off % 256 % 8 - 1) j hj h))
        | no h ↦
            let a : (off + j) % 256 / 8 ≡ off % 256 / 8 = omega arith in
            let b : (off + j) % 8 ≡ off % 256 % 8 + j = omega arith in
            ap₂ (λ (x y : ℕ). bit (get_or m x 0) y) a b
            ∙ sym (or-false (bit (get_or m (off % 256 / 8) 0) (off % 256 % 8 + j)))
            ∙ sym (ap₂ (λ (x y : Bool). x || y)
            (bit_shr (get_or m (off % 256 / 8) 0) (off % 256 % 8) j)
            (shl_twice_low (get_or m ((off % 256 / 8 + 1) % 32) 0) (8 - off % 256 % 8 - 1) j hj (omega arith)))
      ]

  -- what `get` gives is the byte that its contract names
  pub get_is : bit_or (get_or m (off % 256 / 8) 0 / 2 ^ (off % 256 % 8))
      (get_or m ((off % 256 / 8 + 1) % 32) 0 * 2 % 256 * 2 ^ (8 - off % 256 % 8 - 1) % 256) ≡ byte_at m off
  unfolding byte_at
  get_is =
      byte_or (get_or m (off % 256 / 8) 0 / 2 ^ (off % 256 % 8)) (get_or m ((off % 256 / 8 + 1) % 32) 0 * 2 % 256 * 2 ^ (8 - off % 256 % 8 - 1) % 256)
      (λ j. bit_of m (off + j))
      (omega (arith, shr_le (get_or m (off % 256 / 8) 0) (off % 256 % 8), small (off % 256 / 8)))
      (omega arith)
      read

-- ---- a mask of which a loop reads and marks two bytes where it stands
pub small_bytes_of : (f : ℕ → Bool) (k : ℕ) → get_or (bytes_of f) k 0 < 256
unfolding bytes_of byte_of
small_bytes_of f k =
    elim (dec_lt k 32) [
      | yes h ↦ rw (get_d_table 32 (λ k. byte_of (λ j. f (8 * k + j))) k h) (number_lt 8 (λ j. f (8 * k + j)))
      | no h ↦ rw (get_or-eq_default (bytes_of f) 0 {n = k} (omega (arith, length-bytes_of f))) (omega arith)
    ]

pub mark_is : {m : List ℕ} (f : ℕ → Bool) (off v : ℕ) → m ≡ bytes_of f → v < 256
    → set (set m (off % 256 / 8) (bit_or (get_or m (off % 256 / 8) 0) (v * 2 ^ (off % 256 % 8) % 256))) ((off % 256 / 8 + 1) % 32)
    (bit_or (get_or (set m (off % 256 / 8) (bit_or (get_or m (off % 256 / 8) 0) (v * 2 ^ (off % 256 % 8) % 256))) ((off % 256 / 8 + 1) % 32) 0)
    (v / 2 / 2 ^ (8 - off % 256 % 8 - 1)))
    ≡ with_byte m off v
mark_is {m} f off v e hv = set_is m off v (ap length e ∙ length-bytes_of f) (λ k. rw e (small_bytes_of f k)) hv

pub read_is : {m : List ℕ} (f : ℕ → Bool) (off : ℕ) → m ≡ bytes_of f
    → bit_or (get_or m (off % 256 / 8) 0 / 2 ^ (off % 256 % 8)) (get_or m ((off % 256 / 8 + 1) % 32) 0 * 2 % 256 * 2 ^ (8 - off % 256 % 8 - 1) % 256) ≡
    byte_at m off
read_is {m} f off e = get_is m off (λ k. rw e (small_bytes_of f k))
