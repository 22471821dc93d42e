-- A row of whole tiles' marks, laid into the mask together: byte k + 1 of the marks is the tile from place 8 k + s on.
-- Assumes nothing.
use Rattle.std.proofs.Common.{◌≡◌, ℕ, ◌+◌, ◌-◌, ◌*◌, ◌/◌, ◌%◌, ◌^◌, ◌<◌, ◌≤◌, Bool, ◌&&◌, ◌||◌, ltb, ◌≢◌, List, length, get_or, set, replicate, sym, ap, ◌∙◌}
use Rattle.std.proofs.Common.{ap₂, arith, length-set, get_or-set_other, get_or-set_same, le-ltb, lt-ltb}
use mathlib.Core.Bool.{or-false}
use native.Mathlib.Decide.{dec_lt, ℕ_discrete}
use lib.ListN.{length-replicate, get_or-replicate, get_or-eq_default}
use lib.Bits.{bit_or, or_lt}
use lib.Pow.{shr_le}
use Rattle.laws.specs.Bits.{bit, byte_of}
use Rattle.laws.specs.Circle.{past}
use Rattle.laws.specs.Lists.{at}
use Rattle.laws.proofs.Bits.{bit-or, bit_above, bit_shr, bit_shl, bit_shl_low, byte_or, byte_is, bit_byte_of}
use Rattle.laws.proofs.Tables.{get_d_table, is_table}
use Rattle.bitmap.specs.Mask.{bit_of, bytes_of, with_byte}
use Rattle.bitmap.proofs.Circle.{bytes_of_bit_of, bytes_of_ext, bit_of_bytes_of, length-bytes_of, small_bytes_of, with_byte-bytes_of}

-- ---- one byte of a mask
byte_bytes_of : (f : ℕ → Bool) (k : ℕ) → k < 32 → get_or (bytes_of f) k 0 ≡ byte_of (λ j. f (8 * k + j))
unfolding bytes_of
byte_bytes_of f k h = get_d_table 32 (λ k. byte_of (λ j. f (8 * k + j))) k h

-- a byte or-ed into the mask at place k changes its bits alone
or_byte : (f g : ℕ → Bool) (k v : ℕ) → k < 32 → v < 256 → ((j : ℕ) → j < 8 → g (8 * k + j) ≡ (f (8 * k + j) || bit v j))
    → ((q j : ℕ) → q ≢ k → j < 8 → g (8 * q + j) ≡ f (8 * q + j)) → set (bytes_of f) k (bit_or (get_or (bytes_of f) k 0) v) ≡ bytes_of g
unfolding bytes_of
or_byte f g k v hk hv here there =
    is_table (set (bytes_of f) k (bit_or (get_or (bytes_of f) k 0) v)) 32 (λ q. byte_of (λ j. g (8 * q + j))) (simp length-set (length-bytes_of f))
    (λ q hq.
    elim (ℕ_discrete q k) [
      | yes e ↦
          let l : k < length (bytes_of f) = omega (arith, length-bytes_of f) in
          rw e (get_or-set_same (bytes_of f) k (bit_or (get_or (bytes_of f) k 0) v) 0 l
          ∙ byte_or (get_or (bytes_of f) k 0) v (λ j. g (8 * k + j)) (small_bytes_of f k) hv
          (λ j hj. here j hj ∙ ap (λ (b : Bool). b || bit v j) (sym (ap (λ (b : ℕ). bit b j) (byte_bytes_of f k hk) ∙ bit_byte_of (λ j. f (8 * k + j)) j hj))))
      | no n ↦
          get_or-set_other (bytes_of f) k q (bit_or (get_or (bytes_of f) k 0) v) 0 n
          ∙ byte_is (get_or (bytes_of f) q 0) (λ j. g (8 * q + j)) (small_bytes_of f q)
          (λ j hj. there q j n hj ∙ sym (ap (λ (b : ℕ). bit b j) (byte_bytes_of f q hq) ∙ bit_byte_of (λ j. f (8 * q + j)) j hj))
    ])

-- ---- what the marks say of place i
module _ (marks : List ℕ) (s : ℕ) where
  abbrev pub marked : ℕ → Bool
  marked i = bit (at marks ((8 + i - s) / 8)) ((8 + i - s) % 8)

  -- the two marks that byte k has bits of
  abbrev two : ℕ → ℕ
  two k = bit_or (at marks (k + 1) * 2 ^ s % 256) (at marks k / 2 / 2 ^ (8 - s - 1))

  two_bits : (k j : ℕ) → s < 8 → at marks k < 256 → j < 8 → marked (8 * k + j) ≡ bit (two k) j
  two_bits k j low h hj =
      elim (dec_lt j s) [
        | yes l ↦
            let a : (8 + (8 * k + j) - s) / 8 ≡ k = omega arith in
            let b : (8 + (8 * k + j) - s) % 8 ≡ 1 + (8 - s - 1 + j) = omega arith in
            ap₂ (λ (p q : ℕ). bit (at marks p) q) a b
            ∙ sym (bit-or (at marks (k + 1) * 2 ^ s % 256) (at marks k / 2 / 2 ^ (8 - s - 1)) j
            ∙ ap₂ (λ (p q : Bool). p || q) (bit_shl_low (at marks (k + 1)) s j l hj)
            (bit_shr (at marks k / 2) (8 - s - 1) j ∙ bit_shr (at marks k) 1 (8 - s - 1 + j)))
        | no n ↦
            let a : (8 + (8 * k + j) - s) / 8 ≡ k + 1 = omega arith in
            let b : (8 + (8 * k + j) - s) % 8 ≡ j - s = omega arith in
            let e : s + (j - s) ≡ j = omega arith in
            let o : 8 ≤ 1 + (8 - s - 1 + j) = omega arith in
            ap₂ (λ (p q : ℕ). bit (at marks p) q) a b
            ∙ sym (bit-or (at marks (k + 1) * 2 ^ s % 256) (at marks k / 2 / 2 ^ (8 - s - 1)) j
            ∙ ap₂ (λ (p q : Bool). p || q)
            (ap (bit (at marks (k + 1) * 2 ^ s % 256)) (sym e) ∙ bit_shl (at marks (k + 1)) s (j - s) (omega arith))
            (bit_shr (at marks k / 2) (8 - s - 1) j ∙ bit_shr (at marks k) 1 (8 - s - 1 + j) ∙ bit_above 8 (at marks k) (1 + (8 - s - 1 + j)) h o)
            ∙ or-false (bit (at marks (k + 1)) (j - s)))
      ]

  two_small : (k : ℕ) → at marks k < 256 → two k < 256
  two_small k h =
      or_lt 8 (at marks (k + 1) * 2 ^ s % 256) (at marks k / 2 / 2 ^ (8 - s - 1)) (omega arith) (omega (arith, shr_le (at marks k / 2) (8 - s - 1)))

  -- the mask m with what the marks say of its first n bytes
  abbrev pub laid_to : List ℕ → ℕ → List ℕ
  laid_to m n = bytes_of (λ i. bit_of m i || (ltb i (8 * n) && marked i))

  pub lay_none : (m : List ℕ) → length m ≡ 32 → ((k : ℕ) → get_or m k 0 < 256) → m ≡ laid_to m 0
  lay_none m len small =
      bytes_of_bit_of m len small
      ∙ bytes_of_ext (bit_of m) (λ i. bit_of m i || (ltb i (8 * 0) && marked i))
      (λ i l. let z : 8 * 0 ≤ i = omega arith in rw (le-ltb i (8 * 0) z) (sym (or-false (bit_of m i))))

  pub lay_step :
      (m : List ℕ) (k : ℕ) {now now' : List ℕ} → s < 8 → k < 32 → at marks k < 256 → now ≡ laid_to m k → now' ≡ set now k (bit_or (get_or now k 0) (two k))
      → now' ≡ laid_to m (k + 1)
  lay_step m k low hk hm e p =
      p ∙ rw e (or_byte (λ i. bit_of m i || (ltb i (8 * k) && marked i)) (λ i. bit_of m i || (ltb i (8 * (k + 1)) && marked i)) k (two k) hk (two_small k hm)
      (λ j hj.
      let a : 8 * k ≤ 8 * k + j = omega arith in
      let b : 8 * k + j < 8 * (k + 1) = omega arith in
      rw (le-ltb (8 * k + j) (8 * k) a, lt-ltb (8 * k + j) (8 * (k + 1)) b, or-false (bit_of m (8 * k + j)), two_bits k j low hm hj))
      (λ q j n hj.
      elim (dec_lt q k) [
        | yes l ↦
            let a : 8 * q + j < 8 * k = omega arith in
            let b : 8 * q + j < 8 * (k + 1) = omega arith in
            rw (lt-ltb (8 * q + j) (8 * k) a, lt-ltb (8 * q + j) (8 * (k + 1)) b)
        | no l ↦
            let a : 8 * k ≤ 8 * q + j = omega arith in
            let b : 8 * (k + 1) ≤ 8 * q + j = omega arith in
            rw (le-ltb (8 * q + j) (8 * k) a, le-ltb (8 * q + j) (8 * (k + 1)) b)
      ]))

  -- the mask m with all of them
  abbrev pub laid_in : List ℕ → List ℕ
  laid_in m = bytes_of (λ i. bit_of m i || marked i)

  pub lay_all : (m : List ℕ) {k : ℕ} → k ≡ 32 → laid_to m k ≡ laid_in m
  lay_all m e =
      rw e (bytes_of_ext (λ i. bit_of m i || (ltb i (8 * 32) && marked i)) (λ i. bit_of m i || marked i)
      (λ i l. let h : i < 8 * 32 = omega arith in rw (lt-ltb i (8 * 32) h)))

-- ---- the row's tiles, one after the other
pub at_zeros : (k : ℕ) → at (replicate 33 0) k ≡ 0
at_zeros k =
    elim (dec_lt k 33) [
      | yes h ↦ get_or-replicate 33 k 0 0 h
      | no h ↦ get_or-eq_default (replicate 33 0) 0 {n = k} (omega (arith, length-replicate {A = ℕ} 33 0))
    ]

-- place i is bit b of the tile with mark a: how far it is past the tile with mark q + 1
near : (a b q s i x : ℕ) → 8 + i ≡ s + (8 * a + b) → b < 8 → x ≡ 8 * q + s → x + 8 ≤ 256 → i < 256 → a ≡ q + 1 → past i x ≡ b
near a b q s i x t hb e hx l h = omega arith

far : (a b q s i x : ℕ) → 8 + i ≡ s + (8 * a + b) → b < 8 → x ≡ 8 * q + s → x + 8 ≤ 256 → i < 256 → a ≢ q + 1 → 8 ≤ past i x
far a b q s i x t hb e hx l n = omega arith

-- no tile yet
pub laid_none : (f : ℕ → Bool) (s : ℕ) {m : List ℕ} → m ≡ bytes_of f → laid_in (replicate 33 0) s m ≡ bytes_of f
laid_none f s e =
    rw e (bytes_of_ext (λ i. bit_of (bytes_of f) i || marked (replicate 33 0) s i) f
    (λ i l.
    let h : i % 256 ≡ i = omega arith in
    ap₂ (λ (a b : Bool). a || b) (bit_of_bytes_of f i ∙ ap f h)
    (rw (at_zeros ((8 + i - s) / 8)) (bit_above 0 0 ((8 + i - s) % 8) (omega arith) (omega arith)))
    ∙ or-false (f i)))

-- the tile from place x on
pub laid_next : (marks m : List ℕ) (s x v : ℕ) → x % 8 ≡ s → x + 8 ≤ 256 → v < 256 → length marks ≡ 33 → at marks (x / 8 + 1) ≡ 0
    → laid_in (set marks (x / 8 + 1) v) s m ≡ with_byte (laid_in marks s m) x v
laid_next marks m s x v es hx hv len free =
    bytes_of_ext (λ i. bit_of m i || marked (set marks (x / 8 + 1) v) s i) (λ i. (bit_of m i || marked marks s i) || bit v (past i x))
    (λ i l.
    let a = (8 + i - s) / 8 in
    let b = (8 + i - s) % 8 in
    let t : 8 + i ≡ s + (8 * ((8 + i - s) / 8) + (8 + i - s) % 8) = omega arith in
    let p : x ≡ 8 * (x / 8) + s = omega arith in
    let hb : (8 + i - s) % 8 < 8 = omega arith in
    elim (ℕ_discrete a (x / 8 + 1)) [
      | yes e ↦
          let h : x / 8 + 1 < length marks = omega arith in
          let j = near a b (x / 8) s i x t hb p hx l e in
          rw (e, get_or-set_same marks (x / 8 + 1) v 0 h, free, j, bit_above 0 0 ((8 + i - s) % 8) (omega arith) (omega arith), or-false (bit_of m i))
      | no n ↦
          let j = far a b (x / 8) s i x t hb p hx l n in
          rw (get_or-set_other marks (x / 8 + 1) ((8 + i - s) / 8) v 0 n, bit_above 8 v (past i x) hv j)
          (sym (or-false (bit_of m i || marked marks s i)))
    ])
    ∙ sym (with_byte-bytes_of (λ i. bit_of m i || marked marks s i) x v)
