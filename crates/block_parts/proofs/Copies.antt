-- One turn of the loops over colours, four bytes stored and one colour read; and the colours of a block as its bytes, and back.
-- Assumes nothing.
use mathlib.Core.Path.{◌≡◌, refl, sym, ap, ◌∙◌}
use mathlib.Core.List.{List, [], ◌∷◌}
use Prim.Native.Nat.{ℕ, zero, suc, ◌+◌, ◌*◌, ◌/◌, ◌%◌, ◌≤◌, ◌<◌}
use native.Mathlib.Decide.{dec_lt}
use native.Mathlib.Omega.{arith}
use lib.ListN.{length, set, take, drop, replicate, length-take, length-drop, get_or-eq_default}
use lib.Seq.{paste, paste-zero, get_or-take, get_or-drop}
use Rattle.laws.specs.Lists.{at}
use Rattle.laws.specs.Paint.{byte_of_colour, of_bytes}
use Rattle.laws.proofs.Bytes.{byte_0, byte_1, byte_2, byte_3, of_bytes_lem}
use Rattle.laws.proofs.Lists.{fill_step, filled}
use Rattle.laws.proofs.Tables.{is_table, length-table, get_d_table}
use Rattle.block_parts.specs.Parts.{colour_bytes, colour_at, colours_from}

pub length-colour_bytes : (cs : List ℕ) → length (colour_bytes cs) ≡ 128
unfolding colour_bytes
length-colour_bytes cs = length-table 128 _

pub colour_byte : (cs : List ℕ) (i j : ℕ) → i < 32 → j < 4 → byte_of_colour (at cs i) j ≡ at (colour_bytes cs) (4 * i + j)
unfolding colour_bytes
colour_byte cs i j hi hj =
    let e : (4 * i + j) / 4 ≡ i = omega arith in
    let f : (4 * i + j) % 4 ≡ j = omega arith in
    let h : 4 * i + j < 128 = omega arith in
    sym (get_d_table 128 (λ k. byte_of_colour (at cs (k / 4)) (k % 4)) (4 * i + j) h ∙ rw (e, f))

-- four bytes put together are four stores
four_put : (d : List ℕ) (a b0 b1 b2 b3 : ℕ) → a + 4 ≤ length d
    → paste d a (b0 ∷ b1 ∷ b2 ∷ b3 ∷ []) 4 ≡ set (set (set (set d a b0) (a + 1) b1) (a + 2) b2) (a + 3) b3
four_put d a b0 b1 b2 b3 h =
    let s : List ℕ = b0 ∷ b1 ∷ b2 ∷ b3 ∷ [] in
    let p1 = fill_step d a s 0 {k = a} {v = b0} (omega arith) (omega arith) (omega arith) refl (paste-zero d a s) in
    let p2 = fill_step d a s 1 {k = a + 1} {v = b1} (omega arith) (omega arith) refl refl p1 in
    let p3 = fill_step d a s 2 {k = a + 2} {v = b2} (omega arith) (omega arith) refl refl p2 in
    sym (fill_step d a s 3 {k = a + 3} {v = b3} (omega arith) (omega arith) refl refl p3)

module _ (x : ℕ) where
  -- four stores are one turn
  colour_step :
      (d : List ℕ) (cs : List ℕ) (i : ℕ) {d' : List ℕ} → i < 32 → x + 128 ≤ length d → d' ≡ paste d x (colour_bytes cs) (4 * i)
      → set
      (set
      (set (set d' (x + 4 * i) (at cs i % 256)) (x + 4 * i + 1) (at cs i / 256 % 256))
      (x + 4 * i + 2)
      (at cs i / 65536 % 256))
      (x + 4 * i + 3)
      (at cs i / 16777216 % 256)
      ≡ paste d x (colour_bytes cs) (4 * (i + 1))
  colour_step d cs i {d'} hi hd p =
      let n : length (colour_bytes cs) ≡ 128 = length-colour_bytes cs in
      let z0 : 4 * i + 0 ≡ 4 * i = omega arith in
      let z1 : 4 * i + 0 + 1 ≡ 4 * i + 1 = omega arith in
      let z2 : 4 * i + 1 + 1 ≡ 4 * i + 2 = omega arith in
      let z3 : 4 * i + 2 + 1 ≡ 4 * i + 3 = omega arith in
      let z4 : 4 * i + 3 + 1 ≡ 4 * (i + 1) = omega arith in
      let s : List ℕ = colour_bytes cs in
      let p0 : d' ≡ paste d x s (4 * i + 0) = p ∙ ap (paste d x s) (sym z0) in
      let p1 = fill_step d x s (4 * i + 0) {k = x + 4 * i} (omega arith) (omega arith) (omega arith) (colour_byte cs i 0 hi (omega arith)) p0
      ∙ ap (paste d x s) z1 in
      let p2 = fill_step d x s (4 * i + 1) {k = x + 4 * i + 1} (omega arith) (omega arith) (omega arith) (colour_byte cs i 1 hi (omega arith)) p1
      ∙ ap (paste d x s) z2 in
      let p3 = fill_step d x s (4 * i + 2) {k = x + 4 * i + 2} (omega arith) (omega arith) (omega arith) (colour_byte cs i 2 hi (omega arith)) p2
      ∙ ap (paste d x s) z3 in
      fill_step d x s (4 * i + 3) {k = x + 4 * i + 3} (omega arith) (omega arith) (omega arith) (colour_byte cs i 3 hi (omega arith)) p3
      ∙ ap (paste d x s) z4

  pub colour_put :
      (d : List ℕ) (cs : List ℕ) (i : ℕ) {d' : List ℕ} → i < 32 → x + 128 ≤ length d → length d' ≡ length d → d' ≡ paste d x (colour_bytes cs) (4 * i)
      → paste d' (x + 4 * i) (at cs i % 256 ∷ at cs i / 256 % 256 ∷ at cs i / 65536 % 256 ∷ at cs i / 16777216 % 256 ∷ []) 4
      ≡ paste d x (colour_bytes cs) (4 * (i + 1))
  colour_put d cs i {d'} hi hd hl p =
      four_put d' (x + 4 * i) (at cs i % 256) (at cs i / 256 % 256) (at cs i / 65536 % 256) (at cs i / 16777216 % 256) (omega arith)
      ∙ colour_step d cs i hi hd p

  pub length-colours_from : (b : List ℕ) → length (colours_from x b) ≡ 32
  unfolding colours_from
  length-colours_from b = length-table 32 _

  pub colours_step :
      (b : List ℕ) (i : ℕ) {out : List ℕ} {v : ℕ} → i < 32 → v ≡ colour_at b (x + 4 * i) → out ≡ paste (replicate 32 0) 0 (colours_from x b) i
      → set out i v ≡ paste (replicate 32 0) 0 (colours_from x b) (i + 1)
  unfolding colours_from
  colours_step b i h e p =
      fill_step (replicate 32 0) 0 (colours_from x b) i (omega arith) (rw (length-colours_from b) h) (omega arith)
      (e ∙ sym (get_d_table 32 (λ k. colour_at b (x + 4 * k)) i h)) p

  pub colours_all : (b : List ℕ) (i : ℕ) → i ≡ 32 → paste (replicate 32 0) 0 (colours_from x b) i ≡ colours_from x b
  colours_all b i e = filled 32 (colours_from x b) (length-colours_from b) e

  -- one of them
  pub one_of_lem : (b : List ℕ) (i : ℕ) → i < 32 → at (colours_from x b) i ≡ colour_at b (x + 4 * i)
  unfolding colours_from
  one_of_lem b i h = get_d_table 32 (λ k. colour_at b (x + 4 * k)) i h

  -- colours whose bytes stand in a block are read back from there
  module _ (b cs : List ℕ) (n : length cs ≡ 32) (low : (i : ℕ) → at cs i < 4294967296)
      (here : (i : ℕ) → i < 128 → at b (x + i) ≡ at (colour_bytes cs) i) where
    one_byte : (i j : ℕ) → i < 32 → j < 4 → at b (x + 4 * i + j) ≡ byte_of_colour (at cs i) j
    one_byte i j hi hj =
        let e : x + 4 * i + j ≡ x + (4 * i + j) = omega arith in
        ap (at b) e ∙ here (4 * i + j) (omega arith) ∙ sym (colour_byte cs i j hi hj)

    one_colour : (i : ℕ) → i < 32 → at cs i ≡ colour_at b (x + 4 * i)
    unfolding colour_at
    one_colour i hi =
        let z : x + 4 * i ≡ x + 4 * i + 0 = omega arith in
        sym
        (ap (λ (n : ℕ). of_bytes (at b n) (at b (x + 4 * i + 1)) (at b (x + 4 * i + 2)) (at b (x + 4 * i + 3))) z
        ∙ rw (one_byte i 0 hi (omega arith), one_byte i 1 hi (omega arith), one_byte i 2 hi (omega arith), one_byte i 3 hi (omega arith))
        (of_bytes_lem (at cs i) (low i)))

    pub colours_back : colours_from x b ≡ cs
    unfolding colours_from
    colours_back = sym (is_table cs 32 (λ i. colour_at b (x + 4 * i)) n one_colour)

  -- and the colours of a block of bytes have those bytes
  module _ (b : List ℕ) (bytes : (i : ℕ) → at b i < 256) where
    four : (i r : ℕ) → r < 4 → byte_of_colour (colour_at b i) r ≡ at b (i + r)
    unfolding colour_at
    four i zero h = let z : i + 0 ≡ i = omega arith in rw z
        (byte_0 (at b i) (at b (i + 1)) (at b (i + 2)) (at b (i + 3)) (bytes i) (bytes (i + 1)) (bytes (i + 2)) (bytes (i + 3)))
    four i (suc zero) h = byte_1 (at b i) (at b (i + 1)) (at b (i + 2)) (at b (i + 3)) (bytes i) (bytes (i + 1)) (bytes (i + 2)) (bytes (i + 3))
    four i (suc (suc zero)) h = byte_2 (at b i) (at b (i + 1)) (at b (i + 2)) (at b (i + 3)) (bytes i) (bytes (i + 1)) (bytes (i + 2)) (bytes (i + 3))
    four i (suc (suc (suc zero))) h = byte_3 (at b i) (at b (i + 1)) (at b (i + 2)) (at b (i + 3)) (bytes i) (bytes (i + 1)) (bytes (i + 2))
        (bytes (i + 3))
    four i (suc (suc (suc (suc r)))) h = absurd (omega arith)

    pub colours_in_lem : x + 128 ≤ length b → colour_bytes (colours_from x b) ≡ take 128 (drop x b)
    unfolding colour_bytes
    colours_in_lem long =
        sym
        (is_table (take 128 (drop x b)) 128 (λ k. byte_of_colour (at (colours_from x b) (k / 4)) (k % 4))
        (simp (length-take, length-drop) (omega arith))
        (λ k h.
        let q : k / 4 < 32 = omega arith in
        let r : k % 4 < 4 = omega arith in
        let e : x + k ≡ x + 4 * (k / 4) + k % 4 = omega arith in
        get_or-take 128 (drop x b) k 0 h
        ∙ get_or-drop x b k 0
        ∙ ap (at b) e
        ∙ sym (four (x + 4 * (k / 4)) (k % 4) r)
        ∙ ap (λ (c : ℕ). byte_of_colour c (k % 4)) (sym (one_of_lem b (k / 4) q))))

    -- each of them is one of 32 bits
    pub colour_low : (i : ℕ) → at (colours_from x b) i < 4294967296
    unfolding colour_at
    colour_low i =
        elim (dec_lt i 32) [
          | yes l ↦ rw (one_of_lem b i l)
              (omega (arith, bytes (x + 4 * i), bytes (x + 4 * i + 1), bytes (x + 4 * i + 2), bytes (x + 4 * i + 3)))
          | no l ↦
              let h : length (colours_from x b) ≤ i = omega (arith, length-colours_from b) in
              rw (get_or-eq_default (colours_from x b) 0 h) (omega arith)
        ]
