-- What a repair is good for, proved.
-- Assumes nothing.
use Rattle.std.specs.Prelude.{None, Option, Some}
use mathlib.Core.Path.{◌≡◌, refl, sym, ap, subst, ◌∙◌}
use mathlib.Core.Logic.{◌≢◌}
use mathlib.Core.Bool.{Bool, true, false, cond, not, ◌&&◌, ◌||◌, or-false}
use mathlib.Core.List.{List, [], ◌∷◌, ◌++◌, append-nil}
use Prim.Native.Nat.{ℕ, zero, suc, ◌+◌, ◌*◌, ◌/◌, ◌%◌, ◌≤◌, ◌<◌}
use native.Mathlib.Nat.{mod-lt, mod-eq_of_lt}
use native.Mathlib.Omega.{arith}
use borrow.Author.Tests.{eq-eqb, ne_eqb, eqb-true, eqb-false, le-leb, lt-ltb, ltb-true, ltb-false}
use lib.Dec.{eqb, ltb}
use lib.ListN.{length, length-append, get_or-append, get_or-eq_default}
use lib.Seq.{ext_get_or, get_or-append_seam}
use Rattle.laws.specs.Lists.{at}
use Rattle.laws.specs.Table.{table, table_from}
use Rattle.laws.proofs.Parts.{part_table}
use Rattle.laws.proofs.Tests.{split, both, clash, either}
use Rattle.front.specs.declared.WriteDest.{WriteDest}
use Rattle.front.specs.declared.WriteDest.TheVariants.{Vram, Cram}
use Rattle.vdp.specs.Refusals.{size}
use Rattle.block.specs.Block.{sized, mark_of, state_of, well_formed}
use Rattle.fields.specs.Fields.{flag_from, chosen_from, latch_fits}
use Rattle.block_parts.specs.Parts.{colour_at, colours_from}
use Rattle.block.proofs.Whole.{sized_low}
use Rattle.block.proofs.RoundTrip.{Said, said}
use Rattle.block_repair.specs.Repair.{within, held, choice, address, matching, dirty, mended_at, mended, differing, changes}
use Rattle.block_repair.specs.Salvaged.{nothing_wrong, among, Salvaged}
use Rattle.block_repair.proofs.Laws.{within_low, length-mended, at_mended}

-- ---- the parts
size_positive : (w : Option WriteDest) → 0 < size w
size_positive None = omega arith
size_positive (Some Vram) = omega arith
size_positive (Some Cram) = omega arith

within_kept : (h x : ℕ) → x ≤ h → within h x ≡ x
within_kept h x l = rw (le-leb x h l)

held_fits : (f x : ℕ) → latch_fits f (held f x) ≡ true
held_fits zero x = refl
held_fits (suc f) x = rw (ne_eqb (suc f) 0 (λ e. omega arith))

held_kept : (f x : ℕ) → latch_fits f x ≡ true → held f x ≡ x
held_kept zero x e = sym (eqb-true x 0 e)
held_kept (suc f) x e = rw (ne_eqb (suc f) 0 (λ z. omega arith))

whole : (a : ℕ) → a % 256 + 256 * (a / 256) ≡ a
whole a = omega arith

or-true : (t : Bool) → (t || true) ≡ true
or-true true = refl
or-true false = refl

-- a flag that is 0 becomes 1
claimed : (d : ℕ) → d ≤ 1 → (flag_from (cond (eqb d 0 && true) 1 d) || false) ≡ true
claimed zero h = refl
claimed (suc zero) h = refl
claimed (suc (suc d)) h = absurd (omega arith)

size_high : (w : Option WriteDest) → size w ≤ 16384
size_high None = omega arith
size_high (Some Vram) = omega arith
size_high (Some Cram) = omega arith

-- a flag that is right stays where its colours are
by_flag : (d : ℕ) → d ≤ 1 → (t : Bool) → (flag_from d || t) ≡ true → cond (eqb d 0 && not t) 1 d ≡ d
by_flag zero h true e = refl
by_flag zero h false e = clash (sym e)
by_flag (suc zero) h t e = refl
by_flag (suc (suc d)) h t e = absurd (omega arith)

table_same : (n k : ℕ) (f g : ℕ → ℕ) → ((i : ℕ) → k ≤ i → i < k + n → f i ≡ g i) → table_from n k f ≡ table_from n k g
unfolding table_from
table_same zero k f g h = refl
table_same (suc n) k f g h = λ i. h k (omega arith) (omega arith) i ∷ table_same n (suc k) f g (λ j l u. h j (omega arith) (omega arith)) i

-- bytes 27 to 218, palette and cache, are as they were
same_byte : (b : List ℕ) (k : ℕ) → 27 ≤ k → k < 219 → mended_at b k ≡ at b k
unfolding mended_at
same_byte b k l h =
    rw (
      ne_eqb k 0 (λ e. omega arith),
      ne_eqb k 1 (λ e. omega arith),
      ne_eqb k 15 (λ e. omega arith),
      ne_eqb k 17 (λ e. omega arith),
      ne_eqb k 18
          (λ e. omega arith),
      ne_eqb k 20 (λ e. omega arith),
      ne_eqb k 21 (λ e. omega arith),
      ne_eqb k 22 (λ e. omega arith),
      ne_eqb k 23
          (λ e. omega arith),
      ne_eqb k 24 (λ e. omega arith),
      ne_eqb k 26 (λ e. omega arith),
      ne_eqb k 219 (λ e. omega arith),
    )

module _ (b : List ℕ) (s : sized (length b) ≡ true) where
  m : List ℕ
  m = mended b

  low : 219 ≤ length b
  low = sized_low (length b) s

  byte : (k : ℕ) → k < 219 → at m k ≡ mended_at b k
  unfolding m
  byte k h = at_mended b k (omega (arith, low))

  kept : (k : ℕ) → 27 ≤ k → k < 219 → at m k ≡ at b k
  kept k l h = byte k h ∙ same_byte b k l h

  table_low : at m 219 ≤ 1
  unfolding m mended_at
  table_low =
      split (eqb (length b) 219)
      (λ t.
      let e : length b ≡ 219 = eqb-true (length b) 219 t in
      let z : length (mended b) ≤ 219 = omega (arith, length-mended b) in
      rw (get_or-eq_default (mended b) 0 z) (omega arith))
      (λ t. rw (at_mended b 219 (omega (arith, low, eqb-false (length b) 219 t))) (within_low 1 (at b 219)))

  m_sized : sized (length m) ≡ true
  unfolding m
  m_sized = rw (length-mended b) s

  -- each byte that the rules speak of
  unfolding_0 : (at m 0 ≡ 0x56) × (at m 1 ≡ mark_of (length m)) × (at m 15 ≡ within 1 (at b 15)) × (at m 17 ≡ address b % 256) ×
      (at m 18 ≡ address b / 256)
  unfolding m mended_at
  unfolding_0 = (
    byte 0 (omega arith),
    byte 1 (omega arith) ∙ ap mark_of (sym (length-mended b)),
    byte 15 (omega arith),
    byte 17 (omega arith),
    byte
        18 (omega arith),
  )

  unfolding_1 : (at m 20 ≡ choice b) × (at m 21 ≡ within 1 (at b 21)) × (at m 22 ≡ held (within 1 (at b 21)) (at b 22)) ×
      (at m 23 ≡ within 1 (at b 23)) × (at m 24 ≡ held (within 1 (at b 23)) (at b 24)) × (at m 26 ≡ dirty b)
  unfolding mended_at
  unfolding_1 = (
    byte 20 (omega arith),
    byte 21 (omega arith),
    byte 22 (omega arith),
    byte 23 (omega arith),
    byte 24 (omega arith),
    byte 26
        (omega arith),
  )

  dirty_low : dirty b ≤ 1
  unfolding dirty
  dirty_low = either (λ (x : ℕ). x ≤ 1) (eqb (within 1 (at b 26)) 0 && not (matching b)) (λ _. omega arith) (λ _. within_low 1 (at b 26))

  well_formed_lem : well_formed m ≡ true
  unfolding well_formed
  well_formed_lem =
      let u = unfolding_0 in
      let v = unfolding_1 in
      rw (m_sized, u.0, u.1, eq-eqb (mark_of (length m)) (mark_of (length m)) refl, u.2, le-leb (within 1 (at b 15)) 1 (within_low 1 (at b 15)))
      (rw (
        v.0,
        le-leb (choice b) 2 (within_low 2 (at b 20)),
        v.1,
        le-leb (within 1 (at b 21)) 1 (within_low 1 (at b 21)),
        v.2,
        held_fits (within 1 (at b 21)) (at b 22),
      )
      (rw (
        v.3,
        le-leb (within 1 (at b 23)) 1 (within_low 1 (at b 23)),
        v.5,
        le-leb (dirty b) 1 dirty_low,
        le-leb (at m 219) 1 table_low,
        v.4,
        held_fits (within 1 (at b 23)) (at b 24),
      )))

  -- the address lies in its memory
  addressed : ltb (state_of m).addr (size (state_of m).dest) ≡ true
  unfolding state_of address
  addressed =
      let u = unfolding_0 in
      let v = unfolding_1 in
      rw (u.3, u.4, v.0, whole (address b))
      (lt-ltb (address b) (size (chosen_from (choice b))) (mod-lt (at b 17 + 256 * at b 18) (size_positive (chosen_from (choice b)))))

  -- palette and cache are as they were, and so whether they match
  same_palette : (state_of m).cram ≡ (state_of b).cram
  unfolding state_of m
  same_palette =
      sym (part_table 64 27 (mended b) (omega (arith, low, length-mended b)))
      ∙ table_same 64 27 (at (mended b)) (at b) (λ k l h. kept k l (omega arith))
      ∙ part_table 64 27 b (omega (arith, low))

  same_cache : (state_of m).color_cache ≡ (state_of b).color_cache
  unfolding state_of colours_from colour_at table
  same_cache =
      table_same 32 0 (λ i. colour_at m (91 + 4 * i)) (λ i. colour_at b (91 + 4 * i))
      (λ k l h. rw (
        kept (91 + 4 * k) (omega arith) (omega arith),
        kept (91 + 4 * k + 1) (omega arith) (omega arith),
        kept (91 + 4 * k + 2)
            (omega arith) (omega arith),
        kept (91 + 4 * k + 3) (omega arith) (omega arith),
      ))

  same_match : matching m ≡ matching b
  unfolding matching
  same_match = rw (same_palette, same_cache)

  clean : ((state_of m).cram_dirty || matching m) ≡ true
  unfolding state_of dirty
  clean =
      rw (unfolding_1.5, same_match)
      (split (matching b)
      (λ t. rw (t, or-true (flag_from (cond (eqb (within 1 (at b 26)) 0 && false) 1 (within 1 (at b 26))))))
      (λ t. rw t (claimed (within 1 (at b 26)) (within_low 1 (at b 26)))))

  pub sound : nothing_wrong (mended b) ≡ true
  unfolding m
  sound = rw (well_formed_lem, addressed, clean)

  -- the two bytes of its address are bytes
  address_bytes : (at (mended b) 17 < 256) × (at (mended b) 18 < 256)
  unfolding m address
  address_bytes =
      let u = unfolding_0 in
      let h = mod-lt (at b 17 + 256 * at b 18) (size_positive (chosen_from (choice b))) in
      (rw u.3 (omega arith), rw u.4 (omega (arith, h, size_high (chosen_from (choice b)))))

-- ---- a block with nothing wrong stays
module _ (b : List ℕ) (right : nothing_wrong b ≡ true) (low-17 : at b 17 < 256) (low-18 : at b 18 < 256) where
  parts : (well_formed b ≡ true) × (ltb (state_of b).addr (size (state_of b).dest) ≡ true) × (((state_of b).cram_dirty || matching b) ≡ true)
  parts =
      let w = both (well_formed b && ltb (state_of b).addr (size (state_of b).dest)) ((state_of b).cram_dirty || matching b) right in
      let v = both (well_formed b) (ltb (state_of b).addr (size (state_of b).dest)) w.0 in
      (v.0, v.1, w.1)

  told : Said b parts.0
  told = said b parts.0

  choice_is : choice b ≡ at b 20
  choice_is = within_kept 2 (at b 20) told.chosen_20

  address_is : address b ≡ at b 17 + 256 * at b 18
  unfolding address state_of
  address_is =
      rw choice_is
      (mod-eq_of_lt (ltb-true (at b 17 + 256 * at b 18) (size (chosen_from (at b 20))) parts.1))

  dirty_is : dirty b ≡ at b 26
  unfolding dirty state_of
  dirty_is = rw (within_kept 1 (at b 26) told.flag_26) (by_flag (at b 26) told.flag_26 (matching b) parts.2)

  put : (k j v : ℕ) {rest : ℕ} → v ≡ at b j → rest ≡ at b k → cond (eqb k j) v rest ≡ at b k
  put k j v e r = split (eqb k j) (λ t. rw t (e ∙ ap (at b) (sym (eqb-true k j t)))) (λ t. rw t r)

  pub untouched : (k : ℕ) → mended_at b k ≡ at b k
  unfolding mended_at
  untouched k =
      let f21 = within_kept 1 (at b 21) told.flag_21 in
      let f23 = within_kept 1 (at b 23) told.flag_23 in
      put k 0 0x56 (sym told.mark_0)
      (put k 1 (mark_of (length b)) (sym told.mark_1)
      (put k 15 (within 1 (at b 15)) (within_kept 1 (at b 15) told.flag_15)
      (put k 17 (address b % 256) (rw address_is (omega arith))
      (put k 18 (address b / 256) (rw address_is (omega arith))
      (put k 20 (choice b) choice_is
      (put k 21 (within 1 (at b 21)) f21
      (put k 22 (held (within 1 (at b 21)) (at b 22)) (rw f21 (held_kept (at b 21) (at b 22) told.command))
      (put k 23 (within 1 (at b 23)) f23
      (put k 24 (held (within 1 (at b 23)) (at b 24)) (rw f23 (held_kept (at b 23) (at b 24) told.palette))
      (put k 26 (dirty b) dirty_is
      (put k 219 (within 1 (at b 219)) (within_kept 1 (at b 219) told.table_219) refl)))))))))))

  pub stays_so : mended b ≡ b
  stays_so = ext_get_or 0 (mended b) b (length-mended b) (λ k h. at_mended b k (rw (length-mended b) at h) ∙ untouched k)

  pub none : (n : ℕ) → differing n (at b) (mended_at b) ≡ []
  unfolding differing
  none zero = refl
  none (suc n) = rw (none n, eq-eqb (at b n) (mended_at b n) (sym (untouched n)))

-- ---- the list
among_append : (k : ℕ) (l x : List ℕ) → among k (l ++ x) ≡ (among k l || among k x)
among_append k [] x = refl
among_append k (y ∷ l) x = rw (among_append k l x) (or_assoc (eqb y k) (among k l) (among k x))
  where
    or_assoc : (a c d : Bool) → (a || (c || d)) ≡ ((a || c) || d)
    or_assoc true c d = refl
    or_assoc false c d = refl

module _ (f g : ℕ → ℕ) where
  there : (n k : ℕ) → among k (differing n f g) ≡ true → (k < n) × (f k ≢ g k)
  unfolding differing
  there zero k e = clash (sym e)
  there (suc n) k e =
      split (eqb (f n) (g n))
      (λ t.
      let p = there n k (rw (t, append-nil (differing n f g)) at e) in
      (omega (arith, p.0), p.1))
      (λ t.
      let q : (among k (differing n f g) || (eqb n k || false)) ≡ true = sym (among_append k (differing n f g) (n ∷ [])) ∙ (rw t at e) in
      split (among k (differing n f g))
      (λ a. let p = there n k a in (omega (arith, p.0), p.1))
      (λ a.
      let last : n ≡ k = eqb-true n k (sym (or-false (eqb n k)) ∙ (rw a at q)) in
      (omega arith, subst (λ (x : ℕ). f x ≢ g x) last (eqb-false (f n) (g n) t))))

  back : (n k : ℕ) → k < n → f k ≢ g k → among k (differing n f g) ≡ true
  unfolding differing
  back zero k h ne = absurd (omega arith)
  back (suc n) k h ne =
      among_append k (differing n f g) (cond (eqb (f n) (g n)) [] (n ∷ []))
      ∙ split (eqb n k)
      (λ t.
      let last : n ≡ k = eqb-true n k t in
      rw (ne_eqb (f n) (g n) (subst (λ (x : ℕ). f x ≢ g x) (sym last) ne), t) (or-true (among k (differing n f g))))
      (λ t. rw (back n k (omega (arith, eqb-false n k t)) ne))

  -- a list with n behind it: of numbers below n, and rising
  end_low : (l : List ℕ) (n : ℕ) → ((i : ℕ) → i < length l → at l i < n) → (i : ℕ) → i < length (l ++ (n ∷ [])) → at (l ++ (n ∷ [])) i < suc n
  end_low l n f i h =
      split (ltb i (length l))
      (λ t.
      let h' : i < length l = ltb-true i (length l) t in
      rw (get_or-append l (n ∷ []) 0 i h') (omega (arith, f i h')))
      (λ t.
      let end : i ≡ length l = omega (arith, ltb-false i (length l) t, length-append l (n ∷ [])) in
      rw (end, get_or-append_seam l n [] 0) (omega arith))

  end_rising :
      (l : List ℕ) (n : ℕ) → ((i : ℕ) → i < length l → at l i < n) → ((i j : ℕ) → i < j → j < length l → at l i < at l j) →
      (i j : ℕ) → i < j → j < length (l ++ (n ∷ [])) → at (l ++ (n ∷ [])) i < at (l ++ (n ∷ [])) j
  end_rising l n f u i j h k =
      let early : i < length l = omega (arith, length-append l (n ∷ [])) in
      split (ltb j (length l))
      (λ t.
      let h' : j < length l = ltb-true j (length l) t in
      rw (get_or-append l (n ∷ []) 0 i early, get_or-append l (n ∷ []) 0 j h') (u i j h h'))
      (λ t.
      let end : j ≡ length l = omega (arith, ltb-false j (length l) t, length-append l (n ∷ [])) in
      rw (get_or-append l (n ∷ []) 0 i early, end, get_or-append_seam l n [] 0) (f i early))

  -- each offset is below n, and higher than those before it
  each_low : (n i : ℕ) → i < length (differing n f g) → at (differing n f g) i < n
  unfolding differing
  each_low zero i h = absurd (omega arith)
  each_low (suc n) i h =
      split (eqb (f n) (g n))
      (λ t.
      let e : differing n f g ++ cond (eqb (f n) (g n)) [] (n ∷ []) ≡ differing n f g = rw t (append-nil (differing n f g)) in
      rw e (omega (arith, each_low n i (rw e at h))))
      (λ t.
      let e : differing n f g ++ cond (eqb (f n) (g n)) [] (n ∷ []) ≡ differing n f g ++ (n ∷ []) = rw t in
      rw e (end_low (differing n f g) n (each_low n) i (rw e at h)))

  rising : (n i j : ℕ) → i < j → j < length (differing n f g) → at (differing n f g) i < at (differing n f g) j
  unfolding differing
  rising zero i j h k = absurd (omega arith)
  rising (suc n) i j h k =
      split (eqb (f n) (g n))
      (λ t.
      let e : differing n f g ++ cond (eqb (f n) (g n)) [] (n ∷ []) ≡ differing n f g = rw t (append-nil (differing n f g)) in
      rw e (rising n i j h (rw e at k)))
      (λ t.
      let e : differing n f g ++ cond (eqb (f n) (g n)) [] (n ∷ []) ≡ differing n f g ++ (n ∷ []) = rw t in
      rw e (end_rising (differing n f g) n (each_low n) (rising n) i j h (rw e at k)))

-- ---- all of it
module _ (b : List ℕ) (s : sized (length b) ≡ true) (bytes : (i : ℕ) → at b i < 256) where
  pub salvaged : Salvaged b
  salvaged =
      let t = address_bytes b s in
      record {
        sound = sound b s;
        twice = stays_so (mended b) (sound b s) t.0 t.1;
        stays = (λ e. subst (λ (x : List ℕ). nothing_wrong x ≡ true) e (sound b s), λ w. stays_so b w (bytes 17) (bytes 18));
        empty = (λ e. subst (λ (x : List ℕ). nothing_wrong x ≡ true) (nothing-listed e) (sound b s), λ w. none b w (bytes 17) (bytes 18) (length b));
        listed = λ k. (
          λ e. let p = there (at b) (mended_at b) (length b) k e in (p.0, λ q. p.1 (sym q ∙ at_mended b k p.0)),
          λ p. back (at b) (mended_at b) (length b) k p.0 (λ q. p.1 (at_mended b k p.0 ∙ sym q)),
        );
        rising = rising (at b) (mended_at b) (length b);
      }
    where
      -- with nothing in the list no byte has changed
      nothing-listed : changes b ≡ [] → mended b ≡ b
      nothing-listed e =
          ext_get_or 0 (mended b) b (length-mended b)
          (λ k h.
          let k-in : k < length b = rw (length-mended b) at h in
          at_mended b k k-in
          ∙ split (eqb (mended_at b k) (at b k)) (λ t. eqb-true (mended_at b k) (at b k) t)
          (λ t.
          clash
          (sym (back (at b) (mended_at b) (length b) k k-in (λ q. eqb-false (mended_at b k) (at b k) t (sym q)))
          ∙ ap (among k) e)))
