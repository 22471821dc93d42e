-- The front of a block, as its bytes are stored: each store is the block with the front so changed, and stores one after the other are one.
-- Assumes nothing.
use Rattle.std.specs.Prelude.{Option, ℕ}
use mathlib.Core.Path.{◌≡◌, refl, sym, ap, ◌∙◌}
use mathlib.Core.List.{List, [], ◌∷◌, ◌++◌}
use Prim.Native.Nat.{ℕ, suc, ◌+◌, ◌*◌, ◌/◌, ◌%◌, ◌≤◌, ◌<◌}
use native.Mathlib.Omega.{arith}
use borrow.Author.Tests.{leb-true}
use lib.ListN.{length, take, drop, set, length-append, length-take, length-drop}
use lib.Seq.{take_at, drop_at, drop-drop, set-append_left}
use Rattle.laws.specs.Lists.{at}
use Rattle.laws.specs.Sizes.{vram_size}
use Rattle.laws.specs.Table.{table_from}
use Rattle.laws.proofs.Parts.{part_table, parted, at_past, set_past}
use Rattle.front.specs.declared.Front.{Front}
use Rattle.front.specs.declared.WriteDest.{WriteDest}
use Rattle.front.specs.Front.{front, with_command, choosing, with_reg, with_buffer}
use Rattle.fields.specs.Fields.{chosen_of, chosen_from, latch_flag, latch_byte, latch_from}
use Rattle.fields.specs.Stored.{latch_stored, address_stored, front_in, front_stored, FrontFormed}
use Rattle.fields.proofs.Fields.{chosen_back, latch_back, address_back, chosen_ok, latch_ok, byte_ok, chosen_in, latch_flag_in, latch_byte_in}

-- ---- a block by its bytes
module _ (b : List ℕ) (h : 23 ≤ length b) where
  parts : table_from 3 0 (at b) ++ (take 11 (drop 3 b) ++ (table_from 9 14 (at b) ++ drop 23 b)) ≡ b
  parts =
      rw (part_table 3 0 b (omega arith), part_table 9 14 b (omega arith))
      (sym
      (parted 3 0 b
      ∙ ap (λ (x : List ℕ). take 3 b ++ x) (parted 11 3 b ∙ ap (λ (x : List ℕ). take 11 (drop 3 b) ++ x) (parted 9 14 b))))

  pub whole :
      b ≡ at b 0 ∷ at b 1 ∷ at b 2 ∷ (take 11 (drop 3 b) ++
      (at b 14 ∷ at b 15 ∷ at b 16 ∷ at b 17 ∷ at b 18 ∷ at b 19 ∷ at b 20 ∷ at b 21 ∷ at b 22 ∷ drop 23 b))
  unfolding table_from
  whole = sym parts

  pub registers_long : length (take 11 (drop 3 b)) ≡ 11
  registers_long = simp (length-take, length-drop) (omega arith)

  pub eleven : length (front_in b).reg ≡ 11
  unfolding front_in
  eleven = registers_long

-- ---- the front's own bytes are those of the front that is read, and a store changes them as it does the front
module _ (b : List ℕ) (w : FrontFormed b) where
  low : (at b 17 + 256 * at b 18) % 256 ≡ at b 17
  low = omega arith

  high : (at b 17 + 256 * at b 18) / 256 ≡ at b 18
  high = omega arith

  pub stays : front_stored (front_in b) b ≡ b
  unfolding front_in front_stored
  stays =
      rw (low, high, chosen_in (at b 20) w.chosen, latch_flag_in (at b 21) (at b 22) w.flag, latch_byte_in (at b 21) (at b 22) w.byte)
      (sym (whole b w.long))

  pub command_stored : (l : Option ℕ) {b' : List ℕ} → b' ≡ latch_stored 21 l b → b' ≡ front_stored (with_command (front_in b) l) b
  unfolding front_in front_stored
  command_stored l e =
      let g : List ℕ = take 11 (drop 3 b) in
      let r = registers_long b w.long in
      e
      ∙ ap (latch_stored 21 l) (whole b w.long)
      ∙ rw (set_past g _ 11 7 _ r, set_past g _ 11 8 _ r, low, high, chosen_in (at b 20) w.chosen)

  pub choice_stored :
      (d : Option WriteDest) (a : ℕ) {b₁ : List ℕ} {x : ℕ} → b₁ ≡ address_stored a b → x ≡ chosen_of d →
      set b₁ 20 x ≡ front_stored (choosing (front_in b) d a) b
  unfolding front_in front_stored
  choice_stored d a e ex =
      let g : List ℕ = take 11 (drop 3 b) in
      let r = registers_long b w.long in
      rw (e, ex)
      (ap (λ (x : List ℕ). set (address_stored a x) 20 (chosen_of d)) (whole b w.long)
      ∙ rw (
        set_past g _ 11 3 _ r,
        set_past g _ 11 4 _ r,
        set_past g _ 11 6 _ r,
        latch_flag_in (at b 21) (at b 22) w.flag,
        latch_byte_in (at b 21)
            (at b 22) w.byte,
      ))

  pub buffer_stored :
      (v a : ℕ) {b₁ : List ℕ} → b₁ ≡ address_stored ((a + 1) % vram_size) b → set b₁ 19 v ≡ front_stored (with_buffer (front_in b) v a) b
  unfolding front_in front_stored
  buffer_stored v a e =
      let g : List ℕ = take 11 (drop 3 b) in
      let r = registers_long b w.long in
      rw e
      (ap (λ (x : List ℕ). set (address_stored ((a + 1) % vram_size) x) 19 v) (whole b w.long)
      ∙ rw (
        set_past g _ 11 3 _ r,
        set_past g _ 11 4 _ r,
        set_past g _ 11 5 _ r,
        chosen_in (at b 20) w.chosen,
        latch_flag_in (at b 21) (at b 22)
            w.flag,
        latch_byte_in (at b 21) (at b 22) w.byte,
      ))

  pub register_stored : (n v : ℕ) → n < 11 → set b (3 + n) v ≡ front_stored (with_reg (front_in b) (set (front_in b).reg n v)) b
  unfolding front_in front_stored
  register_stored n v h =
      let g : List ℕ = take 11 (drop 3 b) in
      let q : List ℕ = at b 14 ∷ at b 15 ∷ at b 16 ∷ at b 17 ∷ at b 18 ∷ at b 19 ∷ at b 20 ∷ at b 21 ∷ at b 22 ∷ drop 23 b in
      let k : n < length g = omega (arith, registers_long b w.long) in
      ap (λ (x : List ℕ). set x (3 + n) v) (whole b w.long)
      ∙ set_past (at b 0 ∷ at b 1 ∷ at b 2 ∷ []) (g ++ q) 3 n v refl
      ∙ ap (λ (x : List ℕ). at b 0 ∷ at b 1 ∷ at b 2 ∷ x) (set-append_left g q n v k)
      ∙ rw (low, high, chosen_in (at b 20) w.chosen, latch_flag_in (at b 21) (at b 22) w.flag, latch_byte_in (at b 21) (at b 22) w.byte)

-- ---- a block in which a front was stored
module _ (f : Front) (b : List ℕ) (e : length f.reg ≡ 11) where
  -- what stands behind the registers
  tail : List ℕ
  tail =
      at b 14
      ∷ at b 15
      ∷ at b 16
      ∷ f.addr % 256
      ∷ f.addr / 256
      ∷ f.vram_buffer
      ∷ chosen_of f.dest
      ∷ latch_flag f.cmd_byte1
      ∷ latch_byte f.cmd_byte1
      ∷ drop 23 b

  byte : (k : ℕ) {x : ℕ} → at tail k ≡ x → at (front_stored f b) (14 + k) ≡ x
  unfolding front_stored tail
  byte k q = at_past (at b 0 ∷ at b 1 ∷ f.status ∷ f.reg) tail 14 k (ap (λ (n : ℕ). suc (suc (suc n))) e) ∙ q

  behind : drop 23 (front_stored f b) ≡ drop 23 b
  unfolding front_stored tail
  behind =
      sym (drop-drop 9 14 (front_stored f b)) ∙ ap (drop 9)
      (drop_at (at b 0 ∷ at b 1 ∷ f.status ∷ f.reg) tail 14 (ap (λ (n : ℕ). suc (suc (suc n))) e))

  status_again : at (front_stored f b) 2 ≡ f.status
  unfolding front_stored
  status_again = refl

  registers_again : take 11 (drop 3 (front_stored f b)) ≡ f.reg
  unfolding front_stored tail
  registers_again = take_at f.reg tail 11 e

  pub in_again : front_in (front_stored f b) ≡ f
  unfolding front_in tail
  in_again =
      let k : List ℕ = front_stored f b in
      λ i. record {
        status = status_again i;
        reg = registers_again i;
        addr = (ap (λ (x : ℕ). x + 256 * at k 18) (byte 3 refl) ∙ ap (λ (x : ℕ). f.addr % 256 + 256 * x) (byte 4 refl) ∙ address_back f.addr) i;
        vram_buffer = byte 5 refl i;
        dest = (ap chosen_from (byte 6 refl) ∙ chosen_back f.dest) i;
        cmd_byte1 = (ap (λ (x : ℕ). latch_from x (at k 22)) (byte 7 refl) ∙ ap (latch_from (latch_flag f.cmd_byte1)) (byte 8 refl) ∙ latch_back
            f.cmd_byte1) i;
      }

  pub stored_again : (g : Front) → front_stored g (front_stored f b) ≡ front_stored g b
  unfolding front_stored tail
  stored_again g = rw (byte 0 refl, byte 1 refl, byte 2 refl, behind)

  pub length-stored : 23 ≤ length b → length (front_stored f b) ≡ length b
  unfolding front_stored
  length-stored h = simp (length-append, length-drop) (omega (arith, e))

  pub formed_again : 23 ≤ length b → FrontFormed (front_stored f b)
  unfolding tail
  formed_again h =
      record {
        long = omega (arith, length-stored h);
        low = rw (byte 3 refl) (omega arith);
        chosen = rw (byte 6 refl) (leb-true (chosen_of f.dest) 2 (chosen_ok f.dest));
        flag = rw (byte 7 refl) (leb-true (latch_flag f.cmd_byte1) 1 (latch_ok f.cmd_byte1));
        byte = rw (byte 7 refl, byte 8 refl) (byte_ok f.cmd_byte1);
      }

-- ---- so stores one after the other are one, and a block stays formed
module _ (b : List ℕ) (f : Front) {b₁ : List ℕ} (e : length f.reg ≡ 11) (p : b₁ ≡ front_stored f b) where
  pub next_stored : (c : Front → Front) {b₂ : List ℕ} → b₂ ≡ front_stored (c (front_in b₁)) b₁ → b₂ ≡ front_stored (c f) b
  next_stored c q =
      q
      ∙ ap (λ (x : List ℕ). front_stored (c (front_in x)) x) p
      ∙ ap (λ (g : Front). front_stored (c g) (front_stored f b)) (in_again f b e)
      ∙ stored_again f b e (c f)

  -- a memory chosen, and the status cleared
  pub chosen_stored : (d : Option WriteDest) → set b₁ 20 (chosen_of d) ≡ front_stored (choosing f d f.addr) b
  unfolding front_stored
  chosen_stored d = rw p (set_past (at b 0 ∷ at b 1 ∷ f.status ∷ f.reg) _ 14 6 (chosen_of d) (ap (λ (n : ℕ). suc (suc (suc n))) e))

  pub status_stored : set b₁ 2 0 ≡ front_stored (front 0 f.reg f.addr f.vram_buffer f.dest f.cmd_byte1) b
  unfolding front_stored
  status_stored = rw p

  pub still_formed : FrontFormed b → FrontFormed b₁
  still_formed w = rw p (formed_again f b e w.long)
