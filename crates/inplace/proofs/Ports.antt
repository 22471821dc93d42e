-- A port call in place, by what the record's call answers and leaves of the front.
-- Assumes nothing.
use Rattle.refusal.specs.declared.Refusal.{Refusal}
use Rattle.refusal.specs.Refusals.{Outcome}
use Rattle.std.specs.Prelude.{None, Option, Some, Err, Ok}
use mathlib.Core.Path.{◌≡◌, refl, sym, ap, ◌∙◌}
use mathlib.Core.Logic.{◌≢◌}
use mathlib.Core.Bool.{true}
use mathlib.Core.List.{List}
use Prim.Native.Nat.{ℕ, ◌+◌, ◌*◌, ◌/◌, ◌%◌, ◌≤◌, ◌<◌}
use lib.ListN.{length, set}
use borrow.Author.Tests.{lt-ltb, le-ltb, ne_eqb}
use Rattle.laws.specs.Lists.{at}
use Rattle.laws.specs.Sizes.{vram_size}
use Rattle.front.specs.declared.Front.{Front}
use Rattle.front.specs.declared.FrontWritten.{FrontWritten}
use Rattle.front.specs.declared.ReadBack.{ReadBack}
use Rattle.front.specs.declared.WriteDest.{WriteDest}
use Rattle.front.specs.declared.WriteDest.TheVariants.{Vram, Cram}
use Rattle.refusal.specs.declared.Refusal.TheVariants.{HighRegister, NothingChosen, OutsideMemory}
use Rattle.front.specs.Front.{FrontAfter, data_write, emptied, with_command, choosing, with_reg, with_buffer, loaded, sent, for_palette, refused_read, given}
use Rattle.front.specs.Front.{second_byte, command_write}
use Rattle.inplace.specs.declared.Sent.{Sent}
use Rattle.fields.specs.Fields.{chosen_of}
use Rattle.fields.specs.Stored.{latch_stored, address_stored, address_in, front_in, front_stored, FrontFormed}
use Rattle.inplace.specs.InPlace.{answered, SentInPlace, GotInPlace}
use Rattle.inplace.proofs.Stores.{eleven, in_again, command_stored, choice_stored, register_stored, next_stored, chosen_stored, still_formed}

-- ---- what was read of the block is what the front has
module _ (b : List ℕ) where
  pub address_is : {a : ℕ} → a ≡ address_in b → (front_in b).addr ≡ a
  unfolding front_in
  address_is e = sym e

  pub buffer_is : (front_in b).vram_buffer ≡ at b 19
  unfolding front_in
  buffer_is = refl

  pub status_is : (front_in b).status ≡ at b 2
  unfolding front_in
  status_is = refl

  pub none_is : at b 20 ≡ 0 → (front_in b).dest ≡ None
  unfolding front_in
  none_is e = rw e

  pub video_is : at b 20 ≡ 1 → (front_in b).dest ≡ (Some Vram)
  unfolding front_in
  video_is e = rw e

  pub palette_is : at b 20 ≢ 0 → at b 20 ≢ 1 → (front_in b).dest ≡ (Some Cram)
  unfolding front_in
  palette_is x y = rw (ne_eqb _ _ x, ne_eqb _ _ y)

-- ---- a command by its bytes: a first one waits, a second one acts with it; w is the number of both
module _ (n : ℕ) (b m : List ℕ) (v : ℕ) where
  pub first_waits : at b 21 ≡ 0 → command_write n (front_in b) m v ≡ sent (Ok tt) (with_command (front_in b) (Some v))
  unfolding front_in
  first_waits e = simp e

  module _ (h : at b 21 ≢ 0) where
    second : command_write n (front_in b) m v ≡ second_byte n (emptied (front_in b)) m (at b 22) v
    unfolding front_in
    second = simp (ne_eqb _ _ h)

    pub second_reads : v / 64 ≡ 0 → {w : ℕ} → w ≡ at b 22 + 256 * v →
        command_write n (front_in b) m v ≡ sent (Ok tt) (loaded (choosing (emptied (front_in b)) (Some Vram) (w % vram_size)) m (w % vram_size))
    second_reads k e = second ∙ rw (e, k)

    pub second_writes : v / 64 ≡ 1 → {w : ℕ} → w ≡ at b 22 + 256 * v →
        command_write n (front_in b) m v ≡ sent (Ok tt) (choosing (emptied (front_in b)) (Some Vram) (w % vram_size))
    second_writes k e = second ∙ rw (e, k)

    pub second_high : v / 64 ≡ 2 → 10 < v % 128 → command_write n (front_in b) m v ≡ sent (Err HighRegister) (emptied (front_in b))
    second_high k t = second ∙ rw (k, lt-ltb _ _ t)

    pub second_register : v / 64 ≡ 2 → v % 128 ≤ 10 →
        command_write n (front_in b) m v ≡ sent (Ok tt) (with_reg (emptied (front_in b)) (set (front_in b).reg (v % 128) (at b 22)))
    second_register k t = second ∙ rw (k, le-ltb _ _ t)

    pub second_palette : v / 64 ≢ 0 → v / 64 ≢ 1 → v / 64 ≢ 2 → {a : ℕ} → a ≡ at b 22 % n →
        command_write n (front_in b) m v ≡ sent (Ok tt) (choosing (emptied (front_in b)) (Some Cram) a)
    second_palette x y z e = second ∙ rw (ne_eqb _ _ x, ne_eqb _ _ y, ne_eqb _ _ z, e)

-- ---- a data byte by the memory that is chosen, a is the address
module _ (n : ℕ) (b m : List ℕ) (v : ℕ) where
  pub data_nothing : at b 20 ≡ 0 → data_write n (front_in b) m v ≡ record { answer = sent (Err NothingChosen) (emptied (front_in b)); vram = m }
  data_nothing e = simp (none_is b e)

  pub data_video : at b 20 ≡ 1 → {a : ℕ} → a ≡ address_in b → a < vram_size →
      data_write n (front_in b) m v ≡ record { answer = sent (Ok tt) (with_buffer (emptied (front_in b)) v a); vram = set m a v }
  data_video e q h = simp (video_is b e, address_is b q, lt-ltb _ _ h)

  pub data_outside : at b 20 ≡ 1 → {a : ℕ} → a ≡ address_in b → vram_size ≤ a →
      data_write n (front_in b) m v ≡ record { answer = sent (Err OutsideMemory) (emptied (front_in b)); vram = m }
  data_outside e q h = simp (video_is b e, address_is b q, le-ltb _ _ h)

  module _ (x : at b 20 ≢ 0) (y : at b 20 ≢ 1) {a : ℕ} (q : a ≡ address_in b) where
    pub data_palette : a < n → data_write n (front_in b) m v ≡ record { answer = for_palette (emptied (front_in b)); vram = m }
    data_palette h = simp (palette_is b x y, address_is b q, lt-ltb _ _ h)

    pub data_beyond : n ≤ a → data_write n (front_in b) m v ≡ record { answer = sent (Err OutsideMemory) (emptied (front_in b)); vram = m }
    data_beyond h = simp (palette_is b x y, address_is b q, le-ltb _ _ h)

-- ---- what is stored once the latch is empty
module _ (b : List ℕ) (w : FrontFormed b) where
  long : length (emptied (front_in b)).reg ≡ 11
  long = eleven b w.long

  pub emptied_stored : latch_stored 21 None b ≡ front_stored (emptied (front_in b)) b
  emptied_stored = command_stored b w None refl

  pub emptied_formed : FrontFormed (latch_stored 21 None b)
  emptied_formed = still_formed b (emptied (front_in b)) long emptied_stored w

  emptied_in : front_in (latch_stored 21 None b) ≡ emptied (front_in b)
  emptied_in = ap front_in emptied_stored ∙ in_again (emptied (front_in b)) b long

  pub then_address : {a : ℕ} → a ≡ address_in (latch_stored 21 None b) → (front_in b).addr ≡ a
  then_address e = sym (ap (λ (g : Front). g.addr) emptied_in) ∙ address_is (latch_stored 21 None b) e

  pub then_byte : (front_in b).vram_buffer ≡ at (latch_stored 21 None b) 19
  then_byte = sym (ap (λ (g : Front). g.vram_buffer) emptied_in) ∙ buffer_is (latch_stored 21 None b)

  then_stored : (c : Front → Front) {b₂ : List ℕ} →
      b₂ ≡ front_stored (c (front_in (latch_stored 21 None b))) (latch_stored 21 None b) → b₂ ≡ front_stored (c (emptied (front_in b))) b
  then_stored = next_stored b (emptied (front_in b)) long emptied_stored

  pub then_buffer : (v a : ℕ) {b₂ : List ℕ} →
      b₂ ≡ front_stored (with_buffer (front_in (latch_stored 21 None b)) v a) (latch_stored 21 None b) →
      b₂ ≡ front_stored (with_buffer (emptied (front_in b)) v a) b
  then_buffer v a = then_stored (λ (g : Front). with_buffer g v a)

  -- a memory chosen, and its first byte read with that
  pub then_choice : (d : Option WriteDest) (a : ℕ) {b₂ : List ℕ} → b₂ ≡ address_stored a (latch_stored 21 None b) →
      set b₂ 20 (chosen_of d) ≡ front_stored (choosing (emptied (front_in b)) d a) b
  then_choice d a e = then_stored (λ (g : Front). choosing g d a) (choice_stored (latch_stored 21 None b) emptied_formed d a e refl)

  pub then_loaded : (v a : ℕ) {b₂ : List ℕ} →
      b₂ ≡ front_stored (with_buffer (front_in (latch_stored 21 None b)) v a) (latch_stored 21 None b) →
      set b₂ 20 1 ≡ front_stored (with_buffer (choosing (emptied (front_in b)) (Some Vram) a) v a) b
  then_loaded v a e = chosen_stored b (with_buffer (emptied (front_in b)) v a) long (then_buffer v a e) (Some Vram)

  pub then_register : (n v : ℕ) → n < 11 →
      set (latch_stored 21 None b) (3 + n) v ≡ front_stored (with_reg (emptied (front_in b)) (set (front_in b).reg n v)) b
  then_register n v h = then_stored (λ (g : Front). with_reg g (set g.reg n v)) (register_stored (latch_stored 21 None b) emptied_formed n v h)

-- ---- the answer of a call, and the block that it leaves
module _ {b b' : List ℕ} {g : Front} where
  pub sent_by : {a : FrontWritten} {r : Sent} {x : Outcome} → a ≡ sent x g → r ≡ answered x → b' ≡ front_stored g b → SentInPlace b a r b'
  sent_by p q e = rw (p, q) (record { outcome = refl; palette = refl; block = e })

  pub refused_by : {a : ReadBack Front} {x : Refusal} → a ≡ refused_read x g → b' ≡ front_stored g b → GotInPlace b a (Err x) b'
  refused_by p e = rw p (record { byte = refl; block = e })

  pub data_by_lem :
      {a : FrontAfter} {r : Sent} {x : Outcome} {m : List ℕ} → a ≡ record { answer = sent x g; vram = m } → r ≡ answered x → b' ≡ front_stored g b →
      SentInPlace b a.answer r b' × (m ≡ a.vram)
  data_by_lem p q e = rw (p, q) (record { outcome = refl; palette = refl; block = e }, refl)

  -- the byte is for the palette, and a read that gives one
  pub palette_by :
      {a : FrontAfter} {m : List ℕ} → a ≡ record { answer = for_palette g; vram = m } → b' ≡ front_stored g b →
      SentInPlace b a.answer (record { outcome = (Ok tt); palette = true }) b' × (m ≡ a.vram)
  palette_by p e = rw p (record { outcome = refl; palette = refl; block = e }, refl)

  pub given_by : {a : ReadBack Front} {x : ℕ} → a ≡ given x g → b' ≡ front_stored g b → GotInPlace b a (Ok x) b'
  given_by p e = rw p (record { byte = refl; block = e })
