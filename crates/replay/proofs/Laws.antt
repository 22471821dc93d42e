-- A replay, from what its parts give.
-- Assumes nothing.
use mathlib.Core.Path.{◌≡◌, sym, ap, ◌∙◌}
use mathlib.Core.Logic.{◌≢◌}
use mathlib.Core.Bool.{Bool, true, false}
use mathlib.Core.List.{List, []}
use Rattle.std.specs.Prelude.{Ok, Err}
use Prim.Native.Nat.{ℕ, zero, suc, ◌+◌, ◌-◌, ◌*◌, ◌/◌, ◌%◌, ◌≤◌, ◌<◌}
use native.Mathlib.Nat.{mul-le-mul, add-zero, add-suc}
use native.Mathlib.Numerals.{add-one}
use native.Mathlib.Omega.{arith}
use borrow.Author.Tests.{ne_eqb}
use lib.Dec.{eqb}
use lib.ListN.{length}
use Rattle.laws.specs.Lists.{at}
use Rattle.laws.proofs.Tests.{split}
use Rattle.picture.specs.Area.{area_from, row_size}
use Rattle.raster.specs.declared.LineTable.TheVariants.{Steps261}
use Rattle.block.specs.Block.{fits}
use Rattle.face.proofs.Blocks.{new_on}
use Rattle.face.specs.Face.{Called, Leaves, new_table_call, out_call, input_call, row_step_call}
use Rattle.replay.specs.Replay.{sum_of, row_sum, agreed, World, world, turn, wrote, read, stepped, turned, Run, run, after, ran, start, tallied, replayed}

-- ---- checksums
pub part_low : (i b : ℕ) → i < 1024 → b < 256 → (i + 1) * b ≤ 261120
part_low i b h l =
    let m : i + 1 ≤ 1024 = omega arith in
    let n : b ≤ 255 = omega arith in
    omega (arith, mul-le-mul m n)

pub sum_step : (l : List ℕ) (i : ℕ) {sum p : ℕ} → sum ≡ sum_of i l → p ≡ (i + 1) * at l i → sum + p ≡ sum_of (i + 1) l
unfolding sum_of
sum_step l i e q = rw (add-one i, e, q, add-one i)

-- the row of area 1 has 1,024 bytes, that of any other 640
pub wide_row : (n : ℕ) → n ≡ 1 → row_size (area_from n) ≡ 1024
wide_row n e = rw e

pub narrow_row : (n : ℕ) → n ≢ 1 → row_size (area_from n) ≡ 640
narrow_row n h = split (eqb n 0) (λ t. rw t) (λ t. rw (t, ne_eqb n 1 h))

-- ---- the calls
module _ (l : List ℕ) (k : ℕ) (w : World) where
  called : (c : Called) {n : ℕ} {b x : List ℕ} → Leaves c n b x → record { word = n; block = b; lent = x } ≡ c
  called c e = λ i. record { word = e.word i; block = e.block i; lent = e.lent i }

  pub wrote_turn :
      at l k ≡ 0x57 → {p n : ℕ} {b' m' : List ℕ} {t : Bool} → p ≡ at l (k + 1) → Leaves (out_call w.block w.vram p (at l (k + 2))) n b' m'
      → t ≡ agreed l k n b' 0 → turn t (world b' m' w.row) ≡ turned l k w
  unfolding turned wrote
  wrote_turn e {b' = b'} {m' = m'} ep c q =
      ap (λ (s : Bool). turn s (world b' m' w.row)) q ∙ ap (wrote l k w)
      (called _ c ∙ ap (λ (p : ℕ). out_call w.block w.vram p (at l (k + 2))) ep) ∙ sym (rw e)

  pub read_turn :
      at l k ≡ 0x52 → {p n : ℕ} {b' : List ℕ} {t : Bool} → p ≡ at l (k + 1) → Leaves (input_call w.block w.vram p) n b' []
      → t ≡ agreed l k n b' 0 → turn t (world b' w.vram w.row) ≡ turned l k w
  unfolding turned read
  read_turn e {b' = b'} ep c q =
      ap (λ (s : Bool). turn s (world b' w.vram w.row)) q ∙ ap (read l k w) (called _ c ∙ ap (input_call w.block w.vram) ep) ∙ sym (rw e)

  pub step_turn :
      at l k ≡ 0x53 → {n sum : ℕ} {b' x' : List ℕ} {t : Bool} → Leaves (row_step_call w.block w.vram w.row (at l (k + 1))) n b' x'
      → sum ≡ row_sum n (at l (k + 1)) x' → t ≡ agreed l k n b' sum → turn t (world b' w.vram x') ≡ turned l k w
  unfolding turned stepped
  step_turn e {n} {sum} {b'} {x'} c p q =
      ap (λ (s : Bool). turn s (world b' w.vram x')) (q ∙ ap (agreed l k n b') p) ∙ ap (stepped l k w) (called _ c) ∙ sym (rw e)

  pub no_turn : (at l k ≡ 0x57 → ⊥) → (at l k ≡ 0x52 → ⊥) → (at l k ≡ 0x53 → ⊥) → turn false w ≡ turned l k w
  unfolding turned
  no_turn e f g = sym (rw (ne_eqb (at l k) 0x57 e, ne_eqb (at l k) 0x52 f, ne_eqb (at l k) 0x53 g))

-- ---- the records in order
module _ (l m x : List ℕ) where
  abbrev up_to : ℕ → Run
  up_to n = ran n l (start m x)

  -- from a fresh block on
  pub begun : (b : List ℕ) → length b ≡ 219 → {n : ℕ} {b' : List ℕ} → Leaves (new_table_call b 0) n b' [] → up_to 0 ≡ run 0 true (world b' m x)
  unfolding ran
  begun b h e =
      let room : fits Steps261 (length b) ≡ true = rw h in
      ap (λ (k : List ℕ). run 0 true (world k m x)) (sym (e.block ∙ ap (λ (c : Called). c.block) (new_on b Steps261 room) ∙ rw h))

  -- after i records that agree, one more
  pub run_on : (i : ℕ) {w w' : World} {t : Bool} → up_to i ≡ run i true w → turn t w' ≡ turned l (16 * i) w → t ≡ true → up_to (i + 1) ≡ run (i + 1)
      true w'
  unfolding ran after
  run_on i e q h = rw (add-one i, e, ← q, h, add-one i)

  -- the first that differs
  stopped : (i : ℕ) {w w' : World} {t : Bool} → up_to i ≡ run i true w → turn t w' ≡ turned l (16 * i) w → t ≡ false → up_to (suc i) ≡ run i false w'
  unfolding ran after
  stopped i e q h = rw (e, ← q, h)

  stays : (i d : ℕ) {w : World} {c : ℕ} → up_to i ≡ run c false w → up_to (i + d) ≡ run c false w
  unfolding ran
  stays i zero e = rw add-zero e
  stays i (suc d) e = rw (add-suc, stays i d e)

  pub differs :
      (i : ℕ) {w w' : World} {t : Bool} → i < length l / 16 → up_to i ≡ run i true w → turn t w' ≡ turned l (16 * i) w → t ≡ false
      → Err i ≡ replayed l m x
  unfolding replayed tallied
  differs i h e q f =
      let n : suc i + (length l / 16 - suc i) ≡ length l / 16 = omega arith in
      sym (ap (λ (r : Run). tallied l r) (rw n at (stays (suc i) (length l / 16 - suc i) (stopped i e q f))))

  pub agree : (i : ℕ) {w : World} → i ≡ length l / 16 → up_to i ≡ run i true w → length l % 16 ≡ 0 → Ok (length l / 16) ≡ replayed l m x
  unfolding replayed tallied
  agree i h e c = sym (ap (λ (r : Run). tallied l r) (rw h at e) ∙ rw c)

  pub cut : (i : ℕ) {w : World} → i ≡ length l / 16 → up_to i ≡ run i true w → length l % 16 ≢ 0 → Err (length l / 16) ≡ replayed l m x
  unfolding replayed tallied
  cut i h e c = sym (ap (λ (r : Run). tallied l r) (rw h at e) ∙ rw (ne_eqb (length l % 16) 0 c))
