-- The front in either machine's block: 3 bytes of head, the registers, three bytes of the raster, the front's six, and what is behind.
-- Assumes nothing.
use mathlib.Core.Path.{◌≡◌, sym, ap, ◌∙◌}
use mathlib.Core.Bool.{true}
use mathlib.Core.List.{List, ◌∷◌, ◌++◌}
use Prim.Native.Nat.{ℕ, ◌/◌, ◌%◌, ◌<◌, ◌≤◌}
use lib.ListN.{length, drop}
use lib.Seq.{drop_at, drop-drop}
use Rattle.laws.specs.Lists.{at}
use Rattle.laws.proofs.Parts.{at_past, set_past}
use Rattle.front.specs.declared.Front.{Front}
use Rattle.fields.specs.Fields.{chosen_of, latch_flag, latch_byte}
use Rattle.fields.specs.Stored.{front_end, address_stored, front_stored, FrontFormed}
use Rattle.block_parts.specs.Parts.{fields_fit}
use Rattle.block_parts.proofs.Fields.{fit}

-- bytes that fit their places are a front's
pub formed : (b : List ℕ) → front_end ≤ length b → fields_fit b ≡ true → ((i : ℕ) → at b i < 256) → FrontFormed b
formed b long ok bytes =
    let f = fit b ok in
    record { long = long; low = bytes 17; chosen = f.chosen_20; flag = f.flag_21; byte = f.command }

module _ (a b t : ℕ) (r : List ℕ) (x y z : ℕ) (e : length r ≡ 11) where
  -- another front stored there
  pub front_put : (l h u c g w : ℕ) (q : List ℕ) (f : Front)
      → front_stored f (a ∷ b ∷ t ∷ (r ++ (x ∷ y ∷ z ∷ l ∷ h ∷ u ∷ c ∷ g ∷ w ∷ q)))
      ≡ a ∷ b ∷ f.status ∷ (f.reg ++ (x ∷ y ∷ z ∷ f.addr % 256 ∷ f.addr / 256 ∷ f.vram_buffer ∷ chosen_of f.dest ∷ latch_flag f.cmd_byte1
      ∷ latch_byte f.cmd_byte1 ∷ q))
  unfolding front_stored
  front_put l h u c g w q f =
      let s : List ℕ = x ∷ y ∷ z ∷ l ∷ h ∷ u ∷ c ∷ g ∷ w ∷ q in
      let behind : drop 20 (r ++ s) ≡ q = sym (drop-drop 9 11 (r ++ s)) ∙ ap (drop 9) (drop_at r s 11 e) in
      rw (at_past r s 11 0 e, at_past r s 11 1 e, at_past r s 11 2 e, behind)

  -- another address stored there
  pub address_put : (l h : ℕ) (q : List ℕ) (n : ℕ)
      → address_stored n (a ∷ b ∷ t ∷ (r ++ (x ∷ y ∷ z ∷ l ∷ h ∷ q))) ≡ a ∷ b ∷ t ∷ (r ++ (x ∷ y ∷ z ∷ n % 256 ∷ n / 256 ∷ q))
  address_put l h q n = rw (set_past r _ 11 3 _ e, set_past r _ 11 4 _ e)
