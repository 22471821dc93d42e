-- What every call on a home block leaves of its length and of its device's table; and that no block is both machines'.
-- Assumes nothing.
use mathlib.Core.Path.{◌≡◌, refl, sym, ap, ◌∙◌}
use mathlib.Core.Bool.{Bool, true, false, ◌&&◌}
use mathlib.Core.List.{List}
use Prim.Native.Nat.{ℕ, ◌<◌}
use native.Mathlib.Omega.{arith}
use lib.Dec.{eqb, leb}
use lib.ListN.{length}
use borrow.Author.Tests.{eqb-true}
use Rattle.laws.specs.Lists.{at}
use Rattle.laws.proofs.Tests.{either, split, both, clash}
use Rattle.raster.specs.Raster.{line_table_from}
use Rattle.word.specs.Called.{Called}
use Rattle.block.specs.Block.{well_formed as handheldFormed}
use Rattle.block.proofs.Whole.{long}
use Rattle.home.specs.declared.HomeState.{HomeState}
use Rattle.home.specs.Home.{made}
use Rattle.home_block.specs.HomeBlock.{block_size, state_of, well_formed}
use Rattle.home_block.proofs.Whole.{said, other_length}
use Rattle.home_block.proofs.RoundTrip.{state_back, length_block, block_back}
use Rattle.home_block.proofs.Shapes.{made_shape, state_shape}
use Rattle.face.specs.Home.{new_table_call, out_call, input_call, step_call, row_step_call, dump_call}
use Rattle.face.specs.HomeLayers.{layer_call}
use Rattle.demands.specs.Home.{home}
use Rattle.passes.proofs.Sound.{table_kept}
use Rattle.demands.proofs.Home.{home_lawful}
use Rattle.demands_face.specs.Face.{makes}
use Rattle.demands_face.specs.HomeCalls.{HomeCall, vdp_home_new, vdp_home_new_table, vdp_home_out, vdp_home_input, vdp_home_step, vdp_home_row_step}
use Rattle.demands_face.specs.HomeCalls.{vdp_home_layer_step, vdp_home_layer_row_step, vdp_home_dump_tileset, vdp_home_pixel, home_called, home_face}
use Rattle.demands_face.specs.Kept.{Keeps, Makes, HomeTableKept}
use Rattle.demands_face.specs.Apart.{Apart}
use Rattle.demands_face.proofs.Lawful.{Does, stays, does}
use Rattle.demands_face.proofs.HomeStands.{HomeStands, in_block, calls}

module _ (b : List ℕ) (bytes : (i : ℕ) → at b i < 256) where
  unchanged : (c : HomeCall) → (home_called c b).block ≡ b → Keeps home_face c b
  unchanged c e = record { version = ap length e; table = ap (λ (x : List ℕ). (state_of x).raster.table) e }

  -- a well-formed block stands for its own device, and a call keeps its table
  by_device : (c : HomeCall) → well_formed b ≡ true → Does home HomeStands b (state_of b) (home_called c b).block → Keeps home_face c b
  by_device c w (stays e) = unchanged c e
  by_device c w (does x s) =
      record {
        version = ap length s.is ∙ length_block (home.after x (state_of b)) s.shape ∙ sym (said b w).long;
        table = ap (λ (h : HomeState). h.raster.table) (in_block s) ∙ table_kept home_lawful x (state_of b);
      }

  -- a malformed one stays
  malformed : (c : HomeCall) → makes home_face c ≡ false → well_formed b ≡ false → (home_called c b).block ≡ b
  unfolding home_called out_call input_call step_call row_step_call layer_call dump_call
  malformed vdp_home_new e w = clash e
  malformed (vdp_home_new_table t) e w = clash e
  malformed (vdp_home_out m p v byte) e w = rw w
  malformed (vdp_home_input m p) e w = rw w
  malformed (vdp_home_step m x) e w = rw w
  malformed (vdp_home_row_step m x) e w = rw w
  malformed (vdp_home_layer_step m x layers) e w = rw w
  malformed (vdp_home_layer_row_step m x layers) e w = rw w
  malformed (vdp_home_dump_tileset m x) e w = rw w
  malformed (vdp_home_pixel m y x) e w = refl

  kept : (c : HomeCall) → makes home_face c ≡ false → Keeps home_face c b
  kept c e =
      split (well_formed b)
      (λ w.
      let s : HomeStands b (state_of b) = record { shape = state_shape b w bytes; is = sym (block_back b w bytes) } in
      by_device c w (calls c b (state_of b) s (λ m. clash (sym m ∙ e))))
      (λ w. unchanged c (malformed c e w))

  -- a new device
  new : (n : ℕ) → Makes home_face (vdp_home_new_table n) n b
  unfolding home_called new_table_call
  new n =
      let t = line_table_from n in
      let test : Bool = leb n 1 && eqb (length b) block_size in
      record {
        version = either (λ (c : Called). c.word ≡ 0 → length c.block ≡ length b) test
            (λ e _. length_block (made t) (made_shape t) ∙ sym (eqb-true (length b) block_size (both (leb n 1) (eqb (length b) block_size) e).1))
            (λ _ z. absurd (omega arith));
        table = either (λ (c : Called). c.word ≡ 0 → (state_of c.block).raster.table ≡ t) test
            (λ _ _. ap (λ (h : HomeState). h.raster.table) (state_back (made t) (made_shape t))) (λ _ z. absurd (omega arith));
        stays = either (λ (c : Called). (c.word ≡ 0 → ⊥) → c.block ≡ b) test (λ _ z. absurd (z refl)) (λ _ _. refl);
      }

  pub home_table_kept : HomeTableKept b
  home_table_kept = record { kept = kept; made = new }

-- ---- the lengths of the two are apart
pub apart : (b : List ℕ) → Apart b
apart b =
    record {
      not_home = λ w. other_length b (λ e. omega (arith, long b w));
      not_handheld = λ w. split (handheldFormed b) (λ v. absurd (omega (arith, long b v, (said b w).long))) (λ v. v);
    }
