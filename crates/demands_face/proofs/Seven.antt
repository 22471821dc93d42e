-- Refusal 7 never comes through the handheld's C face: of a block that a call has made, and of one that was repaired, which stands for its own device.
-- Assumes nothing.
use mathlib.Core.Path.{◌≡◌, sym, ◌∙◌}
use mathlib.Core.Bool.{true, not, ◌&&◌, ◌||◌}
use mathlib.Core.List.{List}
use Prim.Native.Nat.{ℕ, ◌+◌, ◌*◌, ◌/◌, ◌≤◌, ◌<◌}
use native.Mathlib.Omega.{arith}
use native.Mathlib.Nat.{mod-lt}
use lib.Dec.{eqb, leb, ltb}
use lib.ListN.{length, get_or-eq_default}
use lib.Seq.{ext_get_or}
use borrow.Author.Tests.{ltb-true, ltb-false, eqb-true, not-true, not-false}
use Rattle.laws.specs.Lists.{at}
use Rattle.laws.specs.Bits.{any}
use Rattle.laws.proofs.Any.{any_false}
use Rattle.laws.proofs.Tests.{either, split, both}
use Rattle.colour.specs.Colour.{colours_of}
use Rattle.colour.proofs.Laws.{length_colours}
use Rattle.raster.specs.declared.LineTable.{LineTable}
use Rattle.vdp.specs.declared.VdpState.{VdpState}
use Rattle.vdp.specs.Refusals.{size}
use Rattle.block.specs.Block.{sized, mark_of, well_formed, state_of}
use Rattle.fields.specs.Fields.{chosen_from}
use Rattle.block.proofs.Whole.{fits_own, length_of}
use Rattle.block.proofs.RoundTrip.{block_back}
use Rattle.block.proofs.Shapes.{state_shape}
use Rattle.block_repair.specs.Repair.{within, held, choice, address, dirty, matching, mended_at, mended}
use Rattle.block_repair.proofs.Laws.{length-mended, at_mended}
use Rattle.block_repair.proofs.Salvaged.{sound as mended-sound}
use Rattle.demands.proofs.Handheld.{handheld_lawful}
use Rattle.demands_face.specs.Calls.{FaceCall, MadeBlock, face}
use Rattle.demands_face.specs.Seven.{FaceNeverSeven, RepairedAnswers}
use Rattle.demands_face.proofs.Stands.{size_top, size_positive}
use Rattle.demands_face.proofs.Reached.{never_seven, Good, good_answers}
use Rattle.demands_face.proofs.Handheld.{face_lawful}

pub face_never_seven : (t : LineTable) (b : List ℕ) → MadeBlock t b → (h : List FaceCall) → FaceNeverSeven face b h
face_never_seven = never_seven handheld_lawful face_lawful

module _ (b : List ℕ) (s : sized (length b) ≡ true) (bytes : (i : ℕ) → at b i < 256) where
  abbrev Byte : ℕ → Type 0
  Byte x = x < 256

  within_byte : (h i : ℕ) → Byte (within h (at b i))
  within_byte h i = either Byte (leb (at b i) h) (λ _. bytes i) (λ _. omega arith)

  held_byte_lem : (flag i : ℕ) → Byte (held flag (at b i))
  held_byte_lem flag i = either Byte (eqb flag 0) (λ _. omega arith) (λ _. bytes i)

  dirty_byte : Byte (dirty b)
  unfolding dirty
  dirty_byte = either Byte (eqb (within 1 (at b 26)) 0 && not (matching b)) (λ _. omega arith) (λ _. within_byte 1 26)

  mark_byte : Byte (mark_of (length b))
  mark_byte = either Byte (eqb (length b) 219) (λ _. omega arith) (λ _. omega arith)

  address_byte : Byte (address b / 256)
  unfolding address
  address_byte =
      let h = mod-lt (at b 17 + 256 * at b 18) (size_positive (chosen_from (choice b))) in
      omega (arith, h, size_top (chosen_from (choice b)))

  mended_byte : (k : ℕ) → Byte (mended_at b k)
  unfolding mended_at
  mended_byte k =
      either Byte (eqb k 0) (λ _. omega arith)
      (λ _. either Byte (eqb k 1) (λ _. mark_byte)
      (λ _. either Byte (eqb k 15) (λ _. within_byte 1 15)
      (λ _. either Byte (eqb k 17) (λ _. omega arith)
      (λ _. either Byte (eqb k 18) (λ _. address_byte)
      (λ _. either Byte (eqb k 20) (λ _. within_byte 2 20)
      (λ _. either Byte (eqb k 21) (λ _. within_byte 1 21)
      (λ _. either Byte (eqb k 22) (λ _. held_byte_lem (within 1 (at b 21)) 22)
      (λ _. either Byte (eqb k 23) (λ _. within_byte 1 23)
      (λ _. either Byte (eqb k 24) (λ _. held_byte_lem (within 1 (at b 23)) 24)
      (λ _. either Byte (eqb k 26) (λ _. dirty_byte)
      (λ _. either Byte (eqb k 219) (λ _. within_byte 1 219) (λ _. bytes k))))))))))))

  all_bytes_lem : (k : ℕ) → Byte (at (mended b) k)
  all_bytes_lem k =
      split (ltb k (length b))
      (λ t. rw (at_mended b k (ltb-true k (length b) t)) (mended_byte k))
      (λ t.
      let past : length (mended b) ≤ k = rw (length-mended b) (ltb-false k (length b) t) in
      rw (get_or-eq_default (mended b) 0 past) (omega arith))

  abbrev d : VdpState
  d = state_of (mended b)

  wrong_in_nothing : (well_formed (mended b) ≡ true) × (ltb d.addr (size d.dest) ≡ true) × ((d.cram_dirty || matching (mended b)) ≡ true)
  wrong_in_nothing =
      let w = both (well_formed (mended b) && ltb d.addr (size d.dest)) (d.cram_dirty || matching (mended b)) (mended-sound b s) in
      let v = both (well_formed (mended b)) (ltb d.addr (size d.dest)) w.0 in
      (v.0, v.1, w.1)

  colours_match : matching (mended b) ≡ true → d.color_cache ≡ colours_of d.cram
  unfolding matching
  colours_match m =
      let n = not-true (any 32 (λ i. not (eqb (at d.color_cache i) (at (colours_of d.cram) i)))) m in
      ext_get_or 0 d.color_cache (colours_of d.cram) (length_cache ∙ sym (length_colours d.cram))
      (λ i h.
      eqb-true (at d.color_cache i) (at (colours_of d.cram) i)
      (not-false (eqb (at d.color_cache i) (at (colours_of d.cram) i))
      (any_false 32 (λ i. not (eqb (at d.color_cache i) (at (colours_of d.cram) i))) n i (omega (arith, h, length_cache)))))
    where
      length_cache : length d.color_cache ≡ 32
      length_cache = (state_shape (mended b) wrong_in_nothing.0 all_bytes_lem).cache

  repaired_good : Good handheld_lawful face_lawful (mended b)
  repaired_good =
      let w = wrong_in_nothing in
      record {
        device = d;
        stands =
            record {
              room = length (mended b);
              fitting = fits_own (mended b) (length_of (mended b) w.0);
              shape = state_shape (mended b) w.0 all_bytes_lem;
              is = sym (block_back (mended b) w.0 all_bytes_lem);
            };
        right =
            record {
              clean = λ e. colours_match (rw e at w.2);
              aimed = ltb-true d.addr (size d.dest) w.1;
            };
      }

pub repaired_answers : RepairedAnswers
repaired_answers b s bytes = good_answers handheld_lawful face_lawful (mended b) (repaired_good b s bytes)
