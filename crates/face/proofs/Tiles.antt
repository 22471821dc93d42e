-- The two calls on tiles: what they promise of what the crate `tiles` does, when each is refused, and what is then left.
-- Assumes nothing.
use mathlib.Core.Path.{◌≡◌, refl, sym, ap, ◌∙◌}
use mathlib.Core.Logic.{◌≢◌}
use mathlib.Core.Bool.{◌&&◌}
use mathlib.Core.List.{List, []}
use Prim.Native.Nat.{ℕ}
use native.Mathlib.Omega.{arith}
use borrow.Author.Tests.{ne_eqb}
use lib.Dec.{leb}
use lib.ListN.{length}
use Rattle.laws.proofs.Tests.{same_cond}
use Rattle.refusal.specs.Refusals.{refusal_number, first, Outcome}
use Rattle.tile_codes.specs.Calls.{read_tile_lines, write_tile_lines, read_tile_refusal, write_tile_refusal, unless, tile_written, tile_read, WriteLeaves}
use Rattle.tile_codes.specs.Calls.{ReadLeaves}
use Rattle.face.specs.Face.{Leaves}
use Rattle.face.specs.Refused.{refusal_in, LeftBehind}
use Rattle.face.specs.Tiles.{write_tile_call, read_tile_call}
use Rattle.word.proofs.Words.{number_low, alone}

-- what a call promises: the number of the answer, and what the buffer holds
pub wrote_tile :
    (m : List ℕ) (n : ℕ) (codes : List ℕ) {r : Outcome} {w : ℕ} {m' : List ℕ} → WriteLeaves m n codes r m' → w ≡ refusal_number r
    → Leaves (write_tile_call m n codes) w [] m'
unfolding write_tile_call
wrote_tile m n codes l e = record { word = e ∙ ap refusal_number l.outcome; block = refl; lent = l.memory }

pub read_tile :
    (m : List ℕ) (n : ℕ) (codes : List ℕ) {r : Outcome} {w : ℕ} {codes' : List ℕ} → ReadLeaves m n codes r codes' → w ≡ refusal_number r
    → Leaves (read_tile_call m n codes) w [] codes'
unfolding read_tile_call
read_tile m n codes l e = record { word = e ∙ ap refusal_number l.outcome; block = refl; lent = l.buffer }

-- refused by the first line of its table that holds: "checked after 8 in that order"
pub write_tile_exact : (m : List ℕ) (n : ℕ) (codes : List ℕ) → refusal_in (write_tile_call m n codes).word ≡ refusal_number
    (first (write_tile_lines m n codes))
unfolding write_tile_call write_tile_refusal
write_tile_exact m n codes = alone (first (write_tile_lines m n codes))

pub read_tile_exact : (m : List ℕ) (n : ℕ) (codes : List ℕ) → refusal_in (read_tile_call m n codes).word ≡ refusal_number
    (first (read_tile_lines m n (length codes)))
unfolding read_tile_call read_tile_refusal
read_tile_exact m n codes = alone (first (read_tile_lines m n (length codes)))

-- "all unchanged"
refused : (r : Outcome) (before after : List ℕ) → LeftBehind [] before (record { word = refusal_number r; block = []; lent = unless r before after })
refused r before after =
    record {
      word = λ _. omega (arith, number_low r);
      block = λ _. let k = refusal_in (refusal_number r) in sym (same_cond (leb 3 k && leb k 7) []);
      lent = λ h. let z : refusal_number r ≢ 0 = λ e. h (alone r ∙ e) in rw (ne_eqb (refusal_number r) 0 z);
    }

pub write_tile_behind : (m : List ℕ) (n : ℕ) (codes : List ℕ) → LeftBehind [] m (write_tile_call m n codes)
unfolding write_tile_call tile_written
write_tile_behind m n codes = refused (write_tile_refusal m n codes) m _

pub read_tile_behind : (m : List ℕ) (n : ℕ) (codes : List ℕ) → LeftBehind [] codes (read_tile_call m n codes)
unfolding read_tile_call tile_read
read_tile_behind m n codes = refused (read_tile_refusal m n (length codes)) codes _
