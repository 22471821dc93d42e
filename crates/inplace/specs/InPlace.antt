-- What a port call in place promises, of the front of a device where it stands in a state block (crates/fields/specs/Stored.antt).
-- Assumes nothing.
use Rattle.refusal.specs.declared.Refusal.{Refusal}
use Rattle.refusal.specs.Refusals.{Outcome}
use Rattle.std.specs.Prelude.{ℕ, ◌≡◌, ◌⊎◌, List, false, Result}
use Rattle.front.specs.declared.FrontWritten.{FrontWritten}
use Rattle.front.specs.declared.Front.{Front}
use Rattle.front.specs.declared.ReadBack.{ReadBack}
use Rattle.inplace.specs.declared.Sent.{Sent}
use Rattle.fields.specs.Stored.{front_stored}

-- the bytes of a palette: the home machine's, or the handheld's
abbrev pub PaletteSize : ℕ → Type 0
PaletteSize n = (n ≡ 32) ⊎ (n ≡ 64)

-- ---- the answer of a write that asks no palette
abbrev pub answered : Outcome → Sent
answered r = record { outcome = r; palette = false }

-- ---- what a call in place promises, where the record's call answers a: the same answer, and the block with what that leaves of the front
pub record SentInPlace (b : List ℕ) (a : FrontWritten) (r : Sent) (b' : List ℕ) : Type 0 where
  pub outcome : r.outcome ≡ a.outcome
  pub palette : r.palette ≡ a.palette
  pub block : b' ≡ front_stored a.front b

pub record GotInPlace (b : List ℕ) (a : ReadBack Front) (r : Result ℕ Refusal) (b' : List ℕ) : Type 0 where
  pub byte : r ≡ a.byte
  pub block : b' ≡ front_stored a.device b
