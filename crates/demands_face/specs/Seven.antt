-- R13.8, R21.1, through the C face of either machine: after any calls on a block that one of them has made, or that was repaired, no call answers 7.
-- Assumes nothing.
use Rattle.std.specs.Prelude.{◌≡◌, ◌≢◌, true, List, ℕ, ◌<◌, length}
use Rattle.laws.specs.Lists.{at}
use Rattle.raster.specs.declared.LineTable.{LineTable}
use Rattle.word.specs.Word.{refusal_in}
use Rattle.block.specs.Block.{sized}
use Rattle.block_repair.specs.Repair.{mended}
use Rattle.passes.specs.Machine.{Machine}
use Rattle.passes.specs.Pass.{History, device_after}
use Rattle.demands_face.specs.Face.{Face, block_after}
use Rattle.demands_face.specs.Calls.{FaceCall, face}
use Rattle.demands_face.specs.HomeCalls.{HomeCall, home_called}

module _ {M : Machine} (F : Face M) where
  -- After any calls `h` on block b, whatever is called next does not answer 7 in bits 0 to 7.
  abbrev pub NoSeven : (b : List ℕ) → List F.Call → Type 0
  NoSeven b h = (c : F.Call) → refusal_in (F.called c (block_after F b h)).word ≢ 7

  -- After any calls `h` on a block b that a call has made:
  pub record FaceNeverSeven (b : List ℕ) (h : List F.Call) : Type 0 where
    pub no_seven : NoSeven b h
    -- the device in the block is one that was made fresh, after calls on it: all that `NeverSeven` says holds of it
    pub table : LineTable
    pub calls : History M
    pub device : F.device (block_after F b h) ≡ device_after M table calls

-- R17.6: after any calls `h` on a block of the handheld's that was repaired, of whatever bytes
abbrev pub RepairedAnswers : Type 0
RepairedAnswers = (b : List ℕ) → sized (length b) ≡ true → ((i : ℕ) → at b i < 256) → (h : List FaceCall) → NoSeven face (mended b) h

-- R20.3: no call on a home block, of whatever bytes, answers 6
abbrev pub HomeNeverSix : Type 0
HomeNeverSix = (c : HomeCall) (b : List ℕ) → refusal_in (home_called c b).word ≢ 6
