-- R13.7, the author's program through the C face: which bytes of the caller's frame change.
-- Assumes nothing.
use Rattle.std.specs.Prelude.{cond, List, [], ◌∷◌, ℕ, ◌<◌, eqb}
use Rattle.std.proofs.Common.{arith}
use Rattle.picture.specs.declared.RenderArea.TheVariants.{VisibleOnly}
use Rattle.raster.specs.declared.LineTable.{LineTable}
use Rattle.demands.specs.Author.{Answered, WhichBytes}
use Rattle.demands_face.specs.Face.{Way, FaceRun, watched_by}
use Rattle.demands_face.specs.Calls.{FaceCall, vdp_out, face}

-- BF 06, BF C0, and the two bytes of colour 3, by `vdp_out`; the last one first
abbrev pub recolour : (low high : ℕ) → low < 256 → high < 256 → (vram : List ℕ) → List FaceCall
recolour low high l h m = vdp_out m 0xBE high h ∷ vdp_out m 0xBE low l ∷ vdp_out m 0xBF 0xC0 (omega arith) ∷ vdp_out m 0xBF 0x06 (omega arith) ∷ []

-- A block as the call left it that made it, with table t; steps on one frame, each by `vdp_step` or by `vdp_layer_step`; and with step 89, which sets line 90,
-- behind it, the four writes.
module _ (t : LineTable) (block : List ℕ) (way : ℕ → Way) (vram : ℕ → List ℕ) (frame : List ℕ) (low high : ℕ) (l : low < 256) (h : high < 256) where
  abbrev pub asked : FaceRun face VisibleOnly
  asked =
      record {
        table = t;
        block = block;
        before = [];
        between = λ i. cond (eqb i 90) (recolour low high l h (vram i)) [];
        way = way;
        vram = vram;
        frame = frame;
      }

  -- the same without the writes
  abbrev pub unasked : FaceRun face VisibleOnly
  unasked = record { table = t; block = block; before = []; between = λ i. []; way = way; vram = vram; frame = frame }

  pub record AnsweredThrough : Type 0 where
    pub answered : Answered low high (watched_by asked) (watched_by unasked)
    pub bytes : WhichBytes low high (watched_by asked) (watched_by unasked)
