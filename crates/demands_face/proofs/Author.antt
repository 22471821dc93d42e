-- The author's program through the C face, answered.
-- Assumes nothing.
use mathlib.Core.Path.{◌≡◌, refl, sym, ap, ◌∙◌}
use mathlib.Core.Logic.{◌≢◌}
use mathlib.Core.List.{List, ◌∷◌}
use Prim.Native.Nat.{ℕ, suc, ◌<◌}
use native.Mathlib.Omega.{arith}
use borrow.Author.Tests.{ne_eqb}
use Rattle.picture.specs.declared.RenderArea.TheVariants.{VisibleOnly}
use Rattle.raster.specs.declared.LineTable.{LineTable}
use Rattle.vdp.specs.declared.VdpState.{VdpState}
use Rattle.vdp.specs.Device.{made}
use Rattle.block.specs.Block.{state_of}
use Rattle.face.specs.Face.{out_call}
use Rattle.demands.specs.Handheld.{handheld}
use Rattle.passes.specs.Pass.{device_after}
use Rattle.demands.specs.Author.{recoloured, Asks, AsksNot, Answered, WhichBytes}
use Rattle.demands.proofs.Handheld.{handheld_lawful}
use Rattle.demands.proofs.Author.{answered, which_bytes}
use Rattle.demands_face.specs.Face.{Way, block_after, FaceRun, step_at, point, Goes, watched_by}
use Rattle.demands_face.specs.Calls.{called, face}
use Rattle.demands_face.specs.Author.{asked, unasked, AnsweredThrough}
use Rattle.demands_face.proofs.Stands.{Stands, made_stands, in_block, out_stands}
use Rattle.demands_face.proofs.Watched.{both_through}
use Rattle.demands_face.proofs.Reached.{reached}
use Rattle.demands_face.proofs.Handheld.{face_lawful}

-- the block after the four writes
abbrev outs : List ℕ → List ℕ → ℕ → ℕ → List ℕ
outs b m low high = (out_call (out_call (out_call (out_call b m 0xBF 0x06).block m 0xBF 0xC0).block m 0xBE low).block m 0xBE high).block

written :
    (b : List ℕ) (d : VdpState) → Stands b d → (m : List ℕ) (low high : ℕ) (l : low < 256) (h : high < 256) →
    state_of (outs b m low high) ≡ recoloured low high m (state_of b)
written b d s m low high l h =
    let one = out_stands s m 0xBF 0x06 (omega arith) in
    let two = out_stands one m 0xBF 0xC0 (omega arith) in
    let three = out_stands two m 0xBE low l in
    let four = out_stands three m 0xBE high h in
    in_block four ∙ ap (recoloured low high m) (sym (in_block s))

module _ (t : LineTable) (block : List ℕ) (way : ℕ → Way) (vram : ℕ → List ℕ) (frame : List ℕ) (low high : ℕ) (l : low < 256) (h : high < 256) where
  abbrev f : FaceRun face VisibleOnly
  f = asked t block way vram frame low high l h

  abbrev f₀ : FaceRun face VisibleOnly
  f₀ = unasked t block way vram frame low high l h

  module _ (g : Goes f) where
    fresh : state_of block ≡ made t
    fresh = in_block (made_stands t block g.made)

    on : (i : ℕ) → suc i ≢ 90 → (watched_by f).ready (suc i) ≡ ((watched_by f).answer i).device
    unfolding point block_after
    on i n = rw (ne_eqb (suc i) 90 n)

    writes : (watched_by f).ready 90 ≡ recoloured low high (vram 90) ((watched_by f).answer 89).device
    unfolding point block_after called
    writes =
        let r = reached handheld_lawful face_lawful t block g.made (step_at f 89 (point f 89) ∷ (point f 89).calls) in
        written (block_after face block (step_at f 89 (point f 89) ∷ (point f 89).calls)) (device_after handheld r.table r.calls) r.stands
        (vram 90) low high l h

    asks : Asks low high (watched_by f)
    unfolding point block_after
    asks = record { fresh = fresh; on = on; writes = writes }

    asks_not : AsksNot (watched_by f) (watched_by f₀)
    unfolding point block_after
    asks_not = record { table = refl; memory = λ i. refl; fresh = fresh; on = λ i. refl }

    pub answered_through : Goes f₀ → AnsweredThrough t block way vram frame low high l h
    answered_through g₀ =
        record {
          answered =
              both_through handheld_lawful face_lawful VisibleOnly (λ w w₀. Asks low high w → AsksNot w w₀ → Answered low high w w₀)
              (λ r r₀ q q₀. answered low high r q r₀ q₀) f f₀ g g₀
              asks asks_not;
          bytes =
              both_through handheld_lawful face_lawful VisibleOnly (λ w w₀. Asks low high w → AsksNot w w₀ → WhichBytes low high w w₀)
              (λ r r₀ q q₀. which_bytes low high r q r₀ q₀) f f₀ g
              g₀ asks asks_not;
        }
