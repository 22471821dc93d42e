-- Such runs there are, of either machine: of any block that a call has made, with whole video memory at each step, on a frame of its size, each step is
-- accepted.
-- Assumes nothing.
use Rattle.std.specs.Prelude.{Ok}
use mathlib.Core.Path.{◌≡◌, refl, sym, ap, ◌∙◌, subst}
use mathlib.Core.List.{List, []}
use Prim.Native.Nat.{ℕ, zero, suc}
use lib.ListN.{length}
use Rattle.picture.specs.declared.RenderArea.{RenderArea}
use Rattle.picture.specs.declared.Screen.TheVariants.{Home}
use Rattle.picture.specs.Screen.{frame_size}
use Rattle.picture.specs.Area.{screen_of}
use Rattle.raster.specs.declared.LineTable.{LineTable}
use Rattle.points.specs.Points.{frame_lines as lines_of}
use Rattle.points.proofs.Laws.{frame_passes}
use Rattle.step.specs.Step.{frame_lines}
use Rattle.word.specs.Word.{refusal_in}
use Rattle.passes.specs.Machine.{Machine}
use Rattle.passes.specs.Pass.{device_after}
use Rattle.passes.proofs.Lawful.{Lawful}
use Rattle.demands.proofs.Steps.{accepts}
use Rattle.demands.proofs.Handheld.{handheld_lawful}
use Rattle.demands.proofs.Home.{home_lawful}
use Rattle.demands_face.specs.Face.{plain, Face, block_after, RefusedOf, FaceRun, stepped_at, point, Goes}
use Rattle.demands_face.specs.Calls.{MadeBlock, face}
use Rattle.demands_face.specs.HomeCalls.{MadeHomeBlock, home_face}
use Rattle.demands_face.proofs.Lawful.{LawfulFace}
use Rattle.demands_face.proofs.Reached.{Reached, reached}
use Rattle.demands_face.proofs.Handheld.{face_lawful}
use Rattle.demands_face.proofs.HomeStands.{accepts as accepts-home}
use Rattle.demands_face.proofs.Home.{home_face_lawful}

abbrev pub steps_alone : {M : Machine} (F : Face M) (a : M.Area) → LineTable → List ℕ → (ℕ → List ℕ) → List ℕ → FaceRun F a
steps_alone F a t block vram frame =
    record { table = t; block = block; before = []; between = λ i. []; way = λ i. plain; vram = vram; frame = frame }

module _ {M : Machine} (ok : Lawful M) {F : Face M} (law : LawfulFace F) (a : M.Area) (t : LineTable) (block : List ℕ) (made : F.Made t block)
    (vram : ℕ → List ℕ) (frame : List ℕ) (taken : (i : ℕ) (d : M.Device) → (M.frame_step_of a (vram i) (length frame) d).outcome ≡ (Ok tt)) where
  abbrev run : FaceRun F a
  run = steps_alone F a t block vram frame

  at : (i : ℕ) → Reached ok law (block_after F block (point run i).calls)
  at i = reached ok law t block made (point run i).calls

  abbrev device : ℕ → M.Device
  device i = device_after M (at i).table (at i).calls

  accepted_by : (i : ℕ) → length (point run i).frame ≡ length frame → refusal_in (stepped_at run i (point run i)).word ≡ 0
  accepted_by i e =
      law.takes a (vram i) (point run i).frame (block_after F block (point run i).calls) (device i) (at i).stands
      (subst (λ (n : ℕ). (M.frame_step_of a (vram i) n (device i)).outcome ≡ (Ok tt)) (sym e) (taken i (device i)))

  size : (i : ℕ) → length (point run i).frame ≡ length frame
  unfolding point
  size zero = refl
  size (suc i) =
      let x = (point run i).frame in
      ap length (law.steps a plain (vram i) x (block_after F block (point run i).calls) (device i) (at i).stands (accepted_by i (size i))).lent
      ∙ ok.frame_length a (vram i) (device i) x
      ∙ size i

  go_alone : Goes run
  unfolding RefusedOf
  go_alone = record { made = made; one_device = tt; quiet = λ i. tt; accepted = λ i. accepted_by i (size i) }

-- the handheld's, of any area
pub they_go :
    (a : RenderArea) (t : LineTable) (block : List ℕ) → MadeBlock t block → (vram : ℕ → List ℕ) → ((i : ℕ) → length (vram i) ≡ 16384) →
    (frame : List ℕ) → length frame ≡ frame_size (screen_of a) → Goes (steps_alone face a t block vram frame)
they_go a t block made vram whole frame size =
    go_alone handheld_lawful face_lawful a t block made vram frame
    (λ i d. accepts (frame_lines a (vram i) (length frame)) a (vram i) d (frame_passes (screen_of a) (vram i) (length frame) (whole i) size))

-- the home machine's
pub they_go_home :
    (t : LineTable) (block : List ℕ) → MadeHomeBlock t block → (vram : ℕ → List ℕ) → ((i : ℕ) → length (vram i) ≡ 16384) →
    (frame : List ℕ) → length frame ≡ frame_size Home → Goes (steps_alone home_face tt t block vram frame)
they_go_home t block made vram whole frame size =
    go_alone home_lawful home_face_lawful tt t block made vram frame
    (λ i d. accepts-home (lines_of Home (vram i) (length frame)) (vram i) d (frame_passes Home (vram i) (length frame) (whole i) size))
