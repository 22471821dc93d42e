-- The home machine's C face is lawful, and what the demands say of it: by the same statements as of the handheld's.
-- Assumes nothing.
use Rattle.std.specs.Prelude.{Ok}
use mathlib.Core.Path.{◌≡◌, refl, sym, ap, ◌∙◌}
use mathlib.Core.List.{List}
use Prim.Native.Nat.{ℕ, ◌<◌}
use native.Mathlib.Omega.{arith}
use lib.ListN.{length}
use Rattle.picture.specs.declared.Screen.TheVariants.{Home}
use Rattle.picture.specs.Screen.{columns}
use Rattle.raster.specs.declared.LineTable.{LineTable}
use Rattle.refusal.specs.Refusals.{refusal_number, Line}
use Rattle.points.specs.Points.{frame_lines}
use Rattle.points.specs.Bytes.{frame_filled}
use Rattle.points.proofs.Laws.{frame_refusing}
use Rattle.points.proofs.Order.{under_also}
use Rattle.word.specs.Word.{refusal_in}
use Rattle.home.specs.declared.HomeState.{HomeState}
use Rattle.points.specs.declared.Stepped.{Stepped}
use Rattle.home.specs.Step.{reading_of, refused_step, stepped, step_with, frame_step_of, frame_after}
use Rattle.home.proofs.Laws.{step_exact, frame_taken}
use Rattle.home_block.specs.HomeBlock.{block_of}
use Rattle.face.specs.Home.{stepped_to, step_on}
use Rattle.face.specs.HomeLayers.{layer_lines, layer_on}
use Rattle.demands.specs.Home.{home}
use Rattle.passes.specs.Pass.{Demand3, pass}
use Rattle.passes.specs.Chart.{InOrder}
use Rattle.passes.specs.Split.{Split, ColourSplit, OnlyColour, Twins, Changed}
use Rattle.passes.proofs.Chart.{in_order}
use Rattle.demands.proofs.Home.{home_lawful, demand3_home, colour_split-home, changed_home}
use Rattle.demands_face.specs.Face.{Way, plain, with_layers, FaceRun, Goes, watched_by, Through}
use Rattle.demands_face.specs.HomeCalls.{HomeCall, home_called, MadeHomeBlock, on_home_frame, home_face}
use Rattle.demands_face.specs.Seven.{FaceNeverSeven}
use Rattle.demands_face.proofs.Lawful.{Steps, LawfulFace}
use Rattle.demands_face.proofs.Watched.{through_face, both_through}
use Rattle.demands_face.proofs.Words.{accepted_0, by_step, layers_fit}
use Rattle.demands_face.proofs.Reached.{never_seven}
use Rattle.demands_face.proofs.HomeStands.{accepts, HomeStands, made_stands, in_block, step_is, layer_is, step_stands, step_byte, calls, quietly, begun}
use Rattle.demands_face.proofs.HomeAnswers.{answers}

module _ (a : Unit {0}) (m x b : List ℕ) (h : HomeState) (s : HomeStands b h) where
  abbrev lines : List Line
  lines = frame_lines Home m (length x)

  abbrev step : Stepped HomeState
  step = frame_step_of m (length x) h

  on_step : (w : Way) → home_called (on_home_frame w m x) b ≡ stepped_to step (frame_after m h x) → step.outcome ≡ (Ok tt) → Steps home_face HomeStands a
      w m x b h
  on_step w e ok =
      let left : HomeStands (block_of step.device) step.device = step_stands s lines m (frame_after m h x) {c = stepped_to step (frame_after m h x)} refl in
      by_step home_lawful home_face HomeStands a (omega arith) w m x b (block_of step.device) h e left (in_block left)
      (λ h'. accepts lines m h' (frame_taken m (length x) h ok))

  plain_is : home_called (on_home_frame plain m x) b ≡ step_on m x h
  unfolding home_called
  plain_is = step_is s m x

  plain_steps : refusal_in (home_called (on_home_frame plain m x) b).word ≡ 0 → Steps home_face HomeStands a plain m x b h
  plain_steps z = on_step plain plain_is (accepted_0 step.outcome (sym (step_byte s lines m (frame_after m h x) plain_is) ∙ z))

  takes : step.outcome ≡ (Ok tt) → refusal_in (home_called (on_home_frame plain m x) b).word ≡ 0
  takes ok = step_byte s lines m (frame_after m h x) plain_is ∙ ap refusal_number ok

  -- with room for the layers it is the step without
  module _ (layers : List ℕ) where
    abbrev also : List Line
    also = layer_lines lines layers

    layer_is_on : home_called (on_home_frame (with_layers layers) m x) b ≡ layer_on lines (λ k. frame_filled Home m (reading_of k) x) m x layers h
    unfolding home_called
    layer_is_on = layer_is s lines (λ k. frame_filled Home m (reading_of k) x) m x layers

    layer_steps : refusal_in (home_called (on_home_frame (with_layers layers) m x) b).word ≡ 0 → Steps home_face HomeStands a (with_layers layers) m x b h
    unfolding step_with frame_after
    layer_steps z =
        let ok : (step_with also m h).outcome ≡ (Ok tt) = accepted_0 (step_with also m h).outcome (sym (step_byte s also m _ layer_is_on) ∙ z) in
        let fit = layers_fit (columns Home) (length layers) lines (frame_refusing Home m (length x)) (sym (step_exact also m h) ∙ ok) in
        let answer : step_with also m h ≡ step = under_also (columns Home) (length layers) lines (λ r. refused_step r h) (stepped m h) fit in
        let pixels = under_also (columns Home) (length layers) lines (λ r. x) (frame_filled Home m (reading_of h) x) fit in
        on_step (with_layers layers) (layer_is_on ∙ (λ j. stepped_to (answer j) (pixels j))) (sym (ap (λ (t : Stepped HomeState). t.outcome) answer) ∙ ok)

steps :
    (a : Unit {0}) (w : Way) (m x b : List ℕ) (h : HomeState) → HomeStands b h → refusal_in (home_called (on_home_frame w m x) b).word ≡ 0 →
    Steps home_face HomeStands a w m x b h
steps a plain m x b h s z = plain_steps a m x b h s z
steps a (with_layers layers) m x b h s z = layer_steps a m x b h s layers z

pub home_face_lawful : LawfulFace home_face
home_face_lawful =
    record {
      Stands = HomeStands;
      made_stands = made_stands;
      in_block = in_block;
      calls = λ c b h k s q. calls c b h s q;
      quietly = λ c b h k s q. quietly c b h s q;
      steps = steps;
      takes = takes;
      begun = begun;
      no_seven = answers;
    }

-- ---- what the demands say of it: all that they say of every run on records
pub through_home : Through home_face tt
through_home = through_face home_lawful home_face_lawful tt

pub demand3_home_face : (f : FaceRun home_face tt) → Goes f → Demand3 (watched_by f)
demand3_home_face = through_home Demand3 demand3_home

-- the author's question, and which rows a write reaches, in any pass
pub colour_split-home_face : (f : FaceRun home_face tt) → Goes f → (L : ℕ) (old new : List ℕ) (s : Split (watched_by f) L old new) → ColourSplit s
colour_split-home_face = through_home (λ w. (L : ℕ) (old new : List ℕ) (s : Split w L old new) → ColourSplit s) (λ r L old new s. colour_split-home r s)

pub in_order_home_face : (f : FaceRun home_face tt) → Goes f → InOrder (watched_by f)
in_order_home_face = through_home InOrder (in_order home_lawful)

-- with the change and without it: the pixels that change
pub changed_home_face :
    (f f₀ : FaceRun home_face tt) → Goes f → Goes f₀ → (L : ℕ) (old new : List ℕ) → Twins (watched_by f) (watched_by f₀) →
    (s : Split (watched_by f) L old new) → ((i : ℕ) → i < pass (watched_by f) → ((watched_by f₀).ready i).cram ≡ old) →
    (c : ℕ) → OnlyColour home c old new → Changed s (watched_by f₀) c
changed_home_face =
    both_through home_lawful home_face_lawful tt
    (λ w w₀.
    (L : ℕ) (old new : List ℕ) → Twins w w₀ → (s : Split w L old new) → ((i : ℕ) → i < pass w → (w₀.ready i).cram ≡ old) →
    (c : ℕ) → OnlyColour home c old new → Changed s w₀ c)
    (λ r r₀ L old new t s kept c only. changed_home r r₀ t s kept c only)

-- 7 never comes
pub face_never_seven_home : (t : LineTable) (b : List ℕ) → MadeHomeBlock t b → (h : List HomeCall) → FaceNeverSeven home_face b h
face_never_seven_home = never_seven home_lawful home_face_lawful
