-- R7.1, R7.2, R15.3: what a step on the handheld's block leaves, wherever its row goes, with layers or without.
-- Assumes nothing.
use Rattle.std.specs.Prelude.{◌≡◌, Bool, cond, List, ℕ, leb, length}
use Rattle.picture.specs.declared.RenderArea.{RenderArea}
use Rattle.picture.specs.Area.{area_from, screen_of}
use Rattle.vdp.specs.declared.VdpState.{VdpState}
use Rattle.refusal.specs.Refusals.{Line, under}
use Rattle.points.specs.Bytes.{layers_under}
use Rattle.block.specs.Block.{well_formed, state_of}
use Rattle.step.specs.Step.{reading_of, step_with}
use Rattle.face.specs.declared.target.Target.{Target}
use Rattle.face.specs.Target.{target_lines, target_filled}
use Rattle.face.specs.Face.{Called, on_block, on_area, stepped_to, Leaves}

-- the lines that it can meet, with pixels x and this layer buffer
abbrev pub lines_of : Target → Bool → List ℕ → List ℕ → List ℕ → RenderArea → List Line
lines_of t told m x layers a = target_lines t told m (length x) (length layers) (screen_of a)

-- what it answers, and what it leaves of block and pixels
abbrev pub target_on : Target → Bool → List ℕ → List ℕ → List ℕ → ℕ → VdpState → RenderArea → Called
target_on t told m x layers k s a =
    stepped_to k (step_with (lines_of t told m x layers a) a m s)
    (under (lines_of t told m x layers a) (λ r. x) (target_filled t (screen_of a) m (reading_of s) x))

abbrev pub target_call : Target → Bool → List ℕ → List ℕ → List ℕ → List ℕ → ℕ → Called
target_call t told b m x layers n = on_block b x (λ s. on_area n b x (target_on t told m x layers (length b) s))

-- and of the layer buffer
abbrev pub target_layers : Target → Bool → List ℕ → List ℕ → List ℕ → List ℕ → ℕ → List ℕ
target_layers t told b m x layers n =
    cond (well_formed b)
    (cond (leb n 2)
    (layers_under (lines_of t told m x layers (area_from n)) (screen_of (area_from n)) m (reading_of (state_of b)) layers)
    layers)
    layers

pub record TargetLeaves (t : Target) (told : Bool) (b m x layers : List ℕ) (n r : ℕ) (b' x' layers' : List ℕ) : Type 0 where
  pub call : Leaves (target_call t told b m x layers n) r b' x'
  pub owners : layers' ≡ target_layers t told b m x layers n
