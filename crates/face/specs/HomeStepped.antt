-- R7.1, R7.2, R15.3, R21.1: what a step on the home machine's block leaves, wherever its row goes, with layers or without.
-- Assumes nothing.
use Rattle.std.specs.Prelude.{◌≡◌, Bool, cond, List, ℕ, length}
use Rattle.picture.specs.declared.Screen.TheVariants.{Home}
use Rattle.refusal.specs.Refusals.{Line, under}
use Rattle.points.specs.Bytes.{layers_under}
use Rattle.word.specs.Called.{Called, Leaves}
use Rattle.home.specs.declared.HomeState.{HomeState}
use Rattle.home.specs.Step.{reading_of, step_with}
use Rattle.home_block.specs.HomeBlock.{state_of, well_formed}
use Rattle.face.specs.declared.target.Target.{Target}
use Rattle.face.specs.Target.{target_lines, target_filled}
use Rattle.face.specs.Home.{on_block, stepped_to}

-- the lines that it can meet, with pixels x and this layer buffer
abbrev pub lines_of : Target → Bool → List ℕ → List ℕ → List ℕ → List Line
lines_of t told m x layers = target_lines t told m (length x) (length layers) Home

-- what it answers, and what it leaves of block and pixels
abbrev pub target_on : Target → Bool → List ℕ → List ℕ → List ℕ → HomeState → Called
target_on t told m x layers h =
    stepped_to (step_with (lines_of t told m x layers) m h)
    (under (lines_of t told m x layers) (λ r. x) (target_filled t Home m (reading_of h) x))

abbrev pub target_call : Target → Bool → List ℕ → List ℕ → List ℕ → List ℕ → Called
target_call t told b m x layers = on_block b x (target_on t told m x layers)

-- and of the layer buffer
abbrev pub target_layers : Target → Bool → List ℕ → List ℕ → List ℕ → List ℕ → List ℕ
target_layers t told b m x layers =
    cond (well_formed b) (layers_under (lines_of t told m x layers) Home m (reading_of (state_of b)) layers) layers

pub record TargetLeaves (t : Target) (told : Bool) (b m x layers : List ℕ) (r : ℕ) (b' x' layers' : List ℕ) : Type 0 where
  pub call : Leaves (target_call t told b m x layers) r b' x'
  pub owners : layers' ≡ target_layers t told b m x layers
