-- A step of either machine, from what its parts give: the registers, the raster and the status that are read, what is due, the colours, and the points.
-- Assumes nothing.
use Rattle.std.specs.Prelude.{None, Option, Some}
use Rattle.std.proofs.lemmas.Option.{none-some}
use mathlib.Core.Path.{◌≡◌, sym, ◌∙◌}
use mathlib.Core.Bool.{Bool, true, false}
use mathlib.Core.List.{List}
use Prim.Native.Nat.{ℕ}
use Rattle.picture.specs.declared.Screen.{Screen}
use Rattle.picture.specs.Picture.{Row}
use Rattle.picture.specs.Screen.{columns}
use Rattle.raster.specs.declared.Raster.{Raster}
use Rattle.refusal.specs.Refusals.{Line, under}
use Rattle.points.specs.declared.Due.{Due}
use Rattle.points.specs.declared.Points.{Points}
use Rattle.points.specs.Points.{Reading, bits_of, points_with}
use Rattle.points.specs.Bytes.{row_with, frame_with, layers_by, row_filled, frame_filled, layers_under}
use Rattle.points.specs.Due.{due_of, Fits, due_picture, due_layers, points_by}
use Rattle.row.proofs.Steps.{due_row, answered, owned, row_filled_lem, frame-filled, row_due_fits, frame_due_fits, row_layers_fit, frame-layers_fit}
use Rattle.face.specs.declared.target.Target.{Target}
use Rattle.face.specs.declared.target.Target.TheVariants as to
use Rattle.face.specs.Target.{target_lines, need, drawn, target_filled}

-- a row that is due can be drawn where it goes, with its layers or without
pub target_fits :
    (t : Target) (told : Bool) (z : Screen) (reg : List ℕ) (raster : Raster) (m : List ℕ) (size layers : ℕ) {d : Due}
    → d ≡ due_of (target_lines t told m size layers z) z reg raster → Fits z m (need t z) size d.row
target_fits to.Frame false z reg raster m size layers e = frame_due_fits z reg raster m size e
target_fits to.Frame true z reg raster m size layers e = frame-layers_fit z reg raster m size (columns z) layers e
target_fits to.Row false z reg raster m size layers e = row_due_fits z reg raster m size e
target_fits to.Row true z reg raster m size layers e = row_layers_fit z reg raster m size (columns z) layers e

-- where no row is drawn, no status bit is set, and pixels and layers stay
module _ {r : Option ℕ} (e : r ≡ None) (s : Screen) where
  pub not_due : {A : Type 0} (y : ℕ) → r ≡ Some y → A
  not_due y h = absurd (none-some y (sym e ∙ h))

  pub undrawn_bits : (picture : ℕ → Row) → 0 ≡ bits_of r picture
  unfolding bits_of
  undrawn_bits picture = rw e

  pub undrawn : (t : Target) (colours : List ℕ) (picture : ℕ → Row) (x : List ℕ) → x ≡ drawn t r s colours picture x
  unfolding row_with frame_with
  undrawn to.Frame colours picture x = rw e
  undrawn to.Row colours picture x = rw e

  pub undrawn_layers : (layer : ℕ → ℕ → ℕ) (layers : List ℕ) → layers ≡ layers_by r s layer layers
  unfolding layers_by
  undrawn_layers layer layers = rw e

module _ (ls : List Line) (z : Screen) (m : List ℕ) (k : Reading) {reg : List ℕ} {raster : Raster} {status : ℕ} {d : Due} {colours : List ℕ} {p : Points}
    (eg : reg ≡ k.reg) (et : raster ≡ k.raster) (eu : status ≡ k.status) (ec : (y : ℕ) → d.row ≡ Some y → colours ≡ k.colours)
    (ep : p ≡ points_by reg status (bits_of d.row (due_picture z m reg d)) d) (ed : d ≡ due_of ls z reg raster) where
  due_by : d ≡ due_of ls z k.reg k.raster
  due_by = rw (eg, et) at ed

  points_by_lem : p ≡ points_by k.reg k.status (bits_of d.row (due_picture z m k.reg d)) d
  points_by_lem = rw (eg, eu) at ep

  pub answer_by : p ≡ points_with ls z m k
  answer_by = answered ls z m k due_by points_by_lem

  -- the row that was due
  pub row_due_by : p.row ≡ d.row
  row_due_by = due_row ls z m k due_by points_by_lem

  -- what it leaves in its buffers
  module _ (x : List ℕ) {x' : List ℕ} where
    row_by : x' ≡ row_with d.row z colours (due_picture z m reg d) x → x' ≡ under ls (λ r. x) (row_filled z m k x)
    row_by e = row_filled_lem ls z m k due_by ec x (rw eg at e)

    frame_by : x' ≡ frame_with d.row z colours (due_picture z m reg d) x → x' ≡ under ls (λ r. x) (frame_filled z m k x)
    frame_by e = frame-filled ls z m k due_by ec x (rw eg at e)

    -- wherever its row goes
    pub target_by : (t : Target) → x' ≡ drawn t d.row z colours (due_picture z m reg d) x → x' ≡ under ls (λ r. x) (target_filled t z m k x)
    target_by to.Frame e = frame_by e
    target_by to.Row e = row_by e

    pub layers_by_lem : x' ≡ layers_by d.row z (due_layers z m reg d) x → x' ≡ layers_under ls z m k x
    layers_by_lem e = owned ls z m k due_by x (rw eg at e)
