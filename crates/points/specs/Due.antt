-- R4.1, R7.2: what a coming step is to do, known before any colour is asked for; and the points from that.
-- Assumes nothing.
use Rattle.std.specs.Prelude.{◌≡◌, true, false, cond, List, ℕ, ◌<◌, ◌≤◌, ltb, length, None, Option, Some, Err, Ok}
use Rattle.std.specs.Int.Bits.{bit_or}
use Rattle.laws.specs.Lists.{at}
use Rattle.laws.specs.Sizes.{vram_size}
use Rattle.picture.specs.declared.Screen.{Screen}
use Rattle.picture.specs.Picture.{Row}
use Rattle.picture.specs.Screen.{rows, picture_of}
use Rattle.picture.specs.Layers.{layers_of}
use Rattle.raster.specs.declared.Raster.{Raster}
use Rattle.raster.specs.Raster.{advanced, counted}
use Rattle.refusal.specs.declared.Refusal.TheVariants.{LayerLength}
use Rattle.refusal.specs.Refusals.{Line, under, Outcome}
use Rattle.points.specs.declared.Due.{Due}
use Rattle.points.specs.declared.Points.{Points}
use Rattle.points.specs.Points.{row_on, ended_by, report_by, interrupt_by, refused_points}

-- a refused step draws no row and leaves the raster
abbrev pub refused_due : Outcome → Raster → Due
refused_due r raster = record { good = false; outcome = r; row = None; up = raster }

-- one that is taken draws the row of its line, if it has one
abbrev pub taken_due : Screen → List ℕ → Raster → Due
taken_due s reg raster =
    record { good = true; outcome = (Ok tt); row = row_on s (advanced (at reg) raster).v_counter; up = advanced (at reg) raster }

abbrev pub due_of : List Line → Screen → List ℕ → Raster → Due
due_of lines s reg raster = under lines (λ r. refused_due r raster) (taken_due s reg raster)

-- R15.4: a step that is taken without layers, and whose layer buffer of `size` bytes has fewer than `least`, is refused by 16
abbrev pub layer_due : ℕ → ℕ → Raster → Due → Due
layer_due least size raster d = cond d.good (cond (ltb size least) (refused_due (Err LayerLength) raster) d) d

-- the row, if there is one, can be drawn: video memory is whole, pixels of `size` bytes have at least `need`, and it is one of the screen's
abbrev pub Fits : Screen → List ℕ → ℕ → ℕ → Option ℕ → Type 0
Fits s vram need size r = (y : ℕ) → r ≡ Some y → (length vram ≡ vram_size) × ((need ≤ size) × (y < rows s))

-- what each row looks like, and its layers, for these registers and the latched scroll
abbrev pub due_picture : Screen → List ℕ → List ℕ → Due → ℕ → Row
due_picture s vram reg d y = picture_of s reg d.up.vertical_scroll vram y

abbrev pub due_layers : Screen → List ℕ → List ℕ → Due → ℕ → ℕ → ℕ
due_layers s vram reg d y = layers_of s reg d.up.vertical_scroll vram y

-- R4.3 to R4.5, once a row that sets these bits is drawn, if one was to be
unfoldable pub points_by : List ℕ → ℕ → ℕ → Due → Points
points_by reg status bits d =
    let last = ended_by d.up.v_counter (bit_or status bits) in
    cond d.good
    (record {
      outcome = (Ok tt);
      interrupt = interrupt_by reg last d.up;
      report = report_by reg d.up.v_counter;
      row = d.row;
      status = last;
      raster = counted (at reg) d.up;
    })
    (refused_points d.outcome status d.up)
