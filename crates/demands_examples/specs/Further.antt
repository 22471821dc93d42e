-- What is asked next, computed from the definitions: the lines that interrupt, the rows that a change of colour reaches, the rows drawn twice.
-- Assumes nothing.
use Rattle.std.specs.Prelude.{◌≡◌, refl, Bool, true, false, List, [], ◌∷◌, ◌++◌, ℕ, zero, suc, ◌+◌, ◌-◌, eqb, length, None, Option, Some}
use Rattle.laws.specs.Bits.{bit}
use Rattle.laws.specs.Lists.{at}
use Rattle.laws.specs.Table.{table_from, table}
use Rattle.colour.specs.Colour.{colour, colours_of}
use Rattle.picture.specs.declared.RenderArea.{RenderArea}
use Rattle.picture.specs.declared.RenderArea.TheVariants.{VisibleOnly, EffectiveArea}
use Rattle.picture.specs.Area.{screen_of}
use Rattle.raster.specs.declared.LineTable.{LineTable}
use Rattle.raster.specs.declared.LineTable.TheVariants.{Steps261, Steps262}
use Rattle.raster.specs.Raster.{pass_length, jumps, starts, advanced, line_interrupt, counted}
use Rattle.vdp.specs.declared.VdpState.{VdpState}
use Rattle.vdp.specs.Device.{made}
use Rattle.front.specs.Ports.{front_write}
use Rattle.vdp.specs.Ports.{port_write}
use Rattle.vdp.specs.Calls.{write, after, after_all, start}
use Rattle.points.specs.Points.{row_on, bits_of, ended_by, interrupt_by, points_of}
use Rattle.step.specs.Step.{stepped}
use Rattle.passes.specs.Split.{first_new}
use Rattle.demands_examples.specs.Examples.{zeroed, steps_on, interrupt_lines, every, before_line0}

-- ---- the lines that interrupt, with line interrupts on and register 10 at N before the first step of a fresh device
-- those of its first pass, lines 1 to FF, and those of a pass from line 0
abbrev first_lines : LineTable → ℕ → List ℕ
first_lines t n = interrupt_lines (pass_length t - 1) (every t n)

abbrev later_lines : LineTable → ℕ → List ℕ
later_lines t n = interrupt_lines (pass_length t) (before_line0 t n)

-- ---- rows
-- those that the next n steps draw, where the device that the step leaves passes the test
abbrev listed : Option ℕ → Bool → List ℕ → List ℕ
listed (Some y) true ys = y ∷ ys
listed (Some y) false ys = ys
listed None b ys = ys

rows_by : RenderArea → (VdpState → Bool) → ℕ → VdpState → List ℕ
rows_by a test zero d = []
rows_by a test (suc n) d =
    let s = stepped a zeroed d in
    listed s.row (test s.device) (rows_by a test n s.device)

-- all rows of the first pass of a fresh device
abbrev pass_rows : RenderArea → LineTable → List ℕ
pass_rows a t = rows_by a (λ d. true) (pass_length t) (made t)

-- those drawn in the new colour, of a first pass in which colour 3 becomes 5A, 3 once the counter reads L (below D5)
abbrev is_new : VdpState → Bool
is_new d = eqb (at d.color_cache 3) (colour 0x5A 3)

abbrev recoloured : VdpState → VdpState
recoloured d =
    (after_all (record { device = d; vram = zeroed }) (write 0xBF 0x06 ∷ write 0xBF 0xC0 ∷ write 0xBE 0x5A ∷ write 0xBE 3 ∷ [])).device

abbrev new_rows : LineTable → ℕ → List ℕ
new_rows t l = rows_by VisibleOnly is_new l (made t) ++ rows_by VisibleOnly is_new (pass_length t - l) (recoloured (steps_on l (made t)))

abbrev first : ℕ → ℕ
first l = first_new (screen_of VisibleOnly) l

-- n numbers from k on
abbrev from : ℕ → ℕ → List ℕ
from k n = table n (λ i. k + i)

pub further : LineTable → List (List ℕ)
further t =
    -- N = 60, the first pass and a later one
    first_lines t 60
    ∷ later_lines t 60
    -- N = 0: how many lines of each
    ∷ (length (first_lines t 0) ∷ length (later_lines t 0) ∷ [])
    -- N = 194 and N = 195, a later pass
    ∷ later_lines t 194
    ∷ later_lines t 195
    -- the first new row, and the new rows, of a change at line 10, 90, 166, 167, 200
    ∷ (first 10 ∷ first 90 ∷ first 166 ∷ first 167 ∷ first 200 ∷ [])
    ∷ new_rows t 10
    ∷ new_rows t 90
    ∷ new_rows t 166
    ∷ new_rows t 167
    ∷ new_rows t 200
    -- the rows of a pass, visible and effective: the lines go 1 to D9 or DA, D5 to FF, 0
    ∷ pass_rows VisibleOnly t
    ∷ pass_rows EffectiveArea t
    ∷ []

-- what they are: two differ from table to table, how many lines interrupt where all do, and the effective rows
abbrev found : (steps up : ℕ) → List (List ℕ)
found steps up =
    (0x01 ∷ 0x3E ∷ 0x7B ∷ 0xB8 ∷ [])
    ∷ (0x3B ∷ 0x78 ∷ 0xB5 ∷ [])
    ∷ ((steps - 1) ∷ steps ∷ [])
    ∷ (193 ∷ [])
    ∷ []
    ∷ (0 ∷ 67 ∷ 143 ∷ 144 ∷ 144 ∷ [])
    ∷ from 0 144
    ∷ from 67 77
    ∷ (143 ∷ [])
    ∷ []
    ∷ []
    ∷ from 0 144
    ∷ (from 1 up ++ from 213 11 ++ from 0 1)
    ∷ []

pub computed : (further Steps261 ≡ found 261 217) × (further Steps262 ≡ found 262 218)
unfolding further steps_on interrupt_lines rows_by port_write front_write after after_all start colour colours_of table_from table jumps starts advanced
    line_interrupt counted bit row_on bits_of ended_by interrupt_by points_of stepped
computed = (refl, refl)
