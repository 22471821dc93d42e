-- A step keeps the shape that the block asks of a device.
-- Assumes nothing.
use Rattle.std.specs.Prelude.{None, Option, Some, ℕ}
use mathlib.Core.Path.{◌≡◌}
use mathlib.Core.List.{List}
use Prim.Native.Nat.{ℕ, ◌+◌, ◌*◌, ◌<◌, ◌≤◌}
use native.Mathlib.Decide.{dec_lt}
use native.Mathlib.Omega.{arith}
use lib.ListN.{length, get_or-eq_default}
use Rattle.laws.specs.Lists.{at}
use Rattle.laws.proofs.Tests.{either}
use Rattle.colour.specs.Colour.{colour, colours_of}
use Rattle.colour.proofs.Laws.{length_colours, colours_at_lem}
use Rattle.picture.specs.declared.RenderArea.{RenderArea}
use Rattle.picture.specs.Area.{screen_of}
use Rattle.vdp.specs.declared.VdpState.{VdpState}
use Rattle.refusal.specs.Refusals.{Line}
use Rattle.refusal.proofs.Tables.{under_either}
use Rattle.block.specs.Block.{Shape}
use Rattle.block.proofs.Shapes.{carried}
use Rattle.points.specs.declared.Stepped.{Stepped}
use Rattle.points.specs.Points.{points_of}
use Rattle.step.specs.Step.{colours_now, reading_of, cleaned, stepped, refused_step, step_with}

-- a colour of two bytes fits 32 bits
colour_low : (a b : ℕ) → a < 256 → colour a b < 4294967296
unfolding colour
colour_low a b h = omega arith

colours_low : (p : List ℕ) → ((i : ℕ) → at p i < 256) → (i : ℕ) → at (colours_of p) i < 4294967296
colours_low p h i =
    elim (dec_lt i 32) [
      | yes l ↦ rw (colours_at_lem p i l) (colour_low (at p (2 * i)) (at p (2 * i + 1)) (h (2 * i)))
      | no l ↦ let n : length (colours_of p) ≤ i = omega (arith, length_colours p) in rw (get_or-eq_default (colours_of p) 0 n) (omega arith)
    ]

-- the colours that a step draws with
record Coloured (cache : List ℕ) : Type 0 where
  size : length cache ≡ 32
  low : (i : ℕ) → at cache i < 4294967296

coloured : (d : VdpState) → Shape d → Coloured (colours_now d)
coloured d g =
    either Coloured d.cram_dirty
    (λ _. record { size = length_colours d.cram; low = colours_low d.cram g.byte })
    (λ _. record { size = g.cache; low = g.colour })

cleaned_shape : (r : Option ℕ) (d : VdpState) → Shape d → Shape (cleaned r d (colours_now d))
cleaned_shape None d g = g
cleaned_shape (Some y) d g =
    let c = coloured d g in
    record { registers = g.registers; palette = g.palette; cache = c.size; byte = g.byte; latched = g.latched; colour = c.low }

pub step_shape : (a : RenderArea) (m : List ℕ) (d : VdpState) → Shape d → Shape (stepped a m d).device
unfolding stepped
step_shape a m d g = carried (cleaned_shape (points_of (screen_of a) m (reading_of d)).row d g) _ _ _ _ _ _ _

abbrev ShapeS : Stepped VdpState → Type 0
ShapeS s = Shape s.device

-- a step with any buffer, refused or not
pub with_shape : (ls : List Line) (a : RenderArea) (m : List ℕ) (d : VdpState) → Shape d → Shape (step_with ls a m d).device
unfolding step_with
with_shape ls a m d g = under_either ShapeS ls (λ r. refused_step r d) (stepped a m d) (λ r. g) (λ p. step_shape a m d g)
