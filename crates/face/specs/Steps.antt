-- What the points of a step of either machine read of its state block, where registers and status stand at the same places, and what the step leaves there:
-- where the scroll, the dirty flag and the cache stand, the machine tells.
-- Assumes nothing.
use Rattle.std.specs.Prelude.{cond, List, ℕ, eqb, None, Option, Some}
use Rattle.laws.specs.Lists.{at}
use Rattle.points.specs.declared.Due.{Due}
use Rattle.points.specs.declared.Points.{Points}
use Rattle.points.specs.Due.{points_by}
use Rattle.block_parts.specs.Parts.{registers_in, raster_stored, cache_stored}

-- the points of what was due, once a row that sets these bits is drawn, if one was to be
abbrev pub points_in : List ℕ → ℕ → Due → Points
points_in b bits d = points_by (registers_in b) (at b 2) bits d

-- R4.2: the colours that a row is drawn with, where they are dirty
abbrev pub colours_stored : ℕ → ℕ → Option ℕ → List ℕ → List ℕ → List ℕ
colours_stored dirty cache None colours b = b
colours_stored dirty cache (Some y) colours b = cond (eqb (at b dirty) 1) (cache_stored cache dirty colours b) b

-- the status and the raster that the points leave
abbrev pub points_stored : ℕ → Points → List ℕ → List ℕ
points_stored scroll p b = raster_stored scroll p.status p.raster b
