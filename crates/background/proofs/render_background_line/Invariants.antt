-- `background::render_background_line` meets its contract: the background of a row whose pixel 0 shows the map's pixel (sx, y).
use Rattle.std.proofs.Common.{◌≡◌, ℕ, ◌+◌, ◌-◌, ◌*◌, ◌%◌, ◌<◌, ◌≤◌, List, length}
use Rattle.laws.specs.Lists.{at}
use Rattle.laws.specs.Paint.{painted}
use Rattle.bitmap.specs.Mask.{bytes_of}
use Rattle.background.specs.Background.{shade, back_colour, prio_to}
use Rattle.background.proofs.Marks.{laid_in}
use Rattle.background.proofs.render_background_line.Given as goal

abbrev pub invariant-loop-x : goal.invariant-loop-x
invariant-loop-x l = (l.x ≤ l.width)
    × ((base : List ℕ) → l.initial.row ≡ painted base 0 l.initial.x (shade l.colours (back_colour l.vram l.names l.sx l.y)) → l.row ≡ painted base 0 l.x
    (shade l.colours (back_colour l.vram l.names l.sx l.y)))
    × (l.prio.bits ≡ bytes_of (prio_to l.vram l.names l.sx l.y l.cut l.initial.x) →
    laid_in l.marks (l.first % 8) l.prio.bits ≡ bytes_of (prio_to l.vram l.names l.sx l.y l.cut l.x))
    × (length l.row ≡ length l.initial.row)
    × (l.x < l.width → (8 ≤ l.sx % 8 + l.x) × ((l.sx + l.x) % 8 ≡ 0))
    × (length l.marks ≡ 33)
    × (l.x % 8 ≡ l.first % 8)
    × ((k : ℕ) → l.x < 8 * k → at l.marks k ≡ 0)

abbrev pub decreases-loop-x : goal.decreases-loop-x
decreases-loop-x l = l.width - l.x
