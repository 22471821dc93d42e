-- `sprites::sprites_line` meets its contract: the sprites of a line, over its background, under the priority mask `prio`.
use Rattle.std.proofs.Common.{◌≡◌, ℕ, ◌-◌, ◌≤◌, Bool, List, length}
use Rattle.laws.specs.Lists.{at}
use Rattle.laws.specs.Paint.{painted}
use Rattle.bitmap.specs.Mask.{bytes_of, cleared}
use Rattle.picture.specs.View.{early}
use Rattle.picture.specs.Layers.{layers_in}
use Rattle.stand.specs.Stand.{stand_of}
use Rattle.sprites.proofs.List.{Going, Told}
use Rattle.sprites.proofs.sprites_line.Given as goal

abbrev pub invariant-loop-next : goal.invariant-loop-next
invariant-loop-next l = (l.from ≤ 64)
    × (l.count ≤ 8)
    × (length l.row ≡ length l.initial.row)
    × (length l.layers ≡ length l.initial.layers)
    × ((base told : List ℕ) (f : ℕ → Bool) (colour : ℕ → ℕ) → l.prio.bits ≡ bytes_of f → l.initial.mask.bits ≡ cleared → l.initial.row ≡ painted base 0 l.width
    (λ x. at l.colours (colour x)) →
    l.initial.layers ≡ layers_in told l.width (λ x. 0) →
    Going (at l.vram) (at l.reg) (stand_of l.screen (early (at l.reg))) l.line f colour l.from l.count
    (Told base told l.colours l.width l.row l.mask.bits l.layers l.hit))

abbrev pub decreases-loop-next : goal.decreases-loop-next
decreases-loop-next l = 64 - l.from
