-- `dump::dump_line` meets its contract: the tile line at addr, drawn at pixel x of the whole picture.
use mathlib.Core.Path.{ap, ◌∙◌}
use mathlib.Core.List.{List}
use Prim.Native.Nat.{ℕ}
use native.Mathlib.Omega.{arith}
use Rattle.laws.specs.Lists.{at}
use Rattle.dump.proofs.Lines.{background_byte, sprite_byte}
use Rattle.dump.proofs.dump_line.Goals as goal

pub returns-then-sprite : goal.returns-then-sprite
returns-then-sprite c =
    λ k.
    let a = c.args in
    rw c.if-sprite.true
    (ap (λ (l : List ℕ). at l k) c.sprite_columns.ensures.row_after ∙ sprite_byte a.pixels.now a.vram.now a.colours.now
    a.addr a.x k (omega arith) (omega arith))

pub returns-else-sprite : goal.returns-else-sprite
returns-else-sprite c =
    λ k.
    let a = c.args in
    rw c.if-sprite.false
    (ap (λ (l : List ℕ). at l k) c.character_line.ensures.row_after ∙ background_byte a.pixels.now a.vram.now a.colours.now
    a.addr a.x k (omega arith))
