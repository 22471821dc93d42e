-- `tile_codes::write_tile` meets its contract: tile n becomes the one of these codes.
use mathlib.Core.Path.{sym, ◌∙◌}
use Rattle.tile_codes.proofs.Calls.{write_8, write_13, write_14, write_15, write_0}
use Rattle.tile_codes.proofs.write_tile.Goals as goal

pub returns-then-vram-ne-VRAM_SIZE : goal.returns-then-vram-ne-VRAM_SIZE
returns-then-vram-ne-VRAM_SIZE c =
    write_8 c.args.vram.now c.args.n c.args.codes.now c.if-vram-ne-VRAM_SIZE.true

pub returns-then-n-gt511 : goal.returns-then-n-gt511
returns-then-n-gt511 c =
    write_13 c.args.vram.now c.args.n c.args.codes.now c.if-vram-ne-VRAM_SIZE.false c.if-n-gt511.true

pub returns-then-codes-ne64 : goal.returns-then-codes-ne64
returns-then-codes-ne64 c =
    write_14 c.args.vram.now c.args.n c.args.codes.now c.if-vram-ne-VRAM_SIZE.false c.if-n-gt511.false c.if-codes-ne64.true

pub returns-then-any_high : goal.returns-then-any_high
returns-then-any_high c =
    write_15 c.args.vram.now c.args.n c.args.codes.now c.if-vram-ne-VRAM_SIZE.false c.if-n-gt511.false c.if-codes-ne64.false
    (sym c.any_high.ensures ∙ c.if-any_high.true)

pub returns : goal.returns
returns c =
    write_0 c.args.vram.now c.args.n c.args.codes.now c.if-vram-ne-VRAM_SIZE.false c.if-n-gt511.false c.if-codes-ne64.false
    (sym c.any_high.ensures ∙ c.if-any_high.false)
    (rw c.from.ensures at c.put_tile.ensures)
