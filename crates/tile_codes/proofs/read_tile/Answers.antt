-- `tile_codes::read_tile` meets its contract: the codes of tile n.
use Rattle.tile_codes.proofs.Calls.{read_8, read_13, read_14, read_0}
use Rattle.tile_codes.proofs.read_tile.Goals as goal

pub returns-then-vram-ne-VRAM_SIZE : goal.returns-then-vram-ne-VRAM_SIZE
returns-then-vram-ne-VRAM_SIZE c =
    read_8 c.args.vram.now c.args.n c.args.codes.now c.if-vram-ne-VRAM_SIZE.true

pub returns-then-n-gt511 : goal.returns-then-n-gt511
returns-then-n-gt511 c =
    read_13 c.args.vram.now c.args.n c.args.codes.now c.if-vram-ne-VRAM_SIZE.false c.if-n-gt511.true

pub returns-then-codes-ne64 : goal.returns-then-codes-ne64
returns-then-codes-ne64 c =
    read_14 c.args.vram.now c.args.n c.args.codes.now c.if-vram-ne-VRAM_SIZE.false c.if-n-gt511.false c.if-codes-ne64.true

pub returns : goal.returns
returns c =
    read_0 c.args.vram.now c.args.n c.args.codes.now c.if-vram-ne-VRAM_SIZE.false c.if-n-gt511.false c.if-codes-ne64.false
    (rw c.from.ensures at c.get_tile.ensures)
