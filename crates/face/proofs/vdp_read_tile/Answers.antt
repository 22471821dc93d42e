-- `face::vdp_read_tile` meets its contract: the 64 codes of a tile.
use Rattle.face.proofs.Tiles.{read_tile}
use Rattle.face.proofs.vdp_read_tile.Goals as goal

pub returns : goal.returns
returns c =
    read_tile c.args.vram.now c.args.tile c.args.codes.now c.read_tile.ensures
    c.number.ensures.0
