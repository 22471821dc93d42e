-- `face::vdp_write_tile` meets its contract: the tile of these 64 codes into video memory.
use Rattle.face.proofs.Tiles.{wrote_tile}
use Rattle.face.proofs.vdp_write_tile.Goals as goal

pub returns : goal.returns
returns c =
    wrote_tile c.args.vram.now c.args.tile c.args.codes.now c.write_tile.ensures
    c.number.ensures.0
