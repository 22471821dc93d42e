-- `face::home_calls::vdp_home_dump_tileset` meets its contract: all tiles into the pixels.
use Rattle.face.proofs.HomeLaws.{room, dump_refused, dump_done}
use Rattle.face.proofs.home_calls.vdp_home_dump_tileset.Goals as goal

pub returns-then-refused-ne0 : goal.returns-then-refused-ne0
returns-then-refused-ne0 c =
    dump_refused c.args.state.now c.asked-refused.ensures c.if-refused-ne0.true c.args.vram.now c.args.pixels.now

pub cache_in-colours-requires : goal.cache_in-colours-requires
cache_in-colours-requires c =
    room c.args.state.now c.asked-refused.ensures c.if-refused-ne0.false

pub registers-requires : goal.registers-requires
registers-requires c =
    room c.args.state.now c.asked-refused.ensures c.if-refused-ne0.false

pub returns : goal.returns
returns c =
    dump_done c.args.state.now c.asked-refused.ensures c.if-refused-ne0.false c.args.vram.now c.args.pixels.now
    c.registers.ensures c.cache_in-colours.ensures c.dump_tileset.ensures c.number.ensures.0
