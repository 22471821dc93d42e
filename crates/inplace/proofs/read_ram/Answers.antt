-- `inplace::read_ram` meets its contract: the read buffer, and the next byte into it.
use borrow.Author.Tests.{lt-ltb, le-ltb}
use Rattle.inplace.proofs.Ports.{then_address, then_byte, none_is, video_is, palette_is, emptied_stored, then_buffer, refused_by}
use Rattle.inplace.proofs.Ports.{given_by}
use Rattle.inplace.proofs.read_ram.Goals as goal

pub returns-in-0 : goal.returns-in-0
returns-in-0 c =
    refused_by (simp (none_is c.args.block.now c.in-0.is))
    (emptied_stored c.args.block.now c.requires.front_formed)

pub returns-in_default : goal.returns-in_default
returns-in_default c =
    let none = c.in_default.in_default-own.rest in
    refused_by (simp (palette_is c.args.block.now none.0.1 none.1))
    (emptied_stored c.args.block.now c.requires.front_formed)

pub returns-then-addr-ge-VRAM_ADDRESSES : goal.returns-then-addr-ge-VRAM_ADDRESSES
returns-then-addr-ge-VRAM_ADDRESSES c =
    refused_by (simp (
      video_is c.args.block.now c.in-1.is,
      then_address c.args.block.now c.requires.front_formed
          c.address_in-addr.ensures,
      le-ltb _ _ c.if-addr-ge-VRAM_ADDRESSES.true,
    ))
    (emptied_stored c.args.block.now c.requires.front_formed)

pub returns : goal.returns
returns c =
    given_by (simp (
      video_is c.args.block.now c.in-1.is,
      then_address c.args.block.now c.requires.front_formed
          c.address_in-addr.ensures,
      lt-ltb _ _ c.if-addr-ge-VRAM_ADDRESSES.false,
      then_byte c.args.block.now c.requires.front_formed,
    ))
    (then_buffer c.args.block.now c.requires.front_formed _ _ c.store_buffer.ensures)
