-- `inplace::write_ram` meets its contract: a data byte, for the memory that is chosen.
use Rattle.inplace.proofs.Ports.{data_nothing, data_video, data_outside, data_palette, data_beyond, emptied_stored, then_buffer, data_by_lem, palette_by}
use Rattle.inplace.proofs.write_ram.Goals as goal

pub returns-then-palette-addr-clause-vram_after : goal.returns-then-palette-addr-clause-vram_after
returns-then-palette-addr-clause-vram_after c =
    let none = c.in_default.in_default-own.rest in
    let whole = data_by_lem (data_beyond c.args.palette c.args.block.now c.args.vram.now c.args.val none.0.1 none.1
    c.address_in-addr.ensures c.if-palette-addr.true) c.answered-then-palette-addr.ensures (emptied_stored c.args.block.now c.requires.front_formed) in whole.1

pub returns-in-0-clause-sent_in_place : goal.returns-in-0-clause-sent_in_place
returns-in-0-clause-sent_in_place c =
    let whole = data_by_lem (data_nothing c.args.palette c.args.block.now c.args.vram.now c.args.val c.in-0.is)
    c.answered.ensures (emptied_stored c.args.block.now c.requires.front_formed) in whole.0

pub returns-in-0-clause-vram_after : goal.returns-in-0-clause-vram_after
returns-in-0-clause-vram_after c =
    let whole = data_by_lem (data_nothing c.args.palette c.args.block.now c.args.vram.now c.args.val c.in-0.is)
    c.answered.ensures (emptied_stored c.args.block.now c.requires.front_formed) in whole.1

pub returns-else-palette-addr-clause-vram_after : goal.returns-else-palette-addr-clause-vram_after
returns-else-palette-addr-clause-vram_after c =
    let none = c.in_default.in_default-own.rest in
    let whole = palette_by (data_palette c.args.palette c.args.block.now c.args.vram.now c.args.val none.0.1 none.1
    c.address_in-addr.ensures c.if-palette-addr.false) (emptied_stored c.args.block.now c.requires.front_formed) in whole.1

pub returns-then-addr-ge-VRAM_ADDRESSES-clause-sent_in_place : goal.returns-then-addr-ge-VRAM_ADDRESSES-clause-sent_in_place
returns-then-addr-ge-VRAM_ADDRESSES-clause-sent_in_place c =
    let whole = data_by_lem (data_outside c.args.palette c.args.block.now c.args.vram.now c.args.val c.in-1.is
    c.address_in-addr.ensures c.if-addr-ge-VRAM_ADDRESSES.true) c.answered-then-addr-ge-VRAM_ADDRESSES.ensures
    (emptied_stored c.args.block.now c.requires.front_formed) in whole.0

pub returns-then-addr-ge-VRAM_ADDRESSES-clause-vram_after : goal.returns-then-addr-ge-VRAM_ADDRESSES-clause-vram_after
returns-then-addr-ge-VRAM_ADDRESSES-clause-vram_after c =
    let whole = data_by_lem (data_outside c.args.palette c.args.block.now c.args.vram.now c.args.val c.in-1.is
    c.address_in-addr.ensures c.if-addr-ge-VRAM_ADDRESSES.true) c.answered-then-addr-ge-VRAM_ADDRESSES.ensures
    (emptied_stored c.args.block.now c.requires.front_formed) in whole.1

pub returns-then-palette-addr-clause-sent_in_place : goal.returns-then-palette-addr-clause-sent_in_place
returns-then-palette-addr-clause-sent_in_place c =
    let none = c.in_default.in_default-own.rest in
    let whole = data_by_lem (data_beyond c.args.palette c.args.block.now c.args.vram.now c.args.val none.0.1 none.1
    c.address_in-addr.ensures c.if-palette-addr.true) c.answered-then-palette-addr.ensures (emptied_stored c.args.block.now c.requires.front_formed) in whole.0

pub returns-else-addr-ge-VRAM_ADDRESSES-clause-sent_in_place : goal.returns-else-addr-ge-VRAM_ADDRESSES-clause-sent_in_place
returns-else-addr-ge-VRAM_ADDRESSES-clause-sent_in_place c =
    let whole = data_by_lem (data_video c.args.palette c.args.block.now c.args.vram.now c.args.val c.in-1.is
    c.address_in-addr.ensures c.if-addr-ge-VRAM_ADDRESSES.false) c.answered-in-1.ensures
    (then_buffer c.args.block.now c.requires.front_formed _ _ c.store_buffer.ensures) in whole.0

pub returns-else-addr-ge-VRAM_ADDRESSES-clause-vram_after : goal.returns-else-addr-ge-VRAM_ADDRESSES-clause-vram_after
returns-else-addr-ge-VRAM_ADDRESSES-clause-vram_after c =
    let whole = data_by_lem (data_video c.args.palette c.args.block.now c.args.vram.now c.args.val c.in-1.is
    c.address_in-addr.ensures c.if-addr-ge-VRAM_ADDRESSES.false) c.answered-in-1.ensures
    (then_buffer c.args.block.now c.requires.front_formed _ _ c.store_buffer.ensures) in whole.1

pub returns-else-palette-addr-clause-sent_in_place : goal.returns-else-palette-addr-clause-sent_in_place
returns-else-palette-addr-clause-sent_in_place c =
    let none = c.in_default.in_default-own.rest in
    let whole = palette_by (data_palette c.args.palette c.args.block.now c.args.vram.now c.args.val none.0.1 none.1
    c.address_in-addr.ensures c.if-palette-addr.false) (emptied_stored c.args.block.now c.requires.front_formed) in whole.0
