-- `inplace::write_cmd` meets its contract: a command byte: the first of two waits in the latch, the second empties it and acts.
use Rattle.std.specs.Prelude.{Some}
use native.Mathlib.Omega.{arith}
use mathlib.Core.Path.{refl}
use Prim.Native.Nat.{◌%◌}
use Rattle.front.specs.declared.WriteDest.TheVariants.{Vram, Cram}
use Rattle.inplace.proofs.Ports.{sent_by, first_waits, second_reads, second_writes, second_high, second_register, second_palette}
use Rattle.inplace.proofs.Ports.{emptied_stored, then_choice, then_loaded, then_register}
use Rattle.inplace.proofs.Stores.{command_stored}
use Rattle.inplace.proofs.write_cmd.Goals as goal

pub returns-then-block-eq0 : goal.returns-then-block-eq0
returns-then-block-eq0 c =
    sent_by (first_waits c.args.palette c.args.block.now c.args.vram.now c.args.val c.if-block-eq0.true) refl
    (command_stored c.args.block.now c.requires.front_formed (Some c.args.val) refl)

pub returns-then-reg-gt10 : goal.returns-then-reg-gt10
returns-then-reg-gt10 c =
    sent_by (second_high c.args.palette c.args.block.now c.args.vram.now c.args.val c.if-block-eq0.false
    c.in-2.is c.if-reg-gt10.true) refl (emptied_stored c.args.block.now c.requires.front_formed)

pub returns-in-0 : goal.returns-in-0
returns-in-0 c =
    sent_by (second_reads c.args.palette c.args.block.now c.args.vram.now c.args.val c.if-block-eq0.false
    c.in-0.is (omega (arith, c.from_le_bytes-addr.ensures))) refl
    (then_loaded c.args.block.now c.requires.front_formed _ _ c.store_buffer.ensures)

pub returns-in-1 : goal.returns-in-1
returns-in-1 c =
    sent_by (second_writes c.args.palette c.args.block.now c.args.vram.now c.args.val c.if-block-eq0.false
    c.in-1.is (omega (arith, c.from_le_bytes-addr.ensures))) refl
    (then_choice c.args.block.now c.requires.front_formed (Some Vram) _ c.store_address.ensures)

pub returns-else-reg-gt10 : goal.returns-else-reg-gt10
returns-else-reg-gt10 c =
    sent_by (second_register c.args.palette c.args.block.now c.args.vram.now c.args.val c.if-block-eq0.false
    c.in-2.is c.if-reg-gt10.false) refl (then_register c.args.block.now c.requires.front_formed (c.args.val % 128) _
    (omega arith))

pub returns-in_default : goal.returns-in_default
returns-in_default c =
    let none = c.in_default.in_default-own.rest in
    sent_by (second_palette c.args.palette c.args.block.now c.args.vram.now c.args.val c.if-block-eq0.false
    none.0.0.1 none.0.1 none.1 c.palette_address.ensures) refl
    (then_choice c.args.block.now c.requires.front_formed (Some Cram) _ c.store_address-in_default.ensures)
