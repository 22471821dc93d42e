-- `inplace::write` meets its contract: a port write on a machine with this many bytes of palette, tested in the order of R2.4.
use mathlib.Core.Path.{sym}
use borrow.Author.Tests.{eq-eqb, ne_eqb}
use Rattle.front.specs.Ports.{front_write}
use Rattle.inplace.proofs.Ports.{sent_by}
use Rattle.inplace.proofs.Stores.{stays}
use Rattle.inplace.proofs.write.Goals as goal

pub returns-in-191-clause-sent_in_place : goal.returns-in-191-clause-sent_in_place
unfolding front_write
returns-in-191-clause-sent_in_place c =
    let t = eq-eqb _ _ c.if-vram-ne-VRAM_SIZE.false in
    simp (t, c.in-191.is, c.answered-in-191.ensures) c.write_cmd.ensures

pub returns-in-191-clause-vram_after : goal.returns-in-191-clause-vram_after
unfolding front_write
returns-in-191-clause-vram_after c =
    let t = eq-eqb _ _ c.if-vram-ne-VRAM_SIZE.false in
    simp (t, c.in-191.is)

pub returns-in-190-clause-sent_in_place : goal.returns-in-190-clause-sent_in_place
unfolding front_write
returns-in-190-clause-sent_in_place c =
    let t = eq-eqb _ _ c.if-vram-ne-VRAM_SIZE.false in
    simp (t, c.in-190.is) c.write_ram.ensures.sent_in_place

pub returns-in-190-clause-vram_after : goal.returns-in-190-clause-vram_after
unfolding front_write
returns-in-190-clause-vram_after c =
    let t = eq-eqb _ _ c.if-vram-ne-VRAM_SIZE.false in
    simp (t, c.in-190.is) c.write_ram.ensures.vram_after

pub returns-in_default-clause-sent_in_place : goal.returns-in_default-clause-sent_in_place
unfolding front_write
returns-in_default-clause-sent_in_place c =
    let t = eq-eqb _ _ c.if-vram-ne-VRAM_SIZE.false in
    let none = c.in_default.in_default-own.rest in
    sent_by (simp (t, ne_eqb _ _ none.0.1, ne_eqb _ _ none.1)) c.answered-in_default.ensures
    (sym (stays c.args.block.now c.requires.front_formed))

pub returns-in_default-clause-vram_after : goal.returns-in_default-clause-vram_after
unfolding front_write
returns-in_default-clause-vram_after c =
    let t = eq-eqb _ _ c.if-vram-ne-VRAM_SIZE.false in
    let none = c.in_default.in_default-own.rest in
    simp (t, ne_eqb _ _ none.0.1, ne_eqb _ _ none.1)

pub returns-then-vram-ne-VRAM_SIZE-clause-sent_in_place : goal.returns-then-vram-ne-VRAM_SIZE-clause-sent_in_place
unfolding front_write
returns-then-vram-ne-VRAM_SIZE-clause-sent_in_place c =
    let t = ne_eqb _ _ c.if-vram-ne-VRAM_SIZE.true in
    sent_by (simp t) c.answered.ensures (sym (stays c.args.block.now c.requires.front_formed))

pub returns-then-vram-ne-VRAM_SIZE-clause-vram_after : goal.returns-then-vram-ne-VRAM_SIZE-clause-vram_after
unfolding front_write
returns-then-vram-ne-VRAM_SIZE-clause-vram_after c =
    let t = ne_eqb _ _ c.if-vram-ne-VRAM_SIZE.true in
    simp t
