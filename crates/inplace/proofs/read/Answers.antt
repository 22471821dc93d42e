-- `inplace::read` meets its contract: a port read, tested in the order of R2.4.
use mathlib.Core.Path.{sym}
use borrow.Author.Tests.{eq-eqb, ne_eqb}
use Rattle.front.specs.Ports.{front_read}
use Rattle.inplace.proofs.Ports.{refused_by, given_by}
use Rattle.inplace.proofs.Stores.{stays}
use Rattle.inplace.proofs.read.Goals as goal

pub returns-then-vram-ne-VRAM_SIZE : goal.returns-then-vram-ne-VRAM_SIZE
unfolding front_read
returns-then-vram-ne-VRAM_SIZE c =
    refused_by (simp (ne_eqb _ _ c.if-vram-ne-VRAM_SIZE.true)) (sym (stays c.args.block.now c.requires))

pub returns-in-126 : goal.returns-in-126
unfolding front_read
returns-in-126 c =
    given_by (simp (eq-eqb _ _ c.if-vram-ne-VRAM_SIZE.false, c.in-126.is)) (sym (stays c.args.block.now c.requires))

pub returns-in-127 : goal.returns-in-127
unfolding front_read
returns-in-127 c =
    refused_by (simp (eq-eqb _ _ c.if-vram-ne-VRAM_SIZE.false, c.in-127.is))
    (sym (stays c.args.block.now c.requires))

pub returns-in-191 : goal.returns-in-191
unfolding front_read
returns-in-191 c =
    simp (eq-eqb _ _ c.if-vram-ne-VRAM_SIZE.false, c.in-191.is) c.read_status.ensures

pub returns-in-190 : goal.returns-in-190
unfolding front_read
returns-in-190 c =
    simp (eq-eqb _ _ c.if-vram-ne-VRAM_SIZE.false, c.in-190.is) c.read_ram.ensures

pub returns-in_default : goal.returns-in_default
unfolding front_read
returns-in_default c =
    let none = c.in_default.in_default-own.rest in
    refused_by (simp (eq-eqb _ _ c.if-vram-ne-VRAM_SIZE.false, ne_eqb _ _ none.0.0.0.1, ne_eqb _ _ none.0.0.1, ne_eqb _ _ none.0.1, ne_eqb _ _ none.1))
    (sym (stays c.args.block.now c.requires))
