-- `home_block::out` meets its contract: a port write on the device of a well-formed block.
use native.Mathlib.Omega.{arith}
use Rattle.home_block.proofs.Whole.{said}
use Rattle.home_block.proofs.Ports.{formed, left, left_sized, left_in, aimed, by_palette, by_front}
use Rattle.home_block.proofs.out.Goals as goal

pub write-sent-requires-clause-front_formed : goal.write-sent-requires-clause-front_formed
write-sent-requires-clause-front_formed c = formed c.args.block.now c.requires (λ i. omega (arith, c.slice_known-1.given i))

pub write_palette-requires : goal.write_palette-requires
write_palette-requires c = (
  omega (arith, c.write-sent.auto.block, (said c.args.block.now c.requires).long),
  aimed c.args.block.now c.requires
      (λ i. omega (arith, c.slice_known-1.given i)) c.args.vram.now c.args.port c.args.val
      c.write-sent.ensures.sent_in_place c.write-sent.ensures.vram_after c.if-sent.true,
)

pub returns-then-sent : goal.returns-then-sent
returns-then-sent c =
    by_palette c.args.block.now c.requires (λ i. omega (arith, c.slice_known-1.given i)) c.args.vram.now
    c.args.port c.args.val c.write-sent.ensures.sent_in_place c.write-sent.ensures.vram_after c.if-sent.true
    (c.write_palette.ensures (left c.args.block.now c.requires (λ i. omega (arith, c.slice_known-1.given i))
    c.args.vram.now c.args.port c.args.val)
    (left_sized c.args.block.now c.requires (λ i. omega (arith, c.slice_known-1.given i)) c.args.vram.now
    c.args.port c.args.val) (left_in c.args.block.now c.requires
    (λ i. omega (arith, c.slice_known-1.given i)) c.args.vram.now c.args.port c.args.val
    c.write-sent.ensures.sent_in_place c.write-sent.ensures.vram_after))

pub returns-else-sent : goal.returns-else-sent
returns-else-sent c =
    by_front c.args.block.now c.requires (λ i. omega (arith, c.slice_known-1.given i)) c.args.vram.now
    c.args.port c.args.val c.write-sent.ensures.sent_in_place c.write-sent.ensures.vram_after c.if-sent.false
