-- `block_parts::put_colours` meets its contract: the four bytes of each colour, the lowest first, into dst at this place.
use native.Mathlib.Omega.{arith}
use mathlib.Core.Path.{refl, ◌∙◌}
use Rattle.std.proofs.lemmas.Slice.{put_mid-paste}
use Rattle.block_parts.proofs.Copies.{colour_put}
use Rattle.block_parts.proofs.put_colours.Goals as goal

pub loop-i-preserved : goal.loop-i-preserved
loop-i-preserved c =
    let l = c.loop-i in
    let a = c.args in
    put_mid-paste _ _ l.dst _ _ 4 (c.copy_from_slice.ensures.after ∙ c.to_le_bytes-bytes.ensures) (omega arith) refl
    ∙ colour_put a.place a.dst.now a.colours.now l.i (omega arith) (omega arith) l.auto.dst l.invariant
