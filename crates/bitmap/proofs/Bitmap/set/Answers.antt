-- `Bitmap::set` meets its contract: its two stores are the mask with the byte laid in.
-- Assumes nothing.
use borrow.Author.Rules.{rules}
use mir.Syntax.{w8}
use mir.Val.{Fits}
use lib.ListN.{get_or}
use Rattle.bitmap.proofs.Circle.{set_is}
use Rattle.bitmap.proofs.Bitmap.set.Goals as goal

pub returns : goal.returns
returns c =
    let a = c.args in
    rw (c.lower.ensures, c.upper.ensures)
    (set_is a.self.bits a.bit_offset a.value
    (search rules)
    (λ k. let f : Fits w8 (get_or a.self.bits k 0) = search rules in f.fits)
    c.ranges.value.fits)
