-- `Bitmap::get` meets its contract: its two reads are the byte at the place.
-- Assumes nothing.
use borrow.Author.Rules.{rules}
use mathlib.Core.Path.{◌∙◌}
use mir.Syntax.{w8}
use mir.Val.{Fits}
use lib.ListN.{get_or}
use Rattle.bitmap.proofs.Circle.{get_is}
use Rattle.bitmap.proofs.Bitmap.get.Goals as goal

pub returns : goal.returns
returns c =
    let a = c.args in
    c.window.ensures ∙ get_is a.self.bits a.bit_offset (λ k. let f : Fits w8 (get_or a.self.bits k 0) = search rules in f.fits)
