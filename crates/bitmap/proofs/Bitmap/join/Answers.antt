-- `bitmap::Bitmap::join` meets its contract: the bits 0 to 191 of this mask, and behind them the bits 0 to 63 of the other.
use Rattle.std.proofs.Common.{rules, ◌≡◌, length, arith}
use Rattle.bitmap.specs.Mask.{joined}
use Rattle.std.proofs.lemmas.Grind.{common_steps}
use Rattle.bitmap.proofs.Bitmap.join.Goals as goal

pub returns : goal.returns
unfolding joined
returns c =
    let long : length c.args.self.bits ≡ 32 = search rules in
    grind (arith, common_steps)
