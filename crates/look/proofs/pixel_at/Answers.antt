-- `look::pixel_at` meets its contract: the colour of one pixel of the row as it would be drawn now, whatever the counter reads.
use Rattle.std.proofs.lemmas.Result.{err_from_is_err_and}
use Rattle.pixel.specs.Pixel.{pixel_of}
use Rattle.look.proofs.pixel_at.Goals as goal

pub returns-in_err-n : goal.returns-in_err-n
unfolding pixel_of
returns-in_err-n c =
    let p = err_from_is_err_and c.from_residual.result c.from_residual.ensures.1 in
    rw (p.1, p.2, ← c.screen_of-screen.ensures, ← c.spot_at.ensures.value, c.in_err-n.was)

pub returns-in_default : goal.returns-in_default
unfolding pixel_of
returns-in_default c = rw (← c.screen_of-screen.ensures, ← c.spot_at.ensures.value, c.in_ok-n.was, c.in_default.is)

pub returns : goal.returns
unfolding pixel_of
returns c =
    rw (← c.screen_of-screen.ensures, ← c.spot_at.ensures.value, c.in_ok-n.was, c.in-Some.is, c.colours_of.ensures)
