-- `pixel::spot_at` meets its contract: the pixel at a row and a column of a screen, by the registers, the latched scroll and video memory.
use Rattle.std.proofs.Common.{◌≡◌, length, sym, ◌∙◌, eq-eqb, ne_eqb}
use Rattle.laws.specs.Sizes.{vram_size}
use Rattle.picture.proofs.Laws.{colour_of_lt}
use Rattle.pixel.specs.Pixel.{spot_of}
use Rattle.pixel.proofs.spot_at.Goals as goal

pub returns-then-vram-ne-VRAM_SIZE-clause-value : goal.returns-then-vram-ne-VRAM_SIZE-clause-value
unfolding spot_of
returns-then-vram-ne-VRAM_SIZE-clause-value c = rw (ne_eqb (length c.args.vram.now) vram_size c.if-vram-ne-VRAM_SIZE.true)

pub returns-then-not-on_screen-clause-value : goal.returns-then-not-on_screen-clause-value
unfolding spot_of
returns-then-not-on_screen-clause-value c =
    rw (
      eq-eqb (length c.args.vram.now) vram_size c.if-vram-ne-VRAM_SIZE.false,
      sym c.on_screen.ensures ∙ c.if-not-on_screen.true,
    )

pub returns-clause-value : goal.returns-clause-value
unfolding spot_of
returns-clause-value c =
    let a = c.args in
    rw (
      eq-eqb (length a.vram.now) vram_size c.if-vram-ne-VRAM_SIZE.false,
      sym c.on_screen.ensures ∙ c.if-not-on_screen.false,
      c.colour_number.ensures,
    )

pub returns-clause-colour_bound : goal.returns-clause-colour_bound
returns-clause-colour_bound c n q =
    let a = c.args in
    let m : c.colour_number.result ≡ n = cc in
    rw (← m, c.colour_number.ensures) (colour_of_lt a.screen a.reg a.scroll a.vram.now a.row a.column)
