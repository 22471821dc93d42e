-- `block_ports::write_palette` meets its contract: a byte for the palette: the first of two is latched, the second stores both.
use mathlib.Core.Path.{◌≡◌, ap, ◌∙◌}
use Rattle.std.specs.Prelude.{None, Err}
use Rattle.std.specs.Result.{result_ok}
use Rattle.refusal.specs.declared.Refusal.TheVariants.{NoPaletteByte}
use mathlib.Core.List.{List}
use Prim.Native.Nat.{ℕ, ◌%◌, ◌+◌}
use native.Mathlib.Omega.{arith}
use Rattle.fields.specs.Stored.{address_stored}
use Rattle.block_ports.proofs.Palette.{even_in_place, none_in_place, odd_in_place}
use Rattle.block_ports.proofs.write_palette.Goals.{then-addr-eq0, else-addr-eq0+in_ok-low}
use Rattle.block_ports.proofs.write_palette.Goals as goal

pub returns-in_err-low : goal.returns-in_err-low
returns-in_err-low c =
    let e : c.latch_in.result ≡ None = c.in_err-low.ensures.ok_part in
    let r : c.from_residual.result ≡ Err NoPaletteByte = grind arith in
    λ n s g e₀. rw r (none_in_place n s g c.args.val e₀ c.address_in-addr.ensures c.if-addr-eq0.false c.latch_in.ensures e)

pub returns : goal.returns
returns c =
    let stored = λ (b : List ℕ). address_stored ((c.address_in-addr.result + 1) % 64) b in
    λ n s g e. elim c.if-addr-eq0.branch [
      | then-addr-eq0 w ↦
          even_in_place n s g c.args.val e c.address_in-addr.ensures w.if-addr-eq0.true w.store_latch.ensures
          (c.store_address.ensures ∙ ap stored w.block-is)
      | else-addr-eq0+in_ok-low w ↦
          odd_in_place n s g c.args.val e c.address_in-addr.ensures w.if-addr-eq0.false w.latch_in.ensures _
          (w.ok_or.ensures.ok_part ∙ ap result_ok w.in_ok-low.was)
          (omega (arith, c.requires.1, c.address_in-addr.ensures)) (rw w.from-here.ensures at w.store_colour.ensures)
          (rw w.from-here.ensures at w.store_colour-else-addr-eq0.ensures) (c.store_address.ensures ∙ ap stored w.block-is)
    ]
