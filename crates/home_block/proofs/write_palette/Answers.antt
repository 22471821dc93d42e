-- `home_block::write_palette` meets its contract: a byte for the palette (R20.3): it is stored at once.
use native.Mathlib.Omega.{arith}
use Rattle.home_block.proofs.Stores.{palette_stored}
use Rattle.home_block.proofs.write_palette.Goals as goal

pub returns : goal.returns
returns c =
    λ h g e. palette_stored h g c.args.val (omega (arith, c.requires.1, c.address_in-addr.ensures)) e
    c.address_in-addr.ensures (rw c.from.ensures at c.store_colour.ensures) c.store_address.ensures
