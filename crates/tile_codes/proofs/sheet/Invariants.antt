-- `tile_codes::sheet` meets its contract: the bytes of a sheet's tiles, or the line `bad`, at the start of out, and how many they are.
use mathlib.Core.Path.{◌≡◌}
use lib.ListN.{length}
use Rattle.laws.specs.Lists.{written}
use Rattle.tile_codes.specs.Sheet.{sheet_bytes}
use Rattle.tile_codes.proofs.sheet.Given as goal

abbrev pub invariant-loop-n : goal.invariant-loop-n
invariant-loop-n l =
    (l.out ≡ written l.initial.out 0 (sheet_bytes l.n l.input)) × (length l.out ≡ length l.initial.out)
