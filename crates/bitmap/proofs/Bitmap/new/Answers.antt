-- `Bitmap::new` meets its contract: antt computes the mask of no bits.
-- Assumes nothing.
use mathlib.Core.Path.{refl}
use Rattle.laws.specs.Table.{table, table_from}
use Rattle.laws.specs.Bits.{byte_of, number}
use Rattle.bitmap.specs.Mask.{cleared, bytes_of}
use Rattle.bitmap.proofs.Bitmap.new.Goals as goal

pub returns : goal.returns
unfolding cleared bytes_of table table_from byte_of number
returns c = refl
