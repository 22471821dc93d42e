-- The numbers of the two tables: all that the laws of lines use of them.
-- Assumes nothing.
use Rattle.std.proofs.Common.{◌≡◌, ◌+◌, ◌-◌, ◌<◌, ◌≤◌, false, eqb, refl, arith}
use Rattle.raster.specs.declared.LineTable.{LineTable}
use Rattle.raster.specs.declared.LineTable.TheVariants.{Steps261, Steps262}
use Rattle.raster.specs.Raster.{line_table_number, line_table_from, jump_line, jump_to, pass_length}

-- the jump goes back, to a line above 0, from one that a byte has and that is not 0
pub jump_back : (t : LineTable) → jump_to < jump_line t
jump_back Steps261 = omega arith
jump_back Steps262 = omega arith

pub jump_above : 0 < jump_to
jump_above = omega arith

pub jump_high : (t : LineTable) → jump_line t < 256
jump_high Steps261 = omega arith
jump_high Steps262 = omega arith

pub jump_not_0 : (t : LineTable) → eqb 0 (jump_line t) ≡ false
jump_not_0 Steps261 = refl
jump_not_0 Steps262 = refl

-- a pass is the lines up to the jump and those from where it goes
pub pass_is : (t : LineTable) → pass_length t ≡ jump_line t + (256 - jump_to)
pass_is Steps261 = refl
pass_is Steps262 = refl

-- a table is told by its number
pub table_number : (t : LineTable) → line_table_from (line_table_number t) ≡ t
table_number Steps261 = refl
table_number Steps262 = refl

pub number_low : (t : LineTable) → line_table_number t ≤ 1
number_low Steps261 = omega arith
number_low Steps262 = omega arith
