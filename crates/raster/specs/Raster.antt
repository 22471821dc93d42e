-- R4.1, R4.4 (the half of the line count) and R4.5: what a step does to the raster x, by the registers g.
-- Assumes nothing.
use Rattle.std.specs.Prelude.{ℕ, ◌+◌, ◌-◌, ◌%◌, Bool, false, cond, not, ◌&&◌, ◌||◌, ◌==◌, nat_lt}
use Rattle.laws.specs.Bits.{bit}
use Rattle.raster.specs.declared.Raster.{Raster}
use Rattle.raster.specs.declared.LineTable.{LineTable}
use Rattle.raster.specs.declared.LineTable.TheVariants.{Steps261, Steps262}

-- R3.2: the raster of a fresh device that goes by table t
abbrev pub fresh_raster : LineTable → Raster
fresh_raster t = record { v_counter = 0; v_counter_jumped = false; line_interrupt_counter = 0; vertical_scroll = 0; table = t }

-- R4.8: the numbers of the tables
abbrev pub line_table_number : LineTable → ℕ
line_table_number Steps261 = 0
line_table_number Steps262 = 1

abbrev pub line_table_from : ℕ → LineTable
line_table_from n = cond (n == 0) Steps261 Steps262

-- R4.1: the value at which the counter jumps instead of being read, the one it jumps to, and the steps of a pass that follow
abbrev pub jump_line : LineTable → ℕ
jump_line Steps261 = 0xDA
jump_line Steps262 = 0xDB

abbrev pub jump_to : ℕ
jump_to = 0xD5

abbrev pub pass_length : LineTable → ℕ
pass_length Steps261 = 261
pass_length Steps262 = 262

-- R4.1: the counter one up
abbrev pub up : Raster → ℕ
up x = (x.v_counter + 1) % 256

-- the jump, once in a pass
unfoldable pub jumps : Raster → Bool
jumps x = up x == jump_line x.table && not x.v_counter_jumped

-- line 0: scroll, jump flag and line count start anew
unfoldable pub starts : Raster → Bool
starts x = up x == 0

abbrev pub line_count : ℕ → ℕ
line_count r10 = r10 - 1

unfoldable pub advanced : (ℕ → ℕ) → Raster → Raster
advanced g x =
    record {
      v_counter = cond (jumps x) jump_to (up x);
      v_counter_jumped = cond (starts x) false (jumps x || x.v_counter_jumped);
      line_interrupt_counter = cond (starts x) (line_count (g 10)) x.line_interrupt_counter;
      vertical_scroll = cond (starts x) (g 9) x.vertical_scroll;
      table = x.table;
    }

-- R4.4: register 0 bit 4, and the count at 0
unfoldable pub line_interrupt : (ℕ → ℕ) → Raster → Bool
line_interrupt g x = bit (g 0) 4 && x.line_interrupt_counter == 0

-- R4.5: the line count down, or from register 10 again
unfoldable pub counted : (ℕ → ℕ) → Raster → Raster
counted g x =
    record {
      v_counter = x.v_counter;
      v_counter_jumped = x.v_counter_jumped;
      line_interrupt_counter =
          cond (nat_lt 192 x.v_counter || x.line_interrupt_counter == 0) (g 10) (x.line_interrupt_counter - 1);
      vertical_scroll = x.vertical_scroll;
      table = x.table;
    }

-- the raster that a whole step leaves
unfoldable pub ticked : (ℕ → ℕ) → Raster → Raster
ticked g x = counted g (advanced g x)
