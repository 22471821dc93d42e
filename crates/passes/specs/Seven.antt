-- R13.8: CAN REFUSAL 7 EVER REACH AN AUTHOR? Not from a device that was made fresh, of either table, after any calls. (Through the C face:
-- crates/demands_face/specs/Seven.antt.)
-- Assumes nothing.
use Rattle.std.specs.Prelude.{◌≡◌, ◌≢◌, true, false, ℕ, ◌≤◌, ◌<◌}
use Rattle.raster.specs.declared.LineTable.{LineTable}
use Rattle.raster.specs.declared.LineTable.TheVariants.{Steps261, Steps262}
use Rattle.refusal.specs.Refusals.{refusal_number}
use Rattle.passes.specs.Machine.{Machine}
use Rattle.passes.specs.Pass.{History, device_after}

-- the highest value of the counter before its jump
abbrev pub highest : LineTable → ℕ
highest Steps261 = 0xD9
highest Steps262 = 0xDA

-- After any calls `h` on a device that was made with table t (so of every call on the way, too: it is the next one after those before it):
pub record NeverSeven (M : Machine) (t : LineTable) (h : History M) : Type 0 where
  -- whatever is called next is not refused by 7
  pub no_seven : (c : M.Call) → refusal_number (M.refusal_of c (device_after M t h)) ≢ 7
  -- the cached colours are those of the current palette whenever the record is not dirty
  pub clean : M.dirty (device_after M t h) ≡ false → M.cache (device_after M t h) ≡ M.colours_of (M.palette (device_after M t h))
  -- the counter is at most D9 before its jump (table 1: DA), and at least D5 after
  pub before_jump : (M.raster (device_after M t h)).v_counter_jumped ≡ false → (M.raster (device_after M t h)).v_counter ≤ highest t
  pub after_jump : (M.raster (device_after M t h)).v_counter_jumped ≡ true → 0xD5 ≤ (M.raster (device_after M t h)).v_counter
  -- the address lies in its memory
  pub in_memory : M.addr (device_after M t h) < M.room (device_after M t h)
