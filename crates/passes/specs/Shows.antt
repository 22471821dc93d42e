-- R13.9, WHEN A WRITE SHOWS: whatever an author writes while the counter reads L, to a port or to video memory, the rows that it changes, in any pass.
-- Assumes nothing.
use Rattle.std.specs.Prelude.{◌≡◌, ◌≢◌, ℕ, ◌≤◌, ◌<◌, ◌-◌, Some}
use Rattle.picture.specs.Screen.{columns, rows, row_bytes}
use Rattle.raster.specs.declared.Raster.{Raster}
use Rattle.raster.specs.Raster.{ticked}
use Rattle.passes.specs.Machine.{Machine, register}
use Rattle.passes.specs.Pass.{Watched, pass, line_set, colours_at, row_at_end, picture_at}
use Rattle.passes.specs.Split.{Moment, New}

-- Two runs that are one up to step s: one table, and just before each of these steps the same device and the same video memory.
pub record SameUntil {M : Machine} {a : M.Area} (r r₀ : Watched M a) (s : ℕ) : Type 0 where
  pub table : r.table ≡ r₀.table
  pub device : (i : ℕ) → i ≤ s → r.ready i ≡ r₀.ready i
  pub memory : (i : ℕ) → i ≤ s → r.vram i ≡ r₀.vram i

-- r is the run with the write, r₀ the one without.
pub record WriteShows {M : Machine} {a : M.Area} {r : Watched M a} {L : ℕ} (m : Moment r L) (r₀ : Watched M a) : Type 0 where
  -- a row that was drawn before the write never changes: each row that is not new ends as it ends without the write
  pub stays : (y : ℕ) → y < rows (M.screen a) → (New m y → ⊥) → row_at_end r y ≡ row_at_end r₀ y
  -- each new row is drawn after the write, by the palette, the registers and the video memory that there are then
  pub shows :
      (i y : ℕ) → i < pass r → (r.answer i).row ≡ Some y → New m y →
      (m.step < i) × (row_at_end r y ≡ row_bytes (colours_at r i) (columns (M.screen a)) (picture_at r i y))
  -- register 9 alone waits: the scroll that rows are drawn with stays until the counter becomes 0, and is then what register 9 has
  pub scroll_waits :
      (i : ℕ) → m.step ≤ i → ((j : ℕ) → m.step < j → j ≤ i → line_set r j ≢ 0) →
      r.scroll i ≡ r.scroll m.step
  pub scroll_taken : (i : ℕ) → line_set r i ≡ 0 → r.scroll i ≡ register M (r.ready i) 9

-- Register 10 waits too, for the line count: on a line up to 192 the count goes down whatever register 10 has, until it is 0; from 0, and on a later line,
-- it is register 10's.
pub record CountWaits (g : ℕ → ℕ) (x : Raster) : Type 0 where
  pub goes_down :
      (ticked g x).v_counter ≢ 0 → (ticked g x).v_counter ≤ 192 → x.line_interrupt_counter ≢ 0 →
      (ticked g x).line_interrupt_counter ≡ x.line_interrupt_counter - 1
  pub taken_at_0 :
      (ticked g x).v_counter ≢ 0 → x.line_interrupt_counter ≡ 0 → (ticked g x).line_interrupt_counter ≡ g 10
  pub taken_late : 192 < (ticked g x).v_counter → (ticked g x).line_interrupt_counter ≡ g 10
