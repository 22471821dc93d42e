-- R4.1, R4.8, THE COUNTER CHART: a device keeps its table, and its counter goes by that table's chart, from wherever it stands and whatever is called between
-- the steps.
-- Assumes nothing.
use Rattle.std.specs.Prelude.{◌≡◌, refl, cond, List, ◌++◌, ℕ, suc, ◌+◌, ◌-◌, ◌<◌, eqb, ltb}
use Rattle.laws.specs.Table.{table_from, table}
use Rattle.raster.specs.declared.Raster.{Raster}
use Rattle.raster.specs.declared.LineTable.{LineTable}
use Rattle.raster.specs.declared.LineTable.TheVariants.{Steps261, Steps262}
use Rattle.raster.specs.Raster.{jump_line, jump_to, pass_length}
use Rattle.passes.specs.Machine.{Told, Machine, line_of}
use Rattle.passes.specs.Pass.{History, device_after, NoStepOn, Watched, pass, line_set}

-- R4.8: no call of any kind, refused or not, changes the table of any device
abbrev pub TableKept : Machine → Type 0
TableKept M = (c : M.Call) (d : M.Device) → (M.raster (M.after c d)).table ≡ (M.raster d).table

-- ---- the chart
-- the line at each place of a pass, place 0 the first
abbrev pub chart_line : LineTable → ℕ → ℕ
chart_line t p = cond (ltb p (jump_line t)) p (p - (jump_line t - jump_to))

-- all lines from one to another
abbrev pub lines : (first last : ℕ) → List ℕ
lines first last = table (last + 1 - first) (λ i. first + i)

-- it is the published one: 00 to DA and then D5 to FF; by table 0, the Rust's, 00 to D9 and then D5 to FF
pub published :
    (table (pass_length Steps261) (chart_line Steps261) ≡ lines 0x00 0xD9 ++ lines 0xD5 0xFF)
    × (table (pass_length Steps262) (chart_line Steps262) ≡ lines 0x00 0xDA ++ lines 0xD5 0xFF)
unfolding table_from table
published = (refl, refl)

-- The place of a counter in the chart, which is the number of steps since it was 0: before the jump the counter itself, after it as much more as the
-- jump went back. So a line below D5 is its own place, and of a line that is read twice in a pass the two places differ.
abbrev pub place_of : Raster → ℕ
place_of x = cond x.v_counter_jumped (x.v_counter + (jump_line x.table - jump_to)) x.v_counter

-- the place behind it, and behind the last one the first
abbrev pub next_place : LineTable → ℕ → ℕ
next_place t p = cond (eqb (suc p) (pass_length t)) 0 (suc p)

-- ---- the law, after any calls `h` on a device that was made with table t
pub record Charted (M : Machine) (t : LineTable) (h : History M) : Type 0 where
  -- the counter stands at a place of the chart, and reads the line there
  pub in_chart : place_of (M.raster (device_after M t h)) < pass_length t
  pub reads : line_of M (device_after M t h) ≡ chart_line t (place_of (M.raster (device_after M t h)))
  -- an accepted step of any kind and area takes it to the next place
  pub steps :
      (c : M.Call) (s : Told M.Device) → M.Steps c (device_after M t h) s →
      place_of (M.raster s.device) ≡ next_place t (place_of (M.raster (device_after M t h)))
  -- any other call, and a refused step, leaves it there
  pub stays :
      (c : M.Call) → NoStepOn M (device_after M t h) c →
      place_of (M.raster (M.after c (device_after M t h))) ≡ place_of (M.raster (device_after M t h))

-- ---- the order of a pass, from whatever line it begins
-- The step of a pass that begins at place s at which place p comes: those from s on come first, and those before s behind the last place of the chart.
abbrev pub comes_at : LineTable → (s p : ℕ) → ℕ
comes_at t s p = cond (ltb p s) (p + pass_length t - s) (p - s)

-- the place that step i sets
abbrev pub place_set : {M : Machine} {a : M.Area} → Watched M a → ℕ → ℕ
place_set {M} r i = place_of (M.raster (r.answer i).device)

pub record InOrder {M : Machine} {a : M.Area} (r : Watched M a) : Type 0 where
  -- step i sets a place of the chart, the one that comes at i
  pub in_chart : (i : ℕ) → place_set r i < pass r
  pub order : (i : ℕ) → i < pass r → comes_at r.table (place_set r 0) (place_set r i) ≡ i
  -- and so the line there; a line below D5 is its own place
  pub line : (i : ℕ) → line_set r i ≡ chart_line r.table (place_set r i)
  pub own_place : (i q : ℕ) → q < jump_to → line_set r i ≡ q → place_set r i ≡ q
  -- the first pass of a device that has not stepped since it was made begins at line 1
  pub first_pass : M.raster (r.ready 0) ≡ M.raster (M.made r.table) → place_set r 0 ≡ 1
