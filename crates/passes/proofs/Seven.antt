-- Refusal 7 never comes: of a fresh device of any lawful machine, by what every call keeps.
-- Assumes nothing.
use mathlib.Core.Path.{◌≡◌, subst}
use mathlib.Core.Bool.{Bool, true, false}
use Prim.Native.Nat.{ℕ, ◌≤◌, ◌<◌}
use native.Mathlib.Omega.{arith}
use Rattle.raster.specs.declared.LineTable.{LineTable}
use Rattle.raster.specs.declared.LineTable.TheVariants.{Steps261, Steps262}
use Rattle.raster.specs.Raster.{jump_line, jump_to}
use Rattle.passes.specs.Machine.{Machine}
use Rattle.passes.specs.Pass.{History, device_after}
use Rattle.passes.specs.Seven.{highest, NeverSeven}
use Rattle.passes.proofs.Counter.{Within}
use Rattle.passes.proofs.Lawful.{Lawful}
use Rattle.passes.proofs.Sound.{sound, table_is}

early : (t : LineTable) (b : Bool) (c : ℕ) → Within (jump_line t) jump_to b c → b ≡ false → c ≤ highest t
early Steps261 b c w e = let l : c < 0xDA = subst (λ (x : Bool). Within 0xDA jump_to x c) e w in omega arith
early Steps262 b c w e = let l : c < 0xDB = subst (λ (x : Bool). Within 0xDB jump_to x c) e w in omega arith

late : (J T : ℕ) (b : Bool) (c : ℕ) → Within J T b c → b ≡ true → T ≤ c
late J T b c w e = (subst (λ (x : Bool). Within J T x c) e w).0

pub never_seven : {M : Machine} (ok : Lawful M) (t : LineTable) (h : History M) → NeverSeven M t h
never_seven {M} ok t h =
    let d = device_after M t h in
    let x = M.raster d in
    let s = sound ok t h in
    record {
      no_seven = λ c. ok.no_seven c d s.aimed;
      clean = s.clean;
      before_jump = early t x.v_counter_jumped x.v_counter
          (subst (λ (u : LineTable). Within (jump_line u) jump_to x.v_counter_jumped x.v_counter) (table_is ok t h) s.within);
      after_jump = late (jump_line x.table) jump_to x.v_counter_jumped x.v_counter s.within;
      in_memory = s.aimed;
    }
