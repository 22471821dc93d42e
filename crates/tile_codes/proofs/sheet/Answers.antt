-- `tile_codes::sheet` meets its contract: the bytes of a sheet's tiles, or the line `bad`, at the start of out, and how many they are.
use Prim.Native.Nat.{ℕ, ◌*◌, ◌/◌}
use mathlib.Core.Path.{◌≡◌, refl, sym, ap, ◌∙◌}
use mathlib.Core.Bool.{true}
use native.Mathlib.Omega.{arith}
use lib.ListN.{length}
use Rattle.tile_codes.specs.Sheet.{is_sheet}
use Rattle.tile_codes.proofs.Sheets.{sheet_most, sheet_none, sheet_step, is_bad, is_good, good_counted}
use Rattle.tile_codes.proofs.sheet.Goals as goal

pub loop-n-init : goal.loop-n-init
loop-n-init c =
    (sheet_none c.args.out.now c.args.input.now, refl)

pub put_tile-requires : goal.put_tile-requires
put_tile-requires c =
    let good : is_sheet c.args.input.now ≡ true = sym c.is_sheet.ensures ∙ c.if-not-is_sheet.false in
    let most = sheet_most c.args.input.now good in
    (omega arith, omega arith)

pub loop-n-preserved : goal.loop-n-preserved
loop-n-preserved c =
    let a = c.args in
    let l = c.loop-n in
    let good : is_sheet a.input.now ≡ true = sym c.is_sheet.ensures ∙ c.if-not-is_sheet.false in
    let most = sheet_most a.input.now good in
    (sheet_step a.out.now a.input.now l.n (omega arith) l.invariant.0 c.put_tile.ensures, omega arith)

pub returns-clause-sheet_leaves : goal.returns-clause-sheet_leaves
returns-clause-sheet_leaves c =
    let a = c.args in
    let l = c.loop-n in
    let good : is_sheet a.input.now ≡ true = sym c.is_sheet.ensures ∙ c.if-not-is_sheet.false in
    let all : l.n ≡ length a.input.now / 64 = omega arith in
    is_good a.input.now a.out.now c.if-out-lt8192.false good all (ap (λ (n : ℕ). 32 * n) (sym all)) l.invariant.0

pub returns-clause-upper_bound : goal.returns-clause-upper_bound
returns-clause-upper_bound c =
    let a = c.args in
    let l = c.loop-n in
    let good : is_sheet a.input.now ≡ true = sym c.is_sheet.ensures ∙ c.if-not-is_sheet.false in
    let all : l.n ≡ length a.input.now / 64 = omega arith in
    good_counted a.input.now a.out.now
    c.if-out-lt8192.false good all (ap (λ (n : ℕ). 32 * n) (sym all)) l.invariant.0

pub returns-then-not-is_sheet-clause-sheet_leaves : goal.returns-then-not-is_sheet-clause-sheet_leaves
returns-then-not-is_sheet-clause-sheet_leaves c =
    let a = c.args in
    let bad = sym c.is_sheet.ensures ∙ c.if-not-is_sheet.true in
    is_bad a.input.now a.out.now c.if-out-lt8192.false bad refl (rw c.copy_from_slice.ensures.after)
