-- `tile::sprite_whole` meets its contract: the whole line at addr, all of it in the row: what it marks and draws are made as bytes first.
use borrow.Author.Rules.{rules}
use native.Mathlib.Omega.{arith}
use mathlib.Core.Path.{◌≡◌, sym, ap, ◌∙◌}
use mathlib.Core.Bool.{false}
use Prim.Native.Nat.{◌+◌, ◌<◌}
use native.Mathlib.Nat.{zero-add}
use lib.Dec.{ltb}
use Rattle.laws.specs.Bits.{bit}
use Rattle.laws.specs.Lists.{at}
use Rattle.laws.proofs.Bits.{number_lt}
use Rattle.picture.specs.Tile.{code_at}
use Rattle.picture.specs.Picture.{solid}
use Rattle.tile.specs.Line.{colours_in}
use Rattle.tile.proofs.Whole.{lane_at, lane_low, overlaid_cong, draw_at, marks_are, drawn_are, held_are, whole_room, whole-solid}
use Rattle.tile.proofs.sprite_whole.Goals as goal

pub overlay-requires : goal.overlay-requires
overlay-requires c =
    let a = c.args in
    (c.requires.1, omega arith, search rules, lane_low a.vram.now a.addr false c.line_of-line.ensures.codes_value)

pub returns-clause-row_after : goal.returns-clause-row_after
returns-clause-row_after c =
    let a = c.args in
    let v = a.vram.now in
    let b = c.line_of-line.result.solids in
    let e : (k : _) → k < 8 → bit b k ≡ solid 0 8 (code_at (at v) a.addr) k = λ k h. whole-solid v a.addr k h c.line_of-line.ensures.solids_value in
    let er : (k : _) → k < 8 → bit 255 k ≡ ltb (a.x + k) a.width = λ k h. whole_room a.width a.x k c.requires.2 h in
    let hb : b < 256 = rw c.line_of-line.ensures.solids_value (number_lt 8 _) in
    let hh = c.ranges.held.fits in
    let ht = c.ranges.taken.fits in
    let f = c.fates-columns.ensures in
    c.overlay.ensures
    ∙ overlaid_cong _ _ 8 _ _ _ _ (λ k h. ap (λ n. bit n k) f.1 ∙ draw_at v a.addr 0 8 a.held a.taken a.width a.x b 255 hh ht
    hb e er k h)
    (λ k h. ap (λ i. at (colours_in a.table.now) (16 + i)) (lane_at v a.addr false c.line_of-line.ensures.codes_value k h
    ∙ ap (code_at (at v) a.addr) (sym (zero-add k))))

pub returns-clause-marks_value : goal.returns-clause-marks_value
returns-clause-marks_value c =
    let a = c.args in
    let v = a.vram.now in
    let b = c.line_of-line.result.solids in
    let e : (k : _) → k < 8 → bit b k ≡ solid 0 8 (code_at (at v) a.addr) k = λ k h. whole-solid v a.addr k h c.line_of-line.ensures.solids_value in
    let er : (k : _) → k < 8 → bit 255 k ≡ ltb (a.x + k) a.width = λ k h. whole_room a.width a.x k c.requires.2 h in
    let hb : b < 256 = rw c.line_of-line.ensures.solids_value (number_lt 8 _) in
    let hh = c.ranges.held.fits in
    let ht = c.ranges.taken.fits in
    let f = c.fates-columns.ensures in (
      f.0 ∙ marks_are v a.addr 0 8 a.held a.taken a.width a.x b 255 hh ht hb e er,
      f.1 ∙ drawn_are v a.addr 0 8 a.held a.taken a.width a.x b 255 hh ht hb e er,
      f.2 ∙ held_are v a.addr 0 8 a.held a.taken a.width a.x b 255 hh ht hb e er,
    )
