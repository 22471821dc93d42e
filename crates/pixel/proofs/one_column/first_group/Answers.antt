-- `pixel::one_column::first_group` meets its contract: where the search of the list may begin: behind the first sixteens with no sprite on the line.
use Rattle.std.proofs.Common.{◌≡◌, ◌+◌, ◌≤◌, ap, ◌∙◌, arith}
use Rattle.laws.specs.Lists.{at}
use Rattle.picture.specs.Picture.{table_at}
use Rattle.pixel.proofs.Laws.{clear_is, clear_all}
use Rattle.pixel.proofs.one_column.first_group.Goals as goal

pub loop-n-preserved : goal.loop-n-preserved
loop-n-preserved c =
    let a = c.args in
    let n = c.loop-n.n in
    let t : c.none_of.result ≡ _ = c.if-not-none_of.false in
    let h : n + 16 ≤ 64 = omega (arith, c.loop-n-test.true, c.loop-n.invariant.1) in (
      omega arith,
      omega (arith, c.loop-n.invariant.1),
      c.loop-n.invariant.2,
      λ g te le.
          c.loop-n.invariant.3 g te le ∙ clear_all (at a.vram.now) g a.line n 16 c.requires.3 h
          (λ i j.
          let e : a.table + n + i ≡ table_at g + (n + i) = omega (arith, te) in
          clear_is c.loop-n.invariant.2 le (ap (at a.vram.now) e) (c.none_of.ensures t i j)),
    )
