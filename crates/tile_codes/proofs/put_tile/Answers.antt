-- `tile_codes::put_tile` meets its contract: the 32 bytes of the tile whose codes start at `from`, into dst at `to`.
use Prim.Native.Nat.{◌+◌, ◌<◌}
use mathlib.Core.Path.{◌≡◌, refl, ◌∙◌}
use native.Mathlib.Omega.{arith}
use lib.ListN.{length, length-set}
use Rattle.laws.specs.Lists.{at}
use Rattle.laws.proofs.Lists.{fill_step, written_whole}
use Rattle.tile_codes.specs.Tiles.{tile_bytes}
use Rattle.tile_codes.proofs.Loops.{tile_long, plane_is}
use Rattle.tile_codes.proofs.put_tile.Goals as goal

pub loop-j-preserved : goal.loop-j-preserved
loop-j-preserved c =
    let a = c.args in
    let l = c.loop-j in
    let s = tile_bytes (λ k. at a.codes.now (a.from + k)) in
    let h : l.j < length s = omega (arith, tile_long (λ k. at a.codes.now (a.from + k))) in (
      fill_step a.dst.now a.to s l.j (omega arith) h refl
          (plane_is a.codes.now a.from l.j (omega arith) c.plane_byte.ensures) l.invariant.0,
      simp length-set l.invariant.1,
    )

pub returns : goal.returns
returns c =
    let a = c.args in
    let l = c.loop-j in
    let s = tile_bytes (λ k. at a.codes.now (a.from + k)) in
    let e : l.j ≡ length s = omega (arith, tile_long (λ k. at a.codes.now (a.from + k))) in
    l.invariant.0 ∙ written_whole a.dst.now a.to s e
