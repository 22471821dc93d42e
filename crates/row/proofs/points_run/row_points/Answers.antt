-- `row::points_run::row_points` meets its contract: the points of a step whose row goes to the row buffer.
use mathlib.Core.Path.{refl}
use lib.ListN.{length}
use Rattle.points.specs.Points.{reading, row_lines}
use Rattle.row.proofs.Steps.{finished, row_filled_lem, row_due_fits}
use Rattle.row.proofs.points_run.row_points.Goals as goal

pub draw-bits-requires : goal.draw-bits-requires
draw-bits-requires c =
    row_due_fits c.args.screen c.args.reg c.args.raster c.args.vram.now (length c.args.row.now)
    c.row_due-due.ensures

pub returns : goal.returns
returns c =
    record {
      answer = finished (row_lines c.args.screen c.args.vram.now (length c.args.row.now)) c.args.screen
          c.args.vram.now (reading c.args.reg c.args.raster c.args.status c.args.colours.now)
          c.row_due-due.ensures c.finish.ensures c.draw-bits.ensures.value;
      bytes = row_filled_lem (row_lines c.args.screen c.args.vram.now (length c.args.row.now)) c.args.screen
          c.args.vram.now (reading c.args.reg c.args.raster c.args.status c.args.colours.now)
          c.row_due-due.ensures (λ y e. refl) c.args.row.now c.draw-bits.ensures.row_after;
    }
