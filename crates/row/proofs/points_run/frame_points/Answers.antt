-- `row::points_run::frame_points` meets its contract: the points on a frame.
use mathlib.Core.Path.{refl}
use lib.ListN.{length}
use Rattle.points.specs.Points.{reading, frame_lines}
use Rattle.row.proofs.Steps.{finished, frame-filled, frame_due_fits}
use Rattle.row.proofs.points_run.frame_points.Goals as goal

pub draw_in-bits-requires : goal.draw_in-bits-requires
draw_in-bits-requires c =
    frame_due_fits c.args.screen c.args.reg c.args.raster c.args.vram.now (length c.args.frame.now)
    c.frame_due-due.ensures

pub returns : goal.returns
returns c =
    record {
      answer = finished (frame_lines c.args.screen c.args.vram.now (length c.args.frame.now)) c.args.screen
          c.args.vram.now (reading c.args.reg c.args.raster c.args.status c.args.colours.now)
          c.frame_due-due.ensures c.finish.ensures c.draw_in-bits.ensures.value;
      bytes = frame-filled (frame_lines c.args.screen c.args.vram.now (length c.args.frame.now)) c.args.screen
          c.args.vram.now (reading c.args.reg c.args.raster c.args.status c.args.colours.now)
          c.frame_due-due.ensures (λ y e. refl) c.args.frame.now c.draw_in-bits.ensures.frame_after;
    }
