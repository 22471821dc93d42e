-- `look::layer_frame_points` meets its contract: the same, with the row's layers.
use mathlib.Core.Path.{refl}
use lib.ListN.{length}
use Rattle.points.specs.Points.{reading, frame_lines}
use Rattle.picture.specs.Screen.{columns}
use Rattle.points.specs.Bytes.{also_layers}
use Rattle.row.proofs.Steps.{finished, owned, frame-filled, frame-layers_fit}
use Rattle.look.proofs.layer_frame_points.Goals as goal

pub draw_in-bits-requires : goal.draw_in-bits-requires
draw_in-bits-requires c =
    frame-layers_fit c.args.screen c.args.reg c.args.raster c.args.vram.now (length c.args.frame.now)
    (columns c.args.screen) (length c.args.layers.now)
    (c.layer_due-due.ensures.value_2 (frame_lines c.args.screen c.args.vram.now (length c.args.frame.now))
    c.args.reg c.frame_due-plain.ensures)

pub returns : goal.returns
returns c =
    let e = c.layer_due-due.ensures.value_2 (frame_lines c.args.screen c.args.vram.now (length c.args.frame.now))
    c.args.reg c.frame_due-plain.ensures in
    let also = (also_layers (columns c.args.screen) (length c.args.layers.now)
    (frame_lines c.args.screen c.args.vram.now (length c.args.frame.now))) in
    let k = (reading c.args.reg c.args.raster c.args.status c.args.colours.now) in
    record {
      points = record {
        answer = finished also c.args.screen c.args.vram.now k e c.finish.ensures c.draw_in-bits.ensures.value;
        bytes = frame-filled also c.args.screen c.args.vram.now k e (λ y z. refl) c.args.frame.now
            c.draw_in-bits.ensures.frame_after;
      };
      owners = owned also c.args.screen c.args.vram.now k e c.args.layers.now
          c.draw_in-bits.ensures.layers_after;
    }
