-- `row::points_run::layer_row_points` meets its contract: the same, with the row's layers.
use mathlib.Core.Path.{refl}
use lib.ListN.{length}
use Rattle.points.specs.Points.{reading, row_lines}
use Rattle.picture.specs.Screen.{columns}
use Rattle.points.specs.Bytes.{also_layers}
use Rattle.row.proofs.Steps.{finished, owned, row_filled_lem, row_layers_fit}
use Rattle.row.proofs.points_run.layer_row_points.Goals as goal

pub draw-bits-requires : goal.draw-bits-requires
draw-bits-requires c =
    row_layers_fit c.args.screen c.args.reg c.args.raster c.args.vram.now (length c.args.row.now)
    (columns c.args.screen) (length c.args.layers.now)
    (c.layer_due-due.ensures.value_2 (row_lines c.args.screen c.args.vram.now (length c.args.row.now))
    c.args.reg c.row_due-plain.ensures)

pub returns : goal.returns
returns c =
    let e = c.layer_due-due.ensures.value_2 (row_lines c.args.screen c.args.vram.now (length c.args.row.now))
    c.args.reg c.row_due-plain.ensures in
    let also = (also_layers (columns c.args.screen) (length c.args.layers.now)
    (row_lines c.args.screen c.args.vram.now (length c.args.row.now))) in
    let k = (reading c.args.reg c.args.raster c.args.status c.args.colours.now) in
    record {
      points = record {
        answer = finished also c.args.screen c.args.vram.now k e c.finish.ensures c.draw-bits.ensures.value;
        bytes = row_filled_lem also c.args.screen c.args.vram.now k e (λ y z. refl) c.args.row.now
            c.draw-bits.ensures.row_after;
      };
      owners = owned also c.args.screen c.args.vram.now k e c.args.layers.now
          c.draw-bits.ensures.layers_after;
    }
