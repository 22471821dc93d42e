-- `trace_run::layer_turn` meets its contract: a step of an area of the visible size, whose layers the frame shows.
use mathlib.Core.Path.{refl, ap}
use lib.ListN.{replicate}
use Rattle.points.specs.declared.Stepped.{Stepped}
use Rattle.trace_run.specs.Run.{held}
use Rattle.trace_run.proofs.Turns.{row_told, layer_stepped, no_layers}
use Rattle.trace_run.proofs.layer_turn.Goals as goal
use Rattle.vdp.specs.declared.VdpState.{VdpState}

pub paint_layers-requires : goal.paint_layers-requires
paint_layers-requires c =
    let a = c.args in (
      c.requires.2,
      row_told a.area c.requires.3 a.vram.now a.run.device.vdp a.frame.now (replicate 160 0) refl _
          (ap (λ (x : Stepped VdpState). x.row) c.layer_row_step-step.ensures.answer),
    )

pub returns-in-Handheld : goal.returns-in-Handheld
returns-in-Handheld c =
    let a = c.args in
    layer_stepped a.area c.requires.3 (held a.run a.vram.now a.row.now a.frame.now) (replicate 160 0) refl
    c.in-Handheld.is c.layer_row_step-step.ensures
    c.paint_layers.ensures
    c.stepped.ensures

pub returns-in-Home : goal.returns-in-Home
returns-in-Home c =
    let a = c.args in
    no_layers a.area (held a.run a.vram.now a.row.now a.frame.now)
    c.in-Home.is (c.row_step_turn.ensures a.frame.now)
