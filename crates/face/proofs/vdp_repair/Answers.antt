-- `face::vdp_repair` meets its contract: a damaged block mended, and the changed offsets at the start of the list.
use mathlib.Core.Path.{sym, ap, ◌∙◌}
use Rattle.face.specs.Face.{counted_word}
use Rattle.face.proofs.Repairs.{repair_kept}
use Rattle.face.proofs.vdp_repair.Goals as goal

pub returns-in-Ok : goal.returns-in-Ok
returns-in-Ok c =
    repair_kept c.args.state.now c.args.list.now c.repair.ensures.repair_leaves (sym (ap counted_word c.in-Ok.is))

pub returns-in-Err : goal.returns-in-Err
returns-in-Err c =
    repair_kept c.args.state.now c.args.list.now c.repair.ensures.repair_leaves (c.number.ensures.0 ∙ sym (ap counted_word c.in-Err.is))
