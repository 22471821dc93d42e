-- `trace_record::put_all` meets its contract: the bytes of src into out at `at`, and the place behind them.
use Rattle.std.proofs.Common.{length, arith, refl, ◌∙◌}
use Rattle.std.proofs.lemmas.Slice.{put_mid-paste}
use Rattle.laws.proofs.Lists.{written_whole}
use Rattle.trace_record.proofs.put_all.Goals as goal

pub returns-clause-out_after : goal.returns-clause-out_after
returns-clause-out_after c =
    let a = c.args in
    put_mid-paste a.at _ a.out.now c.copy_from_slice.new.self a.src.now (length a.src.now) c.copy_from_slice.ensures.after (omega arith) refl
    ∙ written_whole a.out.now a.at a.src.now refl
