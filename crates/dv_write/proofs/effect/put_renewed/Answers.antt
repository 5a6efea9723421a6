use Rattle.std.proofs.Common.{◌≡◌, subst}
use Rattle.std.specs.Prelude.{nat_lt, Err}
use Rattle.dv_refusal.specs.declared.what.What.TheVariants as what
use Rattle.dv_store.specs.World.{row_put, row_total, most_rows}
use Rattle.dv_message.specs.Checked.{Answers}
use Rattle.dv_write.specs.Effects.{total_limit}
use Rattle.dv_write.proofs.Limits.{told_by_test}
use Rattle.dv_write.proofs.effect.put_renewed.Goals as goal

pub returns-in-Err-clause-limit : goal.returns-in-Err-clause-limit
returns-in-Err-clause-limit c =
    let w = c.args.store.now.present in
    subst (λ row. Answers {T = Unit {0}} (λ said. said ≡ total_limit (row_put w c.args.key row)) (Err c.stop_of.result)) c.carry_version.ensures
    (told_by_test (nat_lt most_rows (row_total (row_put w c.args.key c.carry_version.new.row))) what.Row c.in-Err.fault c.stop_of.result c.in-Err.ensures.err c.stop_of.ensures)
