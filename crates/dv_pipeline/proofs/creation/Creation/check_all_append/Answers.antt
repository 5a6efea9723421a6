use Rattle.std.proofs.Common.{◌+◌, drop, get_or, subst, sym}
use Rattle.std.specs.Prelude.{Err}
use Rattle.dv_schema.specs.declared.opening.Action.TheVariants as action
use Rattle.dv_store.specs.Keys.{row_key}
use Rattle.dv_message.specs.declared.lookups.Naming.{Naming}
use Rattle.dv_message.specs.Checked.{Answers}
use Rattle.dv_message.specs.Lookups.{AppendSays}
use Rattle.dv_message.proofs.Walking.{drop_at}
use Rattle.dv_pipeline.specs.Creating.{creating_in, target_of, NewRight}
use Rattle.dv_write.proofs.Appending.{append_ended}
use Rattle.dv_pipeline.proofs.creation.Creation.check_all_append.Goals as goal

pub returns-in-Err : goal.returns-in-Err
returns-in-Err c =
    let k = creating_in c.args.store.now.present c.args.self.now in
    let named = c.args.named.now in
    let i = c.loop-naming.naming-index in
    let d : Naming = record { relationship = 0; parent = row_key 0 (record { 0 = 0 }) } in
    c.loop-naming.invariant (Err c.in-Err.stop)
    (subst (λ left. Answers {T = Unit {0}} (AppendSays (NewRight k action.Append) (target_of k) left) (Err c.in-Err.stop)) (sym (drop_at named i d c.loop-naming-test.true))
    (append_ended (NewRight k action.Append) (target_of k) (get_or named i d) (drop (i + 1) named) c.in-Err.stop c.in-Err.ensures))
