use Rattle.std.proofs.Common.{◌≡◌, refl, sym, subst, ap, arith, Ok, Err, FitsSigned, w64}
use Rattle.std.proofs.lemmas.Int.{to_z-of_z}
use Rattle.std.proofs.lemmas.Result.{IfOk-weaker}
use Rattle.dv_work.specs.History.{History, Extends}
use Rattle.dv_store.specs.World.{World}
use Rattle.dv_pipeline.specs.Run.{Runs}
use Rattle.dv_service.proofs.org.run_printed.Goals as goal

-- a store that was kept goes on from itself
Extends-same : (old new : History World) → new ≡ old → Extends old new
Extends-same old new is = subst (λ h. Extends old h) (sym is) (record { longer = omega arith; back = λ mark within. refl })

pub returns-in-Ok-clause-ok : goal.returns-in-Ok-clause-ok
returns-in-Ok-clause-ok c =
    let fits : FitsSigned w64 c.args.now = c.ranges.now in
    let runs = simp to_z-of_z at c.in-Ok.ensures.ok in
    IfOk-weaker c.reply_line.result _ _ (λ line e. (Ok c.in-Ok.reply, runs, e)) c.reply_line.ensures

pub returns-in-Ok-clause-extends : goal.returns-in-Ok-clause-extends
returns-in-Ok-clause-extends c = c.in-Ok.ensures.extends

pub returns-in-Err-Refused-clause-ok : goal.returns-in-Err-Refused-clause-ok
returns-in-Err-Refused-clause-ok c =
    let fits : FitsSigned w64 c.args.now = c.ranges.now in
    let runs = simp to_z-of_z at (c.in-Err-Refused.ensures.refused c.in-Err-Refused.refusal (ap Err c.in-Err-Refused.field-0-is)) in
    IfOk-weaker c.refusal_line.result _ _ (λ line e. (
      Err c.in-Err-Refused.refusal,
      subst (λ store. Runs c.args.definition.now c.args.directory.now c.args.store.now.present c.args.user c.args.now c.args.request.now store.present (Err c.in-Err-Refused.refusal))
          (sym c.in-Err-Refused.ensures.kept) runs,
      e,
    )) c.refusal_line.ensures

pub returns-in-Err-Refused-clause-extends : goal.returns-in-Err-Refused-clause-extends
returns-in-Err-Refused-clause-extends c = Extends-same _ _ c.in-Err-Refused.ensures.kept

pub returns-in-Err-OutOfMemory-clause-ok : goal.returns-in-Err-OutOfMemory-clause-ok
returns-in-Err-OutOfMemory-clause-ok c = tt

pub returns-in-Err-OutOfMemory-clause-extends : goal.returns-in-Err-OutOfMemory-clause-extends
returns-in-Err-OutOfMemory-clause-extends c = Extends-same _ _ c.in-Err-OutOfMemory.ensures.kept
