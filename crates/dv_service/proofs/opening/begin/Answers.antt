use Rattle.std.proofs.Common.{◌∙◌, sym, subst, ap, Err}
use Rattle.std.proofs.lemmas.Result.{IfOk-weaker}
use Rattle.dv_meta.specs.Reader.{IsAccepted}
use Rattle.dv_roles.specs.Beginning.{beginning}
use Rattle.dv_store.specs.World.{empty}
use Rattle.dv_service.specs.Opening.{has_later, later}
use Rattle.dv_service.proofs.Faults.{same_error}
use Rattle.dv_service.proofs.opening.begin.Goals as goal

pub returns-in-Ok-clause-ok : goal.returns-in-Ok-clause-ok
returns-in-Ok-clause-ok c = λ whole held.
    let got = c.in-Ok.ensures.ok whole held in
    IfOk-weaker c.begin_with.result _ _ (λ org e. record {
      bytes = got.0;
      short = got.1;
      accepted = subst (IsAccepted got.0 0) (sym e.0) got.2;
      built = ap has_later e.0 ∙ e.1;
      directory = ap beginning e.0 ∙ e.2;
      begun = ap (λ world. record { definition = org.definition; directory = org.directory; world = world }) (e.3 ∙ ap empty (sym e.0));
    }) c.begin_with.ensures.ok

pub returns-in-Ok-clause-bad : goal.returns-in-Ok-clause-bad
returns-in-Ok-clause-bad c = λ whole held kind place is.
    let got = c.in-Ok.ensures.ok whole held in
    let why = c.begin_with.ensures.bad kind place is in
    later got.0 c.in-Ok.definition got.1 got.2 why.0 why.1 why.2

pub returns-in-Err-clause-bad : goal.returns-in-Err-clause-bad
returns-in-Err-clause-bad c = λ whole held kind place is. c.in-Err.ensures.bad whole held kind place (ap Err (same_error _ _ is))
