use Rattle.std.proofs.Common.{refl, sym, ◌∙◌, ap, Ok}
use Rattle.std.proofs.lemmas.Result.{IfOk-weaker}
use Rattle.std.specs.Str.{chars}
use Rattle.dv_service.proofs.OpensWell.{opens_well}
use Rattle.dv_service.proofs.Faults.{same_error, only_memory}
use Rattle.dv_service.proofs.opening.begin_with.Goals as goal

pub returns-then-has_later-clause-ok : goal.returns-then-has_later-clause-ok
returns-then-has_later-clause-ok c = tt

pub returns-then-has_later-clause-bad : goal.returns-then-has_later-clause-bad
returns-then-has_later-clause-bad c = λ kind place is.
    let both = c.whole_fault.ensures kind place (same_error _ _ is) in
    (sym c.has_later.ensures ∙ c.if-has_later.true, both.0, both.1)

pub returns-in-Ok-clause-ok : goal.returns-in-Ok-clause-ok
returns-in-Ok-clause-ok c = IfOk-weaker c.begun.result _ _ (λ org e. (
  e.0,
  sym c.has_later.ensures ∙ c.if-has_later.false,
  c.in-Ok.ensures.ok ∙ ap Ok (sym e.1),
  e.2,
)) c.begun.ensures.begun

pub returns-in-Ok-clause-bad : goal.returns-in-Ok-clause-bad
returns-in-Ok-clause-bad c = λ kind place is. absurd (only_memory c.begun.result kind place c.begun.ensures.memory is)

pub unreachable-requires : goal.unreachable-requires
unreachable-requires c =
    let memory = c.in-Err-Refused.ensures.never (opens_well c.requires.accepted.0 c.args.definition c.requires.accepted.1) in
    absurd (cc)

pub whole_fault-requires : goal.whole_fault-requires
unfolding chars
whole_fault-requires c = refl
