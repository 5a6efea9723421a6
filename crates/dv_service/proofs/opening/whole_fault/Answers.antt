use Rattle.std.proofs.Common.{sym, ◌∙◌}
use Rattle.dv_service.proofs.Faults.{bad_kind, bad_place}
use Rattle.dv_service.proofs.opening.whole_fault.Goals as goal

pub returns-in-Ok : goal.returns-in-Ok
returns-in-Ok c = λ named place is. (sym (bad_kind _ _ _ _ is) ∙ c.in-Ok.ensures ∙ c.requires, sym (bad_place _ _ _ _ is) ∙ c.new.ensures)
