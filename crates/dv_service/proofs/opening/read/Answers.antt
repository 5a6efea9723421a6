use Rattle.std.proofs.Common.{refl, sym, ◌∙◌, ap, Some, option_map}
use Rattle.std.specs.Str.{chars}
use Rattle.dv_schema.specs.declared.fault.DefFault.TheVariants.{Bad}
use Rattle.dv_service.specs.Opening.{faulty}
use Rattle.dv_service.proofs.Faults.{bad_kind, bad_place, same_error, bad_not_memory, word_chars}
use Rattle.dv_service.proofs.opening.read.Goals as goal

pub returns-in_ok-kind-in-Err-Bad-clause-bad : goal.returns-in_ok-kind-in-Err-Bad-clause-bad
returns-in_ok-kind-in-Err-Bad-clause-bad c = λ whole held kind place is.
    let bad = same_error _ _ is in
    faulty c.in-Some.bytes.now c.in-Err-Bad.kind (sym held ∙ ap (option_map (λ line. line.now)) c.in-Some.is)
    (c.in-Err-Bad.ensures.refused (bad_not_memory _ _ _ c.in-Err-Bad.field-0-is) ∙ ap Some c.in-Err-Bad.field-0-is ∙ ap (λ p. Some (Bad c.in-Err-Bad.kind p)) (bad_place _ _ _ _ bad))
    (sym (bad_kind _ _ _ _ bad) ∙ c.in_ok-kind-in-Err-Bad.ensures ∙ ap chars c.kind_word.ensures ∙ word_chars c.in-Err-Bad.kind)

pub whole_fault-requires : goal.whole_fault-requires
unfolding chars
whole_fault-requires c = refl
