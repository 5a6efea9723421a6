use Rattle.std.proofs.Common.{sym, ap, ◌∙◌}
use Rattle.std.specs.Prelude.{option_and_then}
use Rattle.dv_meta.specs.Numbers.{number_in, lookup_in}
use Rattle.dv_meta.proofs.NumbersLaws.{is_at-same_name}
use Rattle.dv_meta.proofs.index.names.Lookups.take.Goals as goal

pub returns-in-Some-clause-taken : goal.returns-in-Some-clause-taken
unfolding lookup_in
returns-in-Some-clause-taken c = λ q. sym (ap (option_and_then (λ numbers. number_in numbers q)) (sym c.remove.ensures.value ∙ c.in-Some.is))

pub returns-in-Some-clause-others : goal.returns-in-Some-clause-others
unfolding lookup_in
returns-in-Some-clause-others c = λ t q apart. ap (option_and_then (λ numbers. number_in numbers q)) (c.remove.ensures.updates.2 t (is_at-same_name _ t ∙ apart))

pub returns-in-None-clause-taken : goal.returns-in-None-clause-taken
unfolding lookup_in
returns-in-None-clause-taken c = λ q. c.new.ensures q ∙ sym (ap (option_and_then (λ numbers. number_in numbers q)) (sym c.remove.ensures.value ∙ c.in-None.is))

pub returns-in-None-clause-others : goal.returns-in-None-clause-others
unfolding lookup_in
returns-in-None-clause-others c = λ t q apart. ap (option_and_then (λ numbers. number_in numbers q)) (c.remove.ensures.updates.2 t (is_at-same_name _ t ∙ apart))
