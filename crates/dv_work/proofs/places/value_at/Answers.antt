use Rattle.std.proofs.Common.{ap, sym, ◌∙◌}
use Rattle.dv_work.proofs.PlaceLaws.{value_at-entries_of}
use Rattle.dv_work.specs.Journal.{value_in}
use Rattle.dv_work.proofs.places.value_at.Goals as goal

pub returns-in-Some-clause-value : goal.returns-in-Some-clause-value
returns-in-Some-clause-value g c = c.as_ref.ensures.value ∙ ap value_in c.in-Some.ensures.value ∙ sym (value_at-entries_of g.met.K.Ord.total c.args.key.now c.args.places.now.entries c.len-ordered.ensures.ordered)

pub returns-in-None-clause-value : goal.returns-in-None-clause-value
returns-in-None-clause-value g c = ap value_in c.in-None.ensures.value ∙ sym (value_at-entries_of g.met.K.Ord.total c.args.key.now c.args.places.now.entries c.len-ordered.ensures.ordered)
