use Rattle.dv_cascade.proofs.Least.{has-target, is-closed, is-least}
use Rattle.dv_cascade.proofs.laws.a_closure_is_the_least_closed_set.Goals as goal

pub returns : goal.returns
returns c = record { target = has-target; closed = is-closed; least = is-least }
