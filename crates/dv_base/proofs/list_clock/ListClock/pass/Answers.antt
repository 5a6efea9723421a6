use Rattle.std.proofs.Common.{refl}
use Rattle.std.proofs.lemmas.List.{drop-drop}
use Rattle.dv_base.proofs.list_clock.ListClock.pass.Goals as goal

pub returns-then-self-len-clause-moments : goal.returns-then-self-len-clause-moments
returns-then-self-len-clause-moments c =
    rw (← c.self.view_is, drop-drop 1 c.self.inside.at c.self.inside.moments.items) refl
