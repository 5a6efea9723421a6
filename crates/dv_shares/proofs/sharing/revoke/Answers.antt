use Rattle.dv_shares.specs.declared.change.Change.TheVariants.{Clear, ClearInherited}
use Rattle.dv_shares.proofs.Results.{regrants-made}
use Rattle.dv_shares.proofs.sharing.revoke.Goals as goal

pub returns-in-Ok-clause-each : goal.returns-in-Ok-clause-each
returns-in-Ok-clause-each c = regrants-made c.args.set.now c.args.target c.args.principal Clear ClearInherited c.args.store.now c.clear.new.store c.in-Ok.ensures.ok
