use Rattle.dv_shares.specs.declared.change.Change.TheVariants.{AddDirect, AddInherited}
use Rattle.dv_shares.proofs.Results.{regrants-made}
use Rattle.dv_shares.proofs.sharing.grant.Goals as goal

pub returns-in-Ok-clause-each : goal.returns-in-Ok-clause-each
returns-in-Ok-clause-each c = regrants-made c.args.set.now c.args.target c.args.principal (AddDirect c.args.mask) (AddInherited c.args.mask) c.args.store.now c.add.new.store c.in-Ok.ensures.ok
