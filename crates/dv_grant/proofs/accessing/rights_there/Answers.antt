use Rattle.std.proofs.Common.{subst}
use Rattle.dv_store.specs.Cursors.{told_of}
use Rattle.dv_access.specs.Permitted.{AreRights}
use Rattle.dv_grant.proofs.accessing.rights_there.Goals as goal

pub returns : goal.returns
returns c =
    let target = c.args.target.now in
    subst (λ user. AreRights target.scene.directory.now (told_of c.args.store.now.present) user target.number target.id c.rights.result) c.unwrap_or-asked.ensures c.rights.ensures.sum
