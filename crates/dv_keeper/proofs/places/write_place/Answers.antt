use Rattle.dv_keeper.proofs.WriteLaws.{held_in-insert}
use Rattle.dv_keeper.proofs.places.write_place.Goals as goal

pub returns-clause-held : goal.returns-clause-held
returns-clause-held c = held_in-insert c.insert.result c.args.places.now c.insert.new.self c.args.write c.requires c.insert.ensures.updates c.insert.ensures.absent
