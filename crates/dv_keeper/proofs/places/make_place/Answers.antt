use Rattle.std.proofs.Common.{sym}
use Rattle.dv_keeper.proofs.WriteLaws.{held_in-insert-None}
use Rattle.dv_keeper.proofs.places.make_place.Goals as goal

pub returns-clause-held : goal.returns-clause-held
returns-clause-held c =
    held_in-insert-None c.insert.result c.args.places.now c.insert.new.self c.args.at.now c.contains_key.result (sym c.if-contains_key.false) c.contains_key.ensures
    (rw (← c.in_ok-at.ensures) c.insert.ensures.updates) c.insert.ensures.err
