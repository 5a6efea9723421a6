use Rattle.std.proofs.Common.{sym}
use Rattle.dv_write.proofs.Settled.{limit_alike, moved_owned, stays}
use Rattle.dv_write.proofs.moving.settle.Goals as goal

pub returns-then-not-is_moved-clause-limit : goal.returns-then-not-is_moved-clause-limit
returns-then-not-is_moved-clause-limit c =
    let w = c.args.store.now.present in
    (w, stays c.args.definition.now c.args.key c.args.before w (sym c.if-not-is_moved.ensures), λ within. within)

pub hand_on-requires-clause-owned : goal.hand_on-requires-clause-owned
hand_on-requires-clause-owned c = moved_owned c.args.definition.now c.args.key c.args.before c.args.store.now.present c.requires.sound (sym c.if-not-is_moved.ensures)

pub returns-clause-limit : goal.returns-clause-limit
returns-clause-limit c = limit_alike c.args.definition.now c.args.key c.args.before c.args.store.now.present (sym c.if-not-is_moved.ensures) c.hand_on.result c.hand_on.ensures.limit
