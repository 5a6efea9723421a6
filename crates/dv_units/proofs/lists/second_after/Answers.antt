use Rattle.std.proofs.Common.{sym, ◌∙◌}
use Rattle.dv_units.specs.Chart.{has}
use Rattle.dv_units.proofs.TeamLaws.{least-of_all}
use Rattle.dv_units.proofs.lists.second_after.Goals as goal

pub returns : goal.returns
returns c =
    let pairs = c.args.pairs.now.keys in
    rw c.in_default.is (least-of_all (λ id. has pairs (c.args.first, id)) c.second_past-2.result (sym c.contains.ensures ∙ c.if-contains.false) c.second_past-2.ensures)
