use Rattle.std.proofs.Common.{rules, ◌≡◌, Some}
use Rattle.dv_units.specs.Chart.{at}
use Rattle.dv_units.specs.declared.seats.User.{User}
use Rattle.dv_units.proofs.Changes.{user-changed}
use Rattle.dv_units.proofs.units.Units.set_enabled.Goals as goal

pub invariant_of-self-2 : goal.invariant_of-self-2
invariant_of-self-2 c =
    let s = c.self.inside in
    let user : User = record { unit = c.in-Some.found.unit; enabled = c.args.enabled } in
    let found : at s.users.entries c.args.user ≡ Some c.in-Some.found = search rules in
    user-changed s.units.entries s.users.entries s.teams.entries s.members.keys s.joined.keys c.self.invariant c.put.new.list.entries c.args.user user c.in_ok-put.ensures.gets
    (search rules) (c.self.invariant.rules.user_unit c.args.user c.in-Some.found found) c.in_ok-put.ensures.len
