use Rattle.std.proofs.Common.{rules, subst, sym, ◌≡◌, true}
use Rattle.dv_units.specs.Chart.{Chart, is_unit}
use Rattle.dv_units.specs.declared.seats.User.{User}
use Rattle.dv_units.proofs.Changes.{user-changed}
use Rattle.dv_units.proofs.units.Units.move_user.Goals as goal

pub invariant_of-self-2 : goal.invariant_of-self-2
invariant_of-self-2 c =
    let s = c.self.inside in
    let user : User = record { unit = c.args.unit; enabled = c.in-Some.found.enabled } in
    let there : is_unit c.args.self.now c.args.unit ≡ true = search rules in
    user-changed s.units.entries s.users.entries s.teams.entries s.members.keys s.joined.keys c.self.invariant c.put.new.list.entries c.args.user user c.in_ok-put.ensures.gets
    (search rules) (subst (λ (x : Chart). is_unit x c.args.unit ≡ true) (sym c.self.view_is) there) c.in_ok-put.ensures.len
