use Rattle.std.proofs.Common.{◌≡◌, sym, rules, true}
use Rattle.dv_units.specs.Chart.{has}
use Rattle.dv_roles.specs.State.{administrator}
use Rattle.dv_roles.proofs.GiftLaws.{is_other, has_other_admin-some, has_other_admin-none}
use Rattle.dv_roles.proofs.Least.{least-there, none-there}
use Rattle.dv_roles.proofs.directory.Directory.has_other_admin.Goals as goal

pub returns-then-is_enabled : goal.returns-then-is_enabled
returns-then-is_enabled c =
    let d = c.args.self.now in
    let admin = c.in-Some.admin in
    let other : is_other d c.args.user admin ≡ true = search rules in
    sym (has_other_admin-some d c.args.user admin (least-there (λ id. has d.gifts (id, administrator)) c.admins.after admin c.in-Some.ensures) other)

pub returns : goal.returns
returns c =
    let d = c.args.self.now in
    sym (has_other_admin-none d c.args.user (none-there (λ id. has d.gifts (id, administrator)) (is_other d c.args.user) c.admins.after c.admins.invariant c.in_default.ensures))
