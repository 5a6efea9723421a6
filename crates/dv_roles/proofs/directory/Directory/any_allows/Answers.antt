use Rattle.std.proofs.Common.{sym, ◌∙◌}
use Rattle.dv_units.specs.Chart.{has}
use Rattle.dv_roles.specs.Held.{allows}
use Rattle.dv_roles.proofs.GiftLaws.{any_allows-some, any_allows-none}
use Rattle.dv_roles.proofs.Least.{least-there, none-there}
use Rattle.dv_roles.proofs.directory.Directory.any_allows.Goals as goal

pub returns-then-allows : goal.returns-then-allows
returns-then-allows c =
    let d = c.args.self.now in
    let role = c.in-Some.role in
    sym (any_allows-some d c.args.asked c.args.principal role (least-there (λ id. has d.gifts (c.args.principal, id)) c.roles.after role c.in-Some.ensures) (sym c.allows.ensures ∙ c.if-allows.true))

pub returns : goal.returns
returns c =
    let d = c.args.self.now in
    sym (any_allows-none d c.args.asked c.args.principal (none-there (λ id. has d.gifts (c.args.principal, id)) (allows d c.args.asked) c.roles.after c.roles.invariant c.in_default.ensures))
