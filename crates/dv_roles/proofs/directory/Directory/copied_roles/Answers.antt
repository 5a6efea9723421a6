use Rattle.std.proofs.Common.{◌≡◌, ◌∙◌, ap, rules, Some, None, ◌^◌}
use Rattle.dv_units.specs.Chart.{put}
use Rattle.dv_units.specs.Cursors.{next_entry, is_past}
use Rattle.dv_roles.proofs.CopyLaws.{up_to-none, up_to-more, up_to-all, found-passes}
use Rattle.dv_roles.proofs.Least.{most_after-past}
use Rattle.dv_roles.proofs.directory.Directory.copied_roles.Goals as goal

pub roles-init : goal.roles-init
roles-init c = c.new-copy.ensures.empty ∙ up_to-none c.args.self.now.roles

pub roles-smaller : goal.roles-smaller
roles-smaller c =
    let es = c.args.self.now.roles in
    let found : next_entry c.roles.after es ≡ Some (c.in-Some.id, c.in-Some.role.now) = search rules in
    most_after-past (2 ^ 128) c.roles.after c.in-Some.id (found-passes (λ e. is_past c.roles.after e.0) es (c.in-Some.id, c.in-Some.role.now) found) (search rules)

pub roles-preserved : goal.roles-preserved
roles-preserved c =
    let es = c.args.self.now.roles in
    let id = c.in-Some.id in
    let role = c.in-Some.role.now in
    let found : next_entry c.roles.after es ≡ Some (id, role) = search rules in
    c.in_ok-put.ensures.ok ∙ ap (λ r. put c.roles.copy.entries id r) c.in_ok-role.ensures ∙ ap (λ xs. put xs id role) c.roles.invariant
    ∙ up_to-more es c.in-Some.ensures.ascends c.roles.after id role found

pub returns : goal.returns
returns c =
    let es = c.args.self.now.roles in
    let found : next_entry c.roles.after es ≡ None = search rules in
    c.roles.invariant ∙ up_to-all es c.roles.after found
