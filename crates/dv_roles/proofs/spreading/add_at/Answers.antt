use Rattle.std.proofs.Common.{rules, sym, ◌∙◌}
use Rattle.dv_roles.proofs.Kept.{kept_at-no_table, kept_at-nothing, kept_at-one}
use Rattle.dv_roles.proofs.spreading.add_at.Goals as goal

pub returns-in_default : goal.returns-in_default
returns-in_default c = kept_at-no_table c.args.kept.now c.args.tables.now c.args.entries.now c.args.action c.args.number (search rules)

pub returns-in_ok-push : goal.returns-in_ok-push
returns-in_ok-push c = c.in_ok-push.ensures.ok ∙ kept_at-one c.args.kept.now c.args.tables.now c.args.entries.now c.args.action c.args.number c.in-Some.table.now c.in-Some-greatest.depth (sym c.in-Some.ensures) (search rules)

pub returns-in_default-greatest : goal.returns-in_default-greatest
returns-in_default-greatest c = kept_at-nothing c.args.kept.now c.args.tables.now c.args.entries.now c.args.action c.args.number c.in-Some.table.now (sym c.in-Some.ensures) (search rules)
