use Rattle.std.proofs.Common.{Some, None, option_map, refl, sym, ap, ◌∙◌}
use Rattle.dv_query_check.specs.ConditionFaults.{is_told_as, table_aliased}
use Rattle.dv_query_check.proofs.MapLaws.{table_found}
use Rattle.dv_query_check.proofs.conditions.table_aliased.Goals as goal

pub returns-in-Some : goal.returns-in-Some
unfolding table_aliased
returns-in-Some c = table_found (is_told_as c.args.alias.now) c.args.links.now (Some c.in-Some.link.now) (option_map (λ t. t.now) c.in-Some.link.now.table)
    (ap (option_map (λ l. l.now)) (sym c.in-Some.is) ∙ c.link_told_as.ensures) refl

pub returns-in-None : goal.returns-in-None
unfolding table_aliased
returns-in-None c = table_found (is_told_as c.args.alias.now) c.args.links.now None None (ap (option_map (λ l. l.now)) (sym c.in-None.is) ∙ c.link_told_as.ensures) refl
