use Rattle.std.proofs.Common.{Some, None, map, option_map, sym, ap, ◌∙◌}
use Rattle.dv_query_check.specs.ConditionFaults.{is_told_as}
use Rattle.dv_query_check.specs.Placed.{link_at, source_at}
use Rattle.dv_query_check.specs.Resolved.{source_meant}
use Rattle.dv_query_check.proofs.MapLaws.{source_found}
use Rattle.dv_query_check.proofs.source.source_meant.Goals as goal

pub returns-in-Some-link_told_as : goal.returns-in-Some-link_told_as
unfolding source_meant
returns-in-Some-link_told_as c =
    ap Some c.of.ensures
    ∙ source_found (is_told_as c.in-Some.alias) c.args.links.now (Some c.in-Some-link_told_as.link.now) (ap (option_map (λ l. l.now)) (sym c.in-Some-link_told_as.is) ∙ c.link_told_as.ensures)
    ∙ sym (ap (source_meant (source_at c.args.own) (map link_at c.args.links.now)) c.in-Some.is)

pub returns-in-None-link_told_as : goal.returns-in-None-link_told_as
unfolding source_meant
returns-in-None-link_told_as c =
    source_found (is_told_as c.in-Some.alias) c.args.links.now None (ap (option_map (λ l. l.now)) (sym c.in-None-link_told_as.is) ∙ c.link_told_as.ensures)
    ∙ sym (ap (source_meant (source_at c.args.own) (map link_at c.args.links.now)) c.in-Some.is)

pub returns-in-None : goal.returns-in-None
unfolding source_meant
returns-in-None c = sym (ap (source_meant (source_at c.args.own) (map link_at c.args.links.now)) c.in-None.is)
