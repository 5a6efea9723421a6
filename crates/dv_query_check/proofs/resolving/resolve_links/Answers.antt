use Rattle.std.proofs.Common.{sym, ap, ◌∙◌, arith}
use Rattle.dv_query_check.specs.declared.placed.PlacedLink.{PlacedLink}
use Rattle.dv_query_check.specs.Each.{each_of}
use Rattle.dv_query_check.specs.Placed.{link_at}
use Rattle.dv_query_check.specs.Resolved.{resolved_link, resolved_links}
use Rattle.dv_query_check.proofs.EachLaws.{behind, each-first, each-more, each-none, each-end, each-map}
use Rattle.dv_query_check.proofs.resolving.resolve_links.Goals as goal

pub loop-link-init : goal.loop-link-init
loop-link-init c =
    let all = each_of (λ (p : PlacedLink). resolved_link c.args.def.now (link_at p)) c.args.links.now in
    each-first all ∙ ap (λ made. behind made all) (sym c.in_ok-resolved.ensures)

pub loop-link-preserved : goal.loop-link-preserved
loop-link-preserved c =
    c.loop-link.invariant ∙ each-more (λ (p : PlacedLink). resolved_link c.args.def.now (link_at p)) c.args.links.now c.loop-link.link-index c.link-item.result c.in-Some.link c.loop-link.resolved c.push.new.self
    (omega arith) c.link-item.is (sym c.in_ok-link.ensures ∙ c.in-Some.is) c.in_ok-push-in-Some.ensures.ok

pub returns-in-None : goal.returns-in-None
unfolding resolved_links
returns-in-None c =
    sym (each-map (resolved_link c.args.def.now) link_at c.args.links.now ∙ c.loop-link.invariant ∙ each-none (λ (p : PlacedLink). resolved_link c.args.def.now (link_at p)) c.args.links.now c.loop-link.link-index c.link-item.result c.loop-link.resolved (omega arith) c.link-item.is (sym c.in_ok-link.ensures ∙ c.in-None.is))

pub returns : goal.returns
unfolding resolved_links
returns c = sym (each-map (resolved_link c.args.def.now) link_at c.args.links.now ∙ c.loop-link.invariant ∙ each-end (λ (p : PlacedLink). resolved_link c.args.def.now (link_at p)) c.args.links.now c.loop-link.link-index c.loop-link.resolved (omega arith))
