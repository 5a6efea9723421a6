use Rattle.std.proofs.Common.{◌≡◌, drop}
use Rattle.dv_query_check.specs.declared.placed.PlacedLink.{PlacedLink}
use Rattle.dv_query_check.specs.Each.{each_of}
use Rattle.dv_query_check.specs.Placed.{link_at}
use Rattle.dv_query_check.specs.Resolved.{resolved_link}
use Rattle.dv_query_check.proofs.EachLaws.{behind}
use Rattle.dv_query_check.proofs.resolving.resolve_links.Given as goal

abbrev pub invariant-loop-link : goal.invariant-loop-link
invariant-loop-link l =
    each_of (λ (p : PlacedLink). resolved_link l.def (link_at p)) l.links ≡ behind l.resolved (each_of (λ (p : PlacedLink). resolved_link l.def (link_at p)) (drop l.link-index l.links))
