use Rattle.std.proofs.Common.{not, sym, ap, ◌∙◌}
use Rattle.dv_query_check.specs.LinkFaults.{has_alias, is_free}
use Rattle.dv_query_check.specs.Placed.{link_at}
use Rattle.dv_query_check.proofs.MapLaws.{any_mapped}
use Rattle.dv_query_check.proofs.links.is_free.Goals as goal

pub returns : goal.returns
unfolding is_free
returns c = ap not (c.is_taken.ensures ∙ sym (any_mapped (has_alias c.args.alias.now) link_at c.args.earlier.now))
