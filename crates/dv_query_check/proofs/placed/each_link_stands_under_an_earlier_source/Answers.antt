use Rattle.dv_query_check.proofs.UnderLaws.{in_order}
use Rattle.dv_query_check.proofs.placed.each_link_stands_under_an_earlier_source.Goals as goal

pub returns : goal.returns
returns c = in_order
