use Rattle.std.proofs.Common.{◌+◌, ◌++◌, length, map, option_map, sym, ap, ◌∙◌, arith}
use Rattle.std.proofs.lemmas.List.{length-map}
use Rattle.std.proofs.lemmas.Result.{on_ok_weaker}
use Rattle.dv_query_check.specs.Links.{links_under}
use Rattle.dv_query_check.specs.Placed.{link_at}
use Rattle.dv_query_check.proofs.LinkLaws.{link_added}
use Rattle.dv_query_check.proofs.TurnLaws.{links_more, links_end}
use Rattle.dv_query_check.proofs.placed.+links.Goals as goal

pub add_link-returns : goal.add_link-returns
add_link-returns t c = on_ok_weaker c.add_links.result
    (λ h. link_added c.args.def.now (record { place = c.args.place; number = length c.as_slice.result.now + 1; above = c.args.above.number; outer = c.args.above.table; table = c.table_named-table.result; is_hidden = c.is_hidden_under-is_hidden.result; link = c.args.link }) c.args.above.is_hidden
    c.in_ok-inside.inside c.as_slice-2.result.now (map link_at c.args.placed.now.items) (map link_at c.keep.new.placed.items) (map link_at c.add_links.new.placed.items)
    (ap (λ n. n + 1) (ap length c.as_slice.ensures.value ∙ sym (length-map c.args.placed.now.items link_at))) c.in_ok-inside.ensures c.table_named-table.ensures c.is_hidden_under-is_hidden.ensures c.as_slice-2.ensures c.in_ok-keep.ensures h)
    c.add_links.ensures

pub add_links-loop-i-preserved : goal.add_links-loop-i-preserved
add_links-loop-i-preserved t c =
    let under = links_under c.args.def.now (option_map (λ t. t.now) c.args.above.table) c.args.above.is_hidden c.args.above.number in
    let x = c.index-links-i.result in
    sym (links_more under c.args.place.now c.args.links.now c.loop-i.i x (map link_at c.loop-i.placed.items) (map link_at c.add_link.new.placed.items) (omega arith) c.index-links-i.is
    (c.in_ok-add_link.ensures ∙ ap (λ p. map link_at c.loop-i.placed.items ++ under x (length (map link_at c.loop-i.placed.items) + 1) p) c.in_ok-item.ensures))
    ∙ c.loop-i.invariant

pub add_links-returns : goal.add_links-returns
add_links-returns t c =
    let under = links_under c.args.def.now (option_map (λ t. t.now) c.args.above.table) c.args.above.is_hidden c.args.above.number in
    sym (links_end under c.args.place.now c.args.links.now c.loop-i.i (map link_at c.loop-i.placed.items) (omega arith)) ∙ c.loop-i.invariant
