-- What is told of an item, where something or nothing is wrong with it.
use Rattle.std.proofs.Common.{◌≡◌, ℕ, List, map, take, Option, Some, None, option_map, sym, ap, ◌∙◌}
use Rattle.std.proofs.lemmas.List.{take-map}
use Rattle.dv_query.specs.declared.filter.Condition.{Condition}
use Rattle.dv_query.specs.declared.query.Order.{Order}
use Rattle.dv_schema.specs.declared.table.Table.{Table}
use Rattle.dv_query_check.specs.declared.conditions.ConditionFault.{ConditionFault}
use Rattle.dv_query_check.specs.declared.fault.Fault.{Fault}
use Rattle.dv_query_check.specs.declared.filters.PlacedFilter.{PlacedFilter}
use Rattle.dv_query_check.specs.declared.links.LinkFault.{LinkFault}
use Rattle.dv_query_check.specs.declared.orders.OrderFault.{OrderFault}
use Rattle.dv_query_check.specs.declared.placed.PlacedLink.{PlacedLink}
use Rattle.dv_query_check.specs.ConditionFaults.{condition_fault_in, told_condition, fault_of_condition, table_meant}
use Rattle.dv_query_check.specs.LinkFaults.{link_fault, told_link, fault_of_link}
use Rattle.dv_query_check.specs.Links.{LinkAt}
use Rattle.dv_query_check.specs.OrderFaults.{order_fault, told_order, fault_of_order}
use Rattle.dv_query_check.specs.Placed.{link_at, filter_at}

-- what is told of a link
pub link_told : (links : List PlacedLink) (i : ℕ) (l : PlacedLink) (r : Option LinkFault) → r ≡ link_fault (map link_at (take i links)) (link_at l)
    → fault_of_link (map link_at links) i (link_at l) ≡ option_map (told_link l.place) r
unfolding fault_of_link link_at
link_told links i l r e =
    ap (λ earlier. option_map (told_link l.place) (link_fault earlier (link_at l))) (take-map link_at i links)
    ∙ ap (option_map (told_link l.place)) (sym e)

pub link_wrong : (links : List PlacedLink) (i : ℕ) (l : PlacedLink) (r : Option LinkFault) (fault : LinkFault) (told : Fault) → r ≡ link_fault (map link_at (take i links)) (link_at l) → r ≡ Some fault → told ≡ told_link l.place fault
    → fault_of_link (map link_at links) i (link_at l) ≡ Some told
link_wrong links i l r fault told e is as_told = link_told links i l r e ∙ ap (option_map (told_link l.place)) is ∙ ap Some (sym as_told)

pub link_fine : (links : List PlacedLink) (i : ℕ) (l : PlacedLink) (r : Option LinkFault) → r ≡ link_fault (map link_at (take i links)) (link_at l) → r ≡ None → fault_of_link (map link_at links) i (link_at l) ≡ None
link_fine links i l r e is = link_told links i l r e ∙ ap (option_map (told_link l.place)) is

-- what is told of a condition
pub condition_wrong : (links : List LinkAt) (f : PlacedFilter) (i : ℕ) (c : Condition) (r : Option ConditionFault) (fault : ConditionFault) (told : Fault) → r ≡ condition_fault_in links (filter_at f) c → r ≡ Some fault → told ≡ told_condition f.place i fault
    → fault_of_condition links (filter_at f) i c ≡ Some told
unfolding fault_of_condition filter_at
condition_wrong links f i c r fault told e is as_told = ap (option_map (told_condition f.place i)) (sym e ∙ is) ∙ ap Some (sym as_told)

pub condition_fine : (links : List LinkAt) (f : PlacedFilter) (i : ℕ) (c : Condition) (r : Option ConditionFault) → r ≡ condition_fault_in links (filter_at f) c → r ≡ None → fault_of_condition links (filter_at f) i c ≡ None
unfolding fault_of_condition filter_at
condition_fine links f i c r e is = ap (option_map (told_condition f.place i)) (sym e ∙ is)

-- what is told of an order
pub order_wrong : (base : Option Table) (links : List LinkAt) (i : ℕ) (o : Order) (table : Option Table) (r : Option OrderFault) (fault : OrderFault) (told : Fault) → table ≡ table_meant base links o.link → r ≡ order_fault table o → r ≡ Some fault → told ≡ told_order i fault
    → fault_of_order base links i o ≡ Some told
unfolding fault_of_order
order_wrong base links i o table r fault told e f is as_told = ap (λ t. option_map (told_order i) (order_fault t o)) (sym e) ∙ ap (option_map (told_order i)) (sym f ∙ is) ∙ ap Some (sym as_told)

pub order_fine : (base : Option Table) (links : List LinkAt) (i : ℕ) (o : Order) (table : Option Table) (r : Option OrderFault) → table ≡ table_meant base links o.link → r ≡ order_fault table o → r ≡ None → fault_of_order base links i o ≡ None
unfolding fault_of_order
order_fine base links i o table r e f is = ap (λ t. option_map (told_order i) (order_fault t o)) (sym e) ∙ ap (option_map (told_order i)) (sym f ∙ is)
