use Rattle.std.proofs.Common.{Some, None, map, option_map, refl, sym, ap, ◌∙◌}
use Rattle.dv_schema.specs.Definitions.{table_of_bytes}
use Rattle.dv_query_check.specs.Placed.{link_at, source_at}
use Rattle.dv_query_check.specs.Resolved.{query_made, resolved_orders}
use Rattle.dv_query_check.proofs.ResolvedLaws.{as_base, query_by}
use Rattle.dv_query_check.proofs.resolving.resolve.Goals as goal

pub returns-in_default : goal.returns-in_default
unfolding query_made source_at
returns-in_default c =
    let d = c.args.def.now in
    let q = c.args.query.now in
    let base = source_at (record { number = 0; table = c.table_named.result }) in
    query_by d q base (map link_at c.as_slice-links.result.now) None _ _ _ _
    (as_base d q (option_map (λ t. t.now) c.table_named.result) c.table_named.ensures) (ap (map link_at) c.as_slice-links.ensures.value ∙ c.in_ok-links.ensures)
    (sym c.in_default.is ∙ c.table.ensures ∙ ap (table_of_bytes d) c.as_str.ensures.bytes) refl refl refl refl

pub returns-in_default-2 : goal.returns-in_default-2
unfolding query_made source_at
returns-in_default-2 c =
    let d = c.args.def.now in
    let q = c.args.query.now in
    let base = source_at (record { number = 0; table = c.table_named.result }) in
    query_by d q base (map link_at c.as_slice-links.result.now) (Some c.in-Some.table) None _ _ _
    (as_base d q (option_map (λ t. t.now) c.table_named.result) c.table_named.ensures) (ap (map link_at) c.as_slice-links.ensures.value ∙ c.in_ok-links.ensures)
    (sym c.in-Some.is ∙ c.table.ensures ∙ ap (table_of_bytes d) c.as_str.ensures.bytes) (sym c.in_default-2.is ∙ c.in_ok-columns.ensures) refl refl refl

pub returns-in_default-3 : goal.returns-in_default-3
unfolding query_made source_at
returns-in_default-3 c =
    let d = c.args.def.now in
    let q = c.args.query.now in
    let base = source_at (record { number = 0; table = c.table_named.result }) in
    query_by d q base (map link_at c.as_slice-links.result.now) (Some c.in-Some.table) (Some c.in-Some-2.columns) None _ _
    (as_base d q (option_map (λ t. t.now) c.table_named.result) c.table_named.ensures) (ap (map link_at) c.as_slice-links.ensures.value ∙ c.in_ok-links.ensures)
    (sym c.in-Some.is ∙ c.table.ensures ∙ ap (table_of_bytes d) c.as_str.ensures.bytes) (sym c.in-Some-2.is ∙ c.in_ok-columns.ensures) (sym c.in_default-3.is ∙ c.in_ok-filter.ensures) refl refl

pub returns-in_default-4 : goal.returns-in_default-4
unfolding query_made source_at
returns-in_default-4 c =
    let d = c.args.def.now in
    let q = c.args.query.now in
    let base = source_at (record { number = 0; table = c.table_named.result }) in
    query_by d q base (map link_at c.as_slice-links.result.now) (Some c.in-Some.table) (Some c.in-Some-2.columns) (Some c.in-Some-3.filter) None _
    (as_base d q (option_map (λ t. t.now) c.table_named.result) c.table_named.ensures) (ap (map link_at) c.as_slice-links.ensures.value ∙ c.in_ok-links.ensures)
    (sym c.in-Some.is ∙ c.table.ensures ∙ ap (table_of_bytes d) c.as_str.ensures.bytes) (sym c.in-Some-2.is ∙ c.in_ok-columns.ensures) (sym c.in-Some-3.is ∙ c.in_ok-filter.ensures) (sym c.in_default-4.is ∙ c.in_ok-joined.ensures) refl

pub returns-in_default-5 : goal.returns-in_default-5
unfolding query_made source_at
returns-in_default-5 c =
    let d = c.args.def.now in
    let q = c.args.query.now in
    let base = source_at (record { number = 0; table = c.table_named.result }) in
    query_by d q base (map link_at c.as_slice-links.result.now) (Some c.in-Some.table) (Some c.in-Some-2.columns) (Some c.in-Some-3.filter) (Some c.in-Some-4.joined) None
    (as_base d q (option_map (λ t. t.now) c.table_named.result) c.table_named.ensures) (ap (map link_at) c.as_slice-links.ensures.value ∙ c.in_ok-links.ensures)
    (sym c.in-Some.is ∙ c.table.ensures ∙ ap (table_of_bytes d) c.as_str.ensures.bytes) (sym c.in-Some-2.is ∙ c.in_ok-columns.ensures) (sym c.in-Some-3.is ∙ c.in_ok-filter.ensures) (sym c.in-Some-4.is ∙ c.in_ok-joined.ensures) (sym c.in_default-5.is ∙ c.in_ok-orders.ensures ∙ ap (resolved_orders base (map link_at c.as_slice-links.result.now)) c.as_slice.ensures)

pub returns : goal.returns
unfolding query_made source_at
returns c =
    let d = c.args.def.now in
    let q = c.args.query.now in
    let base = source_at (record { number = 0; table = c.table_named.result }) in
    query_by d q base (map link_at c.as_slice-links.result.now) (Some c.in-Some.table) (Some c.in-Some-2.columns) (Some c.in-Some-3.filter) (Some c.in-Some-4.joined) (Some c.in-Some-5.orders)
    (as_base d q (option_map (λ t. t.now) c.table_named.result) c.table_named.ensures) (ap (map link_at) c.as_slice-links.ensures.value ∙ c.in_ok-links.ensures)
    (sym c.in-Some.is ∙ c.table.ensures ∙ ap (table_of_bytes d) c.as_str.ensures.bytes) (sym c.in-Some-2.is ∙ c.in_ok-columns.ensures) (sym c.in-Some-3.is ∙ c.in_ok-filter.ensures) (sym c.in-Some-4.is ∙ c.in_ok-joined.ensures) (sym c.in-Some-5.is ∙ c.in_ok-orders.ensures ∙ ap (resolved_orders base (map link_at c.as_slice-links.result.now)) c.as_slice.ensures)
