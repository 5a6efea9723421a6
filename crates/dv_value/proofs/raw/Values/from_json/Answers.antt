use Rattle.std.proofs.Common.{◌++◌, Some, sym, ◌∙◌, ap}
use Rattle.std.specs.Option.{option_map}
use Rattle.std.proofs.lemmas.Map.Iter.{rest_more, rest_all}
use Rattle.serde_json.specs.View.{view, members_view}
use Rattle.dv_value.specs.Raws.{values_of}
use Rattle.dv_value.proofs.Raws.{values_of-member, values_of-none, values_of-no_members, option_map-nil}
use Rattle.dv_value.proofs.AscendingNames.{names_ascend}
use Rattle.dv_value.proofs.raw.Values.from_json.Goals as goal

pub loop-name-init : goal.loop-name-init
loop-name-init c = rw (c.into_iter-name-iterator.ensures.into_iter_gives.0, c.in_ok-values.ensures) (option_map-nil _)

pub loop-name-preserved : goal.loop-name-preserved
loop-name-preserved c =
    let next = rest_more (λ p. p) c.loop-name.name-iterator c.next.new.self c.next.result (c.in-Some.name, c.in-Some.json) c.in-Some.is c.next.ensures.steps in
    rw c.in_ok-push-in-Some-from_json.ensures.ok (c.loop-name.invariant ∙ ap (λ es. option_map (λ rest. c.loop-name.values ++ rest) (values_of (members_view es))) next
    ∙ values_of-member c.loop-name.values _ c.from_string.result (view c.in-Some.json) (members_view c.next.new.self) c.in-Some-from_json.value
    (sym c.from_json.ensures ∙ c.in-Some-from_json.is) c.from_string.ensures)

pub returns-in-None-from_json-clause-values : goal.returns-in-None-from_json-clause-values
returns-in-None-from_json-clause-values c =
    let next = rest_more (λ p. p) c.loop-name.name-iterator c.next.new.self c.next.result (c.in-Some.name, c.in-Some.json) c.in-Some.is c.next.ensures.steps in
    sym (c.loop-name.invariant ∙ ap (λ es. option_map (λ rest. c.loop-name.values ++ rest) (values_of (members_view es))) next
    ∙ values_of-none c.loop-name.values _ (view c.in-Some.json) (members_view c.next.new.self) (sym c.from_json.ensures ∙ c.in-None-from_json.is))

values_are : goal.returns-clause-values
values_are c =
    let end = rest_all (λ p. p) c.loop-name.name-iterator c.next.new.self c.next.result c.in-None.is c.next.ensures.steps in
    sym (c.loop-name.invariant ∙ ap (λ es. option_map (λ rest. c.loop-name.values ++ rest) (values_of (members_view es))) end ∙ values_of-no_members c.loop-name.values)

pub returns-clause-values : goal.returns-clause-values
returns-clause-values c = values_are c

pub returns-clause-ascending : goal.returns-clause-ascending
returns-clause-ascending c = names_ascend c.args.members.entries (Some c.loop-name.values) (values_are c) c.len.ensures.ordered
