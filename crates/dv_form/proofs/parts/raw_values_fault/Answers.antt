use Rattle.std.proofs.Common.{◌∙◌, sym, ap}
use Rattle.std.specs.Map.Iter.{deref_pair}
use Rattle.std.proofs.lemmas.Map.Iter.{rest_more, rest_all}
use Rattle.serde_json.specs.View.{members_view}
use Rattle.dv_form.specs.Walk.{raw_values_fault}
use Rattle.dv_form.proofs.Faults.{told, told_none, told_member, raw_here, raw_later, raw_none}
use Rattle.dv_form.proofs.parts.raw_values_fault.Goals as goal

pub returns-then-not-is_raw : goal.returns-then-not-is_raw
returns-then-not-is_raw c =
    let next = rest_more deref_pair c.loop-name.name-iterator c.next.new.self c.next.result (c.in-Some.name, c.in-Some.json) c.in-Some.is c.next.ensures.steps in
    told _ _ _ (sym c.loop-name.invariant ∙ ap (λ es. raw_values_fault (members_view es)) next ∙ raw_here _ _ _ (sym c.is_raw.ensures ∙ c.if-not-is_raw.true))
    (told_member _ _ _ _ _ c.in_ok-inside_member.ensures c.here.ensures c.as_str.ensures.value)

pub loop-name-preserved : goal.loop-name-preserved
loop-name-preserved c =
    let next = rest_more deref_pair c.loop-name.name-iterator c.next.new.self c.next.result (c.in-Some.name, c.in-Some.json) c.in-Some.is c.next.ensures.steps in
    sym (ap (λ es. raw_values_fault (members_view es)) next ∙ raw_later _ _ _ (sym c.is_raw.ensures ∙ c.if-not-is_raw.false)) ∙ c.loop-name.invariant

pub returns : goal.returns
returns c =
    let end = rest_all deref_pair c.loop-name.name-iterator c.next.new.self c.next.result c.in-None.is c.next.ensures.steps in
    told_none _ (sym c.loop-name.invariant ∙ ap (λ es. raw_values_fault (members_view es)) end ∙ raw_none)
