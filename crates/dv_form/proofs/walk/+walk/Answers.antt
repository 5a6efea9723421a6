use Rattle.std.proofs.Common.{◌≡◌, ◌∙◌, ◌+◌, ◌<◌, ◌∷◌, sym, ap, map, drop, length, arith, rules, option_map}
use Rattle.std.proofs.lemmas.List.{drop_more, drop_all}
use Rattle.serde_json.specs.Data.{depth, items_depth}
use Rattle.serde_json.specs.View.{view, items_view}
use Rattle.dv_form.specs.LocalFaults.{local_of}
use Rattle.dv_form.specs.Members.{members_in}
use Rattle.dv_form.specs.Schemas.{spelling_of, form_of, member_of, schema_of}
use Rattle.dv_form.specs.Walk as walk
use Rattle.dv_form.proofs.Depths.{item_less, member_less}
use Rattle.dv_form.proofs.Faults.{form_at, told, told_none, told_inside_item, told_inside_member, none_inside, or_first, or_next, none_or, item_fault, no_items_fault, members_fault_none, members_fault_more, member_missing, member_absent, member_excluded, member_inside, object_undecided, object_decided, value_is, raw_values_given, object_given, tuple_given, distinct_given, list_over, list_within, no_raw_values, no_object, no_tuple, no_list, no_distinct, items_len_view}
use Rattle.dv_form.proofs.walk.+walk.Goals as goal

pub items_fault-value_fault-requires : goal.items_fault-value_fault-requires
items_fault-value_fault-requires g t c =
    let smaller : depth (view c.index-items-at.result) < items_depth (items_view c.args.items.now) + 1 = item_less c.args.items.now c.loop-at.at c.index-items-at.result (omega arith) c.index-items-at.is in
    search rules

pub items_fault-returns-in-Some : goal.items_fault-returns-in-Some
items_fault-returns-in-Some g t c =
    let vs = c.args.items.now in
    let i = c.loop-at.at in
    let v = c.index-items-at.result in
    let next : drop i vs ≡ v ∷ drop (i + 1) vs = drop_more vs i v (omega arith) ∙ ap (λ y. y ∷ drop (i + 1) vs) (sym c.index-items-at.is) in
    let step = ap (λ xs. walk.items_fault g.G.Grammar.schemas (items_view xs) i (form_of c.args.form.now)) next ∙ item_fault g.G.Grammar.schemas v (drop (i + 1) vs) i (form_of c.args.form.now) in
    or_first _ _ _ (told_inside_item _ _ _ _ (sym c.in_ok-found.ensures ∙ c.in-Some.is) c.in_ok-inside_item.ensures) ∙ sym (ap (option_map local_of) (sym c.loop-at.invariant ∙ step))

pub items_fault-returns : goal.items_fault-returns
items_fault-returns g t c =
    told_none _ (sym c.loop-at.invariant ∙ ap (λ vs. walk.items_fault g.G.Grammar.schemas (items_view vs) c.loop-at.at (form_of c.args.form.now)) (drop_all c.loop-at.at c.args.items.now (omega arith)) ∙ no_items_fault _ _ _)

pub list_fault-returns-then-is_over : goal.list_fault-returns-then-is_over
list_fault-returns-then-is_over g t c =
    let len = items_len_view c.in-Some.items.now.items ∙ ap length (sym c.as_slice-items.ensures.value) in
    let over = ap (walk.is_over c.args.most) len ∙ sym c.is_over.ensures in
    told _ _ _ (list_over g.G.Grammar.schemas _ _ (form_of c.args.form.now) c.args.most (sym c.in-Some.ensures) (over ∙ c.if-is_over.true)) c.here.ensures

pub list_fault-returns-else-is_over : goal.list_fault-returns-else-is_over
list_fault-returns-else-is_over g t c =
    let len = items_len_view c.in-Some.items.now.items ∙ ap length (sym c.as_slice-items.ensures.value) in
    let over = ap (walk.is_over c.args.most) len ∙ sym c.is_over.ensures in
    let within = list_within g.G.Grammar.schemas _ _ (form_of c.args.form.now) c.args.most (sym c.in-Some.ensures) (over ∙ c.if-is_over.false) in
    let same = ap (λ vs. walk.items_fault g.G.Grammar.schemas (items_view vs) 0 (form_of c.args.form.now)) (sym c.as_slice-items.ensures.value) in
    rw (within ∙ same) c.items_fault.ensures

pub list_fault-returns-in-None : goal.list_fault-returns-in-None
list_fault-returns-in-None g t c = rw (no_list _ _ _ _ (sym c.in-None.ensures)) c.wrong_unless.ensures

pub member_fault-returns-then-is_excluded : goal.member_fault-returns-then-is_excluded
member_fault-returns-then-is_excluded g t c = rw (member_excluded g.G.Grammar.schemas _ _ c.args.member.now (sym c.in-Some.ensures) (sym c.is_excluded.ensures ∙ c.if-is_excluded.true)) c.wrong_member.ensures

pub member_fault-value_fault-requires : goal.member_fault-value_fault-requires
member_fault-value_fault-requires g t c =
    let smaller : depth (view c.in-Some.value.now) < depth (view c.args.json.now) = member_less _ _ _ (sym c.in-Some.ensures) in
    search rules

pub member_fault-returns-then-member : goal.member_fault-returns-then-member
member_fault-returns-then-member g t c = rw (member_missing g.G.Grammar.schemas _ c.args.member.now (sym c.in-None.ensures) c.if-member.true) c.wrong_member-then-member.ensures

pub member_fault-returns-in_ok-inside_member-in-Some-2 : goal.member_fault-returns-in_ok-inside_member-in-Some-2
member_fault-returns-in_ok-inside_member-in-Some-2 g t c =
    told_inside_member _ _ _ _ (sym c.in_ok-found-in-Some.ensures ∙ c.in-Some-2.is) c.in_ok-inside_member-in-Some-2.ensures
    ∙ sym (ap (option_map local_of) (member_inside g.G.Grammar.schemas _ _ c.args.member.now (sym c.in-Some.ensures) (sym c.is_excluded.ensures ∙ c.if-is_excluded.false)))

pub member_fault-returns-in-None-2 : goal.member_fault-returns-in-None-2
member_fault-returns-in-None-2 g t c =
    told_none _ (member_inside g.G.Grammar.schemas _ _ c.args.member.now (sym c.in-Some.ensures) (sym c.is_excluded.ensures ∙ c.if-is_excluded.false) ∙ none_inside _ _ (sym c.in_ok-found-in-Some.ensures ∙ c.in-None-2.is))

pub member_fault-returns-else-member : goal.member_fault-returns-else-member
member_fault-returns-else-member g t c = told_none _ (member_absent g.G.Grammar.schemas _ c.args.member.now (sym c.in-None.ensures) c.if-member.false)

pub members_fault-returns-in-Some : goal.members_fault-returns-in-Some
members_fault-returns-in-Some g t c =
    let L = walk.fault_at g.G.Grammar.schemas (members_in (view c.args.json.now)) in
    let ms = c.args.members.now in
    let i = c.loop-member.member-index in
    let m = c.member-item.result in
    let next : drop i ms ≡ m ∷ drop (i + 1) ms = drop_more ms i m (omega arith) ∙ ap (λ y. y ∷ drop (i + 1) ms) (sym c.member-item.is) in
    let step = ap (λ xs. walk.members_fault (view c.args.json.now) L (map member_of xs)) next ∙ members_fault_more (view c.args.json.now) L m (drop (i + 1) ms) in
    or_first _ _ _ (sym c.in-Some.is ∙ c.in_ok-found.ensures) ∙ sym (ap (option_map local_of) (sym c.loop-member.invariant ∙ step))

pub members_fault-returns : goal.members_fault-returns
members_fault-returns g t c =
    let L = walk.fault_at g.G.Grammar.schemas (members_in (view c.args.json.now)) in
    told_none _ (sym c.loop-member.invariant ∙ ap (λ xs. walk.members_fault (view c.args.json.now) L (map member_of xs)) (drop_all c.loop-member.member-index c.args.members.now (omega arith)) ∙ members_fault_none _ _)

pub object_fault-returns-in_default : goal.object_fault-returns-in_default
object_fault-returns-in_default g t c = rw (object_undecided (schema_of c.args.schema.now) _ _ (sym c.in_default.ensures)) c.members_fault.ensures

pub object_fault-returns-in-Some-2 : goal.object_fault-returns-in-Some-2
object_fault-returns-in-Some-2 g t c =
    let decided = object_decided (schema_of c.args.schema.now) (view c.args.json.now) (walk.fault_at g.G.Grammar.schemas (members_in (view c.args.json.now))) _ (sym c.in-Some.ensures) in
    or_first _ _ _ (sym c.in-Some-2.is ∙ c.in_ok-found.ensures) ∙ sym (ap (option_map local_of) decided)

pub object_fault-returns-in-Some-3 : goal.object_fault-returns-in-Some-3
object_fault-returns-in-Some-3 g t c =
    let decided = object_decided (schema_of c.args.schema.now) (view c.args.json.now) (walk.fault_at g.G.Grammar.schemas (members_in (view c.args.json.now))) _ (sym c.in-Some.ensures) in
    or_first _ _ _ (sym c.in-Some-3.is ∙ c.in_ok-found-2.ensures) ∙ sym (ap (option_map local_of) (decided ∙ or_next _ _ (sym c.in_ok-found.ensures ∙ c.in_default-2.is)))

pub object_fault-returns : goal.object_fault-returns
object_fault-returns g t c =
    let decided = object_decided (schema_of c.args.schema.now) (view c.args.json.now) (walk.fault_at g.G.Grammar.schemas (members_in (view c.args.json.now))) _ (sym c.in-Some.ensures) in
    rw (decided ∙ or_next _ _ (sym c.in_ok-found.ensures ∙ c.in_default-2.is) ∙ or_next _ _ (sym c.in_ok-found-2.ensures ∙ c.in_default-3.is)) c.members_fault-3.ensures

pub value_fault-returns-in-Value : goal.value_fault-returns-in-Value
value_fault-returns-in-Value g t c = c.wrong_unless.ensures ∙ ap (option_map local_of) (ap walk.unless_holds c.admits.ensures ∙ sym (form_at g.G.Grammar.schemas (view c.args.json.now) _ _ c.in-Value.is ∙ value_is _ _ _))

pub value_fault-returns-in-Some : goal.value_fault-returns-in-Some
value_fault-returns-in-Some g t c = rw (form_at g.G.Grammar.schemas (view c.args.json.now) _ _ c.in-RawValues.is ∙ raw_values_given _ _ _ (sym c.in-Some.ensures)) c.raw_values_fault.ensures

pub value_fault-returns-in-None : goal.value_fault-returns-in-None
value_fault-returns-in-None g t c = c.wrong_unless-in-None.ensures ∙ sym (ap (option_map local_of) (form_at g.G.Grammar.schemas (view c.args.json.now) _ _ c.in-RawValues.is ∙ no_raw_values _ _ (sym c.in-None.ensures)))

pub value_fault-returns-in-Some-as_object : goal.value_fault-returns-in-Some-as_object
value_fault-returns-in-Some-as_object g t c =
    let T = g.G.Grammar.schemas in
    let L = walk.fault_at T (members_in (view c.args.json.now)) in
    rw (form_at g.G.Grammar.schemas (view c.args.json.now) _ _ c.in-Object.is ∙ object_given T _ _ _ (sym c.in-Some-as_object.ensures) ∙ ap (λ table. walk.object_fault table (view c.args.json.now) L) (sym c.schema.ensures)) c.object_fault.ensures

pub value_fault-returns-in-None-as_object : goal.value_fault-returns-in-None-as_object
value_fault-returns-in-None-as_object g t c = c.wrong_unless-in-None-as_object.ensures ∙ sym (ap (option_map local_of) (form_at g.G.Grammar.schemas (view c.args.json.now) _ _ c.in-Object.is ∙ no_object _ _ _ (sym c.in-None-as_object.ensures)))

pub value_fault-returns-in-Some-as_array : goal.value_fault-returns-in-Some-as_array
value_fault-returns-in-Some-as_array g t c =
    rw (form_at g.G.Grammar.schemas (view c.args.json.now) _ _ c.in-Tuple.is ∙ tuple_given _ _ _ _ (sym c.in-Some-as_array.ensures) ∙ ap (λ vs. walk.tuple_fault (map spelling_of c.in-Tuple.spellings.now) (items_view vs)) (sym c.as_slice.ensures.value)) c.tuple_fault.ensures

pub value_fault-returns-in-None-as_array : goal.value_fault-returns-in-None-as_array
value_fault-returns-in-None-as_array g t c = c.wrong_unless-in-None-as_array.ensures ∙ sym (ap (option_map local_of) (form_at g.G.Grammar.schemas (view c.args.json.now) _ _ c.in-Tuple.is ∙ no_tuple _ _ _ (sym c.in-None-as_array.ensures)))

pub value_fault-returns-in-Some-as_array-2 : goal.value_fault-returns-in-Some-as_array-2
value_fault-returns-in-Some-as_array-2 g t c =
    rw (form_at g.G.Grammar.schemas (view c.args.json.now) _ _ c.in-DistinctIntegers.is ∙ distinct_given _ _ _ (sym c.in-Some-as_array-2.ensures) ∙ ap (λ vs. walk.distinct_fault (items_view vs)) (sym c.as_slice-in-Some-as_array-2.ensures.value)) c.distinct_fault.ensures

pub value_fault-returns-in-None-as_array-2 : goal.value_fault-returns-in-None-as_array-2
value_fault-returns-in-None-as_array-2 g t c = c.wrong_unless-in-None-as_array-2.ensures ∙ sym (ap (option_map local_of) (form_at g.G.Grammar.schemas (view c.args.json.now) _ _ c.in-DistinctIntegers.is ∙ no_distinct _ _ (sym c.in-None-as_array-2.ensures)))

pub items_fault-loop-at-preserved : goal.items_fault-loop-at-preserved
items_fault-loop-at-preserved g t c =
    let vs = c.args.items.now in
    let i = c.loop-at.at in
    let v = c.index-items-at.result in
    let next : drop i vs ≡ v ∷ drop (i + 1) vs = drop_more vs i v (omega arith) ∙ ap (λ y. y ∷ drop (i + 1) vs) (sym c.index-items-at.is) in
    let step = ap (λ xs. walk.items_fault g.G.Grammar.schemas (items_view xs) i (form_of c.args.form.now)) next ∙ item_fault g.G.Grammar.schemas v (drop (i + 1) vs) i (form_of c.args.form.now) in
    sym (step ∙ none_or _ _ (none_inside _ _ (sym c.in_ok-found.ensures ∙ c.in_default.is))) ∙ c.loop-at.invariant

pub members_fault-loop-member-preserved : goal.members_fault-loop-member-preserved
members_fault-loop-member-preserved g t c =
    let L = walk.fault_at g.G.Grammar.schemas (members_in (view c.args.json.now)) in
    let ms = c.args.members.now in
    let i = c.loop-member.member-index in
    let m = c.member-item.result in
    let next : drop i ms ≡ m ∷ drop (i + 1) ms = drop_more ms i m (omega arith) ∙ ap (λ y. y ∷ drop (i + 1) ms) (sym c.member-item.is) in
    let step = ap (λ xs. walk.members_fault (view c.args.json.now) L (map member_of xs)) next ∙ members_fault_more (view c.args.json.now) L m (drop (i + 1) ms) in
    sym (step ∙ or_next _ _ (sym c.in_ok-found.ensures ∙ c.in_default.is)) ∙ c.loop-member.invariant
