use Rattle.std.proofs.Common.{◌∙◌, sym, ap, map}
use Rattle.std.specs.Map.Iter.{deref_pair}
use Rattle.std.proofs.lemmas.Map.Iter.{rest_more, rest_all}
use Rattle.serde_json.specs.View.{members_view}
use Rattle.dv_form.specs.Schemas.{member_of}
use Rattle.dv_form.specs.Walk.{unlisted_fault}
use Rattle.dv_form.proofs.Faults.{told, told_none, told_member, members_in_object, members_in_none, unlisted_none, unlisted_here, unlisted_later, listed_as}
use Rattle.dv_form.proofs.schema.unlisted_fault.Goals as goal

pub returns-in_default : goal.returns-in_default
returns-in_default g c =
    let F = unlisted_fault (map member_of c.args.members.now) (map member_of c.args.more.now) in
    told_none _ (ap F (members_in_none _ (sym c.in_default.ensures)) ∙ unlisted_none _ _)

pub loop-name-init : goal.loop-name-init
loop-name-init g c =
    let F = unlisted_fault (map member_of c.args.members.now) (map member_of c.args.more.now) in
    ap (λ es. F (members_view es)) (c.into_iter-name-iterator.ensures.into_iter_gives ∙ c.iter-name-items.ensures.rest) ∙ sym (ap F (members_in_object _ _ (sym c.in-Some.ensures)))

pub returns-then-not-is_in_either : goal.returns-then-not-is_in_either
returns-then-not-is_in_either g c =
    let A = map member_of c.args.members.now in
    let B = map member_of c.args.more.now in
    let next = rest_more deref_pair c.loop-name.name-iterator c.next.new.self c.next.result (c.in-Some-2.name, c.in-Some-2.field-0-1) c.in-Some-2.is c.next.ensures.steps in
    told _ _ _ (sym c.loop-name.invariant ∙ ap (λ es. unlisted_fault A B (members_view es)) next
    ∙ unlisted_here A B _ _ _ (listed_as A B _ _ _ _ c.as_str-name.ensures.value c.is_in_either.ensures c.if-not-is_in_either.true))
    (told_member _ _ _ _ _ c.in_ok-inside_member.ensures c.here.ensures c.as_str-name.ensures.value)

pub loop-name-preserved : goal.loop-name-preserved
loop-name-preserved g c =
    let A = map member_of c.args.members.now in
    let B = map member_of c.args.more.now in
    let next = rest_more deref_pair c.loop-name.name-iterator c.next.new.self c.next.result (c.in-Some-2.name, c.in-Some-2.field-0-1) c.in-Some-2.is c.next.ensures.steps in
    sym (ap (λ es. unlisted_fault A B (members_view es)) next
    ∙ unlisted_later A B _ _ _ (listed_as A B _ _ _ _ c.as_str-name.ensures.value c.is_in_either.ensures c.if-not-is_in_either.false)) ∙ c.loop-name.invariant

pub returns : goal.returns
returns g c =
    let F = unlisted_fault (map member_of c.args.members.now) (map member_of c.args.more.now) in
    let end = rest_all deref_pair c.loop-name.name-iterator c.next.new.self c.next.result c.in-None.is c.next.ensures.steps in
    told_none _ (sym c.loop-name.invariant ∙ ap (λ es. F (members_view es)) end ∙ unlisted_none _ _)
