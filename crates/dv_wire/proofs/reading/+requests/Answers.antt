use Rattle.std.proofs.Common.{◌∙◌, ◌≤◌, refl, sym, ap, map, codes, unwrap_or, arith, []}
use Rattle.serde_json.specs.Data.{null, depth, members_depth}
use Rattle.serde_json.specs.View.{view, members_view}
use Rattle.dv_form.specs.Members.{flag_of}
use Rattle.dv_form.proofs.Reading.{all_left, one_less}
use Rattle.dv_wire.specs.Requests.{request_for, request_of}
use Rattle.dv_wire.proofs.DeepLaws.{list_below, members_below, first_below, next_is}
use Rattle.dv_wire.proofs.Lists.{list_left}
use Rattle.dv_wire.proofs.RequestLaws.{request_made}
use Rattle.dv_wire.proofs.reading.+requests.Goals as goal

pub request_of-returns : goal.request_of-returns
request_of-returns t c = request_made (view c.args.json) _ _ _ c.in_ok-request_for.ensures c.verb_at-verb.ensures refl

pub multiple-requests_in-requires : goal.multiple-requests_in-requires
multiple-requests_in-requires t c =
    let d = view c.args.json in
    let below : members_depth (members_view c.members_of-members.result.entries) ≤ depth d = rw c.members_of-members.ensures.members (members_below d) in
    (omega (arith, c.decreases, below), tt)

pub multiple-returns : goal.multiple-returns
unfolding request_for
multiple-returns t c =
    let d = view c.args.json in
    rw (
      c.in_ok-requests_in.ensures.value ∙ ap (map request_of) (list_left _ d [] (codes "requests") (all_left _ d c.members_of-members.ensures.members) refl),
      c.flag_at-continue_.ensures,
    ) refl

pub transaction-requests_in-requires : goal.transaction-requests_in-requires
transaction-requests_in-requires t c =
    let d = view c.args.json in
    let below : members_depth (members_view c.members_of-members.result.entries) ≤ depth d = rw c.members_of-members.ensures.members (members_below d) in
    (omega (arith, c.decreases, below), tt)

pub transaction-returns : goal.transaction-returns
unfolding request_for
transaction-returns t c =
    let d = view c.args.json in
    rw (c.in_ok-requests_in.ensures.value ∙ ap (map request_of) (list_left _ d [] (codes "requests") (all_left _ d c.members_of-members.ensures.members) refl)) refl

pub requests_in-requests_of-requires : goal.requests_in-requests_of-requires
requests_in-requests_of-requires t c = (omega (arith, c.decreases, list_below (codes "requests") (members_view c.args.members.now.entries) (map view c.in-Some.items.items) (sym c.in-Some.ensures.value)), tt)

pub requests_of-request_of-requires : goal.requests_of-request_of-requires
requests_of-request_of-requires t c =
    let below = first_below _ _ c.in-Some.item _ (next_is c.loop-item.item-iterator c.next.new.self c.next.result c.in-Some.item c.in-Some.is c.next.ensures.steps) c.loop-item.invariant.1 in
    (omega (arith, c.decreases, below), tt)
