use Rattle.std.proofs.Common.{◌≡◌, ◌∙◌, ◌+◌, ◌∷◌, [], refl, sym, ap, drop, length, arith}
use Rattle.std.proofs.lemmas.Bool.{eqb-true, eqb-false}
use Rattle.std.proofs.lemmas.List.{drop_more, drop_all, nil_from_length}
use Rattle.serde_json.specs.View.{view, items_view}
use Rattle.dv_form.specs.Walk as walk
use Rattle.dv_form.proofs.Faults.{told, told_none, told_item}
use Rattle.dv_form.proofs.Integers.{integer_here, integer_later, integers_end, distinct_none, distinct_some}
use Rattle.dv_form.proofs.parts.distinct_fault.Goals as goal

pub returns-then-is_empty : goal.returns-then-is_empty
returns-then-is_empty c = told _ _ _ (distinct_none _ (nil_from_length _ (eqb-true _ _ (sym c.is_empty.ensures ∙ c.if-is_empty.true)))) c.here.ensures

pub loop-at-init : goal.loop-at-init
loop-at-init c =
    let filled : c.args.items.now ≡ [] → ⊥ = λ e. eqb-false _ _ (sym c.is_empty.ensures ∙ c.if-is_empty.false) (ap length e) in
    ([], λ n. rw c.new-before.ensures.empty refl, distinct_some c.args.items.now filled)

pub returns-then-not-branch : goal.returns-then-not-branch
returns-then-not-branch c =
    let vs = c.args.items.now in
    let i = c.loop-at.at in
    let v = c.index-items-at.result in
    let next : drop i vs ≡ v ∷ drop (i + 1) vs = drop_more vs i v (omega arith) ∙ ap (λ y. y ∷ drop (i + 1) vs) (sym c.index-items-at.is) in
    let earlier = c.loop-at.invariant.0 in
    let answer = (c.in_ok-is_new_integer.ensures earlier c.loop-at.invariant.1).0 in
    told _ _ _ (sym c.loop-at.invariant.2 ∙ ap (λ xs. walk.new_integers_fault earlier i (items_view xs)) next ∙ integer_here earlier i v _ (sym answer ∙ c.if-not-branch.true))
    (told_item _ _ _ _ c.in_ok-inside_item.ensures c.here-then-not-branch.ensures)

pub loop-at-preserved : goal.loop-at-preserved
loop-at-preserved c =
    let vs = c.args.items.now in
    let i = c.loop-at.at in
    let v = c.index-items-at.result in
    let next : drop i vs ≡ v ∷ drop (i + 1) vs = drop_more vs i v (omega arith) ∙ ap (λ y. y ∷ drop (i + 1) vs) (sym c.index-items-at.is) in
    let earlier = c.loop-at.invariant.0 in
    let answer = c.in_ok-is_new_integer.ensures earlier c.loop-at.invariant.1 in
    (view v ∷ earlier, answer.1 c.if-not-branch.false, sym (ap (λ xs. walk.new_integers_fault earlier i (items_view xs)) next ∙ integer_later earlier i v _ (sym answer.0 ∙ c.if-not-branch.false)) ∙ c.loop-at.invariant.2)

pub returns : goal.returns
returns c =
    let earlier = c.loop-at.invariant.0 in
    told_none _ (sym c.loop-at.invariant.2 ∙ ap (λ xs. walk.new_integers_fault earlier c.loop-at.at (items_view xs)) (drop_all c.loop-at.at c.args.items.now (omega arith)) ∙ integers_end earlier c.loop-at.at)
