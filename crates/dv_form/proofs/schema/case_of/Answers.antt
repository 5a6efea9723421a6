use Rattle.std.proofs.Common.{◌≡◌, ◌∙◌, ◌+◌, ◌∷◌, sym, ap, map, drop, arith}
use Rattle.std.proofs.lemmas.List.{drop_more, drop_all}
use Rattle.dv_form.specs.Schemas as plain
use Rattle.dv_form.specs.Walk as walk
use Rattle.dv_form.proofs.Faults.{case_here, case_later, case_nowhere}
use Rattle.dv_form.proofs.schema.case_of.Goals as goal

pub returns-then-eq : goal.returns-then-eq
returns-then-eq g c =
    let xs = c.args.cases.now in
    let i = c.loop-case.case-index in
    let x = c.case-item.result in
    let next : drop i xs ≡ x ∷ drop (i + 1) xs = drop_more xs i x (omega arith) ∙ ap (λ y. y ∷ drop (i + 1) xs) (sym c.case-item.is) in
    sym (sym c.loop-case.invariant ∙ ap (λ cs. walk.case_of c.args.word.now (map plain.case_of cs)) next ∙ case_here _ x _ (sym c.eq.ensures ∙ c.if-eq.true))

pub loop-case-preserved : goal.loop-case-preserved
loop-case-preserved g c =
    let xs = c.args.cases.now in
    let i = c.loop-case.case-index in
    let x = c.case-item.result in
    let next : drop i xs ≡ x ∷ drop (i + 1) xs = drop_more xs i x (omega arith) ∙ ap (λ y. y ∷ drop (i + 1) xs) (sym c.case-item.is) in
    sym (ap (λ cs. walk.case_of c.args.word.now (map plain.case_of cs)) next ∙ case_later _ x _ (sym c.eq.ensures ∙ c.if-eq.false)) ∙ c.loop-case.invariant

pub returns : goal.returns
returns g c = sym (sym c.loop-case.invariant ∙ ap (λ cs. walk.case_of c.args.word.now (map plain.case_of cs)) (drop_all c.loop-case.case-index c.args.cases.now (omega arith)) ∙ case_nowhere _)
