use Rattle.std.proofs.Common.{◌∙◌, sym, ap, map, drop, arith}
use Rattle.std.proofs.lemmas.List.{drop_all}
use Rattle.serde_json.specs.View.{items_view}
use Rattle.dv_form.specs.Schemas.{spelling_of}
use Rattle.dv_form.specs.Walk.{spelled_items_fault}
use Rattle.dv_form.proofs.Faults.{told, told_none, told_item, tuple_longer, tuple_same, spelled_here, spelled_later, spelled_all, spelled_next}
use Rattle.dv_form.proofs.parts.tuple_fault.Goals as goal

pub returns-then-items-spellings : goal.returns-then-items-spellings
returns-then-items-spellings c = told _ _ _ (tuple_longer c.args.spellings.now c.args.items.now c.if-items-spellings.true) c.here.ensures

pub returns-then-not-admits : goal.returns-then-not-admits
returns-then-not-admits c =
    let i = c.loop-at.at in
    let next = spelled_next c.args.spellings.now c.args.items.now i _ (c.index-items-at.result) (omega arith) (omega arith) c.index-items-at.is in
    told _ _ _ (tuple_same c.args.spellings.now c.args.items.now c.if-items-spellings.false ∙ sym c.loop-at.invariant ∙ next ∙ spelled_here _ _ _ _ _ (sym c.admits.ensures ∙ c.if-not-admits.true))
    (told_item _ _ _ _ c.in_ok-inside_item.ensures c.here-then-not-admits.ensures)

pub loop-at-preserved : goal.loop-at-preserved
loop-at-preserved c =
    let i = c.loop-at.at in
    let next = spelled_next c.args.spellings.now c.args.items.now i _ (c.index-items-at.result) (omega arith) (omega arith) c.index-items-at.is in
    sym (next ∙ spelled_later _ _ _ _ _ (sym c.admits.ensures ∙ c.if-not-admits.false)) ∙ c.loop-at.invariant

pub returns : goal.returns
returns c =
    told_none _ (tuple_same c.args.spellings.now c.args.items.now c.if-items-spellings.false ∙ sym c.loop-at.invariant
    ∙ ap (λ ss. spelled_items_fault (map spelling_of ss) c.loop-at.at (items_view (drop c.loop-at.at c.args.items.now))) (drop_all c.loop-at.at c.args.spellings.now (omega arith)) ∙ spelled_all _ _)
