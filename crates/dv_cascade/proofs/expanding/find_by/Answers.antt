use Rattle.std.proofs.Common.{sym, ap, ◌∙◌}
use Rattle.std.proofs.lemmas.Bool.{true≢false}
use Rattle.dv_cascade.specs.Links.{cascade_by, reaches_any, LeadsBy}
use Rattle.dv_cascade.proofs.Finding.{nothing}
use Rattle.dv_cascade.proofs.Leading.{leads_any}
use Rattle.dv_cascade.proofs.expanding.find_by.Goals as goal

pub returns-then-parent-relationship : goal.returns-then-parent-relationship
returns-then-parent-relationship c =
    let w = c.args.store.now.present in
    let r = c.args.relationship.now in
    nothing w.rows (LeadsBy w r (cascade_by c.args.cascading r) c.args.parent) c.args.found.now (λ key h. c.if-parent-relationship.true h.refers.parent_table)

pub returns-then-not-reaches_any : goal.returns-then-not-reaches_any
returns-then-not-reaches_any c =
    let w = c.args.store.now.present in
    let r = c.args.relationship.now in
    nothing w.rows (LeadsBy w r (cascade_by c.args.cascading r) c.args.parent) c.args.found.now
    (λ key h. true≢false (sym (leads_any w (cascade_by c.args.cascading r) c.args.parent key h.allowed) ∙ sym (ap reaches_any c.by-cascade.ensures) ∙ sym c.if-not-reaches_any.ensures))
