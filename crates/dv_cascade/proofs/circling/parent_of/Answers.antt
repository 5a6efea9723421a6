use Rattle.std.proofs.Common.{◌≡◌, sym, ap, ◌∙◌}
use Rattle.dv_cascade.specs.Circles.{named_by, parent_of}
use Rattle.dv_cascade.proofs.Climbing.{parent_is, parent_found}
use Rattle.dv_cascade.proofs.circling.parent_of.Goals as goal

pub returns-clause-under : goal.returns-clause-under
unfolding parent_of
returns-clause-under c = λ one parent.
    let w = c.args.store.now.present in
    let d = c.args.definition.now in
    let is : c.named_by.result ≡ parent_of w d c.args.key = c.named_by.ensures ∙ ap (named_by w c.args.key) c.parental_of.ensures in (
      λ found. parent_is w d c.args.key parent (sym is ∙ found),
      λ under. is ∙ parent_found w d one c.args.key parent under,
    )
