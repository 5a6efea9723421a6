use Rattle.std.proofs.Common.{ap, ◌∙◌, ◌++◌}
use Rattle.dv_roles.specs.Entries.{kept_at}
use Rattle.dv_roles.proofs.Kept.{below-none, below-more}
use Rattle.dv_roles.proofs.spreading.add_for.Goals as goal

pub loop-number-init : goal.loop-number-init
loop-number-init c = below-none c.args.kept.now (kept_at c.args.tables.now c.args.entries.now c.args.action)

pub loop-number-preserved : goal.loop-number-preserved
loop-number-preserved c =
    c.in_ok-add_at.ensures ∙ ap (λ kept. kept ++ kept_at c.args.tables.now c.args.entries.now c.args.action c.loop-number.number) c.loop-number.invariant
    ∙ below-more c.args.kept.now (kept_at c.args.tables.now c.args.entries.now c.args.action) c.loop-number.number
