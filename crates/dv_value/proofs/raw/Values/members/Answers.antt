use Rattle.std.proofs.Common.{◌∙◌, ap, sym}
use Rattle.serde_json.specs.View.{members_view}
use Rattle.dv_value.specs.Printed.{with_values}
use Rattle.dv_value.proofs.Printing.{with_values-step, with_values-all}
use Rattle.dv_value.proofs.raw.Values.members.Goals as goal

pub loop-name-preserved : goal.loop-name-preserved
loop-name-preserved c = c.loop-name.invariant
    ∙ with_values-step c.as_slice-name-items.result.now c.loop-name.name-index c.loop-name-item.result _ _ (members_view c.loop-name.members.entries) c.loop-name-test.true c.loop-name-item.is
    c.as_str.ensures.bytes c.in_ok-to_json.ensures
    ∙ ap (with_values _) (sym c.in_ok-add_member.ensures)

pub returns : goal.returns
returns c = sym (rw (← c.as_slice-name-items.ensures) (c.loop-name.invariant ∙ with_values-all _ c.loop-name.name-index (members_view c.loop-name.members.entries) c.loop-name-test.false))
