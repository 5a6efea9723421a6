use Rattle.std.proofs.Common.{◌∙◌, sym, ap, Some, option_map, option_and_then}
use Rattle.serde_json.specs.Find.{as_array}
use Rattle.serde_json.specs.View.{view}
use Rattle.serde_json.proofs.Views.{view-Array}
use Rattle.dv_form.specs.Members.{data_list}
use Rattle.dv_form.proofs.Reading.{data_list_view}
use Rattle.dv_wire.proofs.member.take_list.Goals as goal

pub returns-in-Some-Array-clause-value : goal.returns-in-Some-Array-clause-value
returns-in-Some-Array-clause-value c =
    let items = c.in-Some-Array.items in
    let found = ap Some (sym (view-Array items) ∙ ap view (sym c.in-Some-Array.field-0-is)) ∙ ap (option_map view) (sym c.in-Some-Array.is) ∙ c.take_member.ensures.value in
    rw c.in-Some-Array.items-is (ap Some (sym (data_list_view items.items)) ∙ ap (λ o. option_map data_list (option_and_then as_array o)) found)
