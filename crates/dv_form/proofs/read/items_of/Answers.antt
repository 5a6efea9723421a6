use Rattle.std.proofs.Common.{sym}
use Rattle.serde_json.proofs.Views.{view-Array}
use Rattle.dv_form.specs.Members.{list_of}
use Rattle.dv_form.proofs.Reading.{data_list_view}
use Rattle.dv_form.proofs.read.items_of.Goals as goal

pub returns-in-Array : goal.returns-in-Array
unfolding list_of
returns-in-Array c = rw (c.in-Array.is, view-Array) (sym (data_list_view c.in-Array.items.items))
