use Rattle.std.proofs.Common.{sym, ap, ◌∙◌, Some}
use Rattle.dv_work.proofs.PlaceLaws.{entries_of-drop_empty}
use Rattle.dv_work.proofs.places.drop_empty.Goals as goal

pub returns-in-Some-None : goal.returns-in-Some-None
returns-in-Some-None g c = rw c.remove.ensures.entries (entries_of-drop_empty _ c.args.places.now.entries (sym c.in-Some-None.ensures.value ∙ ap Some c.in-Some-None.field-0-is))
