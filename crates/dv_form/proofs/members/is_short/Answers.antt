use Rattle.std.proofs.Common.{◌∙◌, w64, SFits, to_z-of_z}
use Rattle.dv_form.proofs.Shorts.{ok_short}
use Rattle.dv_form.proofs.members.is_short.Goals as goal

pub returns : goal.returns
returns c =
    let fits : SFits w64 c.args.n = c.ranges.n in
    let tried = simp to_z-of_z at c.try_from.ensures in
    c.is_ok.ensures.value ∙ ok_short _ _ tried
