use Rattle.std.proofs.Common.{◌∙◌, ap, cond, pos, ℤ, rules, w32, w64, SFits, to_z-of_z}
use Rattle.dv_form.specs.Members.{is_short, short_of}
use Rattle.dv_form.proofs.Shorts.{narrowed}
use Rattle.dv_form.proofs.read.short_of.Goals as goal

pub returns : goal.returns
unfolding short_of
returns c =
    let fits : SFits w64 c.integer_of.result = search rules in
    let tried = simp to_z-of_z at c.try_from.ensures in
    let short : SFits w32 c.unwrap_or.result = search rules in
    rw to_z-of_z (c.unwrap_or.ensures ∙ narrowed _ _ tried ∙ ap (λ (z : ℤ). cond (is_short z) z (pos 0)) c.integer_of.ensures)
