use Rattle.std.proofs.Common.{◌∙◌, sym, rules, w64, SFits, to_z-of_z, true≢false}
use Rattle.dv_form.proofs.Integers.{new_none, new_long, new_short, in_more}
use Rattle.dv_form.proofs.parts.is_new_integer.Goals as goal

pub returns-then-not-is_short : goal.returns-then-not-is_short
returns-then-not-is_short c =
    let fits : SFits w64 c.in-Some.n = search rules in
    let long = simp to_z-of_z at c.is_short.ensures in
    λ earlier known. (new_long earlier _ c.in-Some.n (sym c.in-Some.ensures) (sym long ∙ c.if-not-is_short.true), λ no. absurd (true≢false (sym no)))

pub returns-in_ok-add-in-Some : goal.returns-in_ok-add-in-Some
returns-in_ok-add-in-Some c =
    let fits : SFits w64 c.in-Some.n = search rules in
    let short = simp to_z-of_z at c.is_short.ensures in
    let answer = simp to_z-of_z at c.in_ok-add-in-Some.ensures.answer in
    let set = simp to_z-of_z at c.in_ok-add-in-Some.ensures.set in
    λ earlier known. (
      new_short earlier _ c.in-Some.n _ _ (sym c.in-Some.ensures) (sym short ∙ c.if-not-is_short.false) known answer,
      λ yes. in_more earlier _ c.in-Some.n _ _ (sym c.in-Some.ensures) known set,
    )

pub returns-in-None : goal.returns-in-None
returns-in-None c = λ earlier known. (new_none earlier _ (sym c.in-None.ensures), λ no. absurd (true≢false (sym no)))
