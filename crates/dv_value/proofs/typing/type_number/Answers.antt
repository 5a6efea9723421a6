use Rattle.std.proofs.Common.{◌∙◌, ◌&&◌, ap, FitsSigned, w64, List, ℤ}
use Rattle.std.specs.List.{list_any}
use Rattle.std.specs.Ordering.{int_eq}
use Rattle.std.proofs.lemmas.Int.{to_z-of_z}
use Rattle.dv_value.specs.Typing.{typed_number, in_limits, is_32}
use Rattle.dv_value.specs.declared.value.Value.TheVariants.{Choice}
use Rattle.dv_value.proofs.typing.type_number.Goals as goal

pub returns-in-Choice : goal.returns-in-Choice
unfolding typed_number
returns-in-Choice c =
    let fits : FitsSigned w64 c.args.number = c.ranges.number in
    let e = simp to_z-of_z at c.type_choice.ensures in
    rw c.in-Choice.is (e ∙ ap (λ (options : List ℤ). in_limits (is_32 c.args.number && list_any (λ option. int_eq option c.args.number) options) (Choice c.args.number)) c.as_slice.ensures)
