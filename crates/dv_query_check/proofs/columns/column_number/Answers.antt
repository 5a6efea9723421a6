use Rattle.std.proofs.Common.{position, option_map, sym, ap, ◌∙◌}
use Rattle.dv_schema.specs.Names.{same_name}
use Rattle.dv_query_check.specs.Resolved.{column_number}
use Rattle.dv_query_check.proofs.columns.column_number.Goals as goal

pub returns-in-Some : goal.returns-in-Some
unfolding column_number
returns-in-Some c =
    c.place_of.ensures ∙ ap (position (λ column. same_name column.name c.args.name.now)) c.as_slice.ensures
    ∙ sym (ap (λ o. column_number (option_map (λ t. t.now) o) c.args.name.now) c.in-Some.is)
