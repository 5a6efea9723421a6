use Rattle.std.proofs.Common.{List, ◌++◌, ℕ, drop}
use Rattle.dv_value.specs.declared.raw.Raw.{Raw}
use Rattle.dv_pipeline.specs.Querying.{querying_in, ShowsRows}
use Rattle.dv_pipeline.proofs.querying.show_rows.Given as goal

abbrev pub invariant-loop-id : goal.invariant-loop-id
invariant-loop-id l = (rest : List (List (List ℕ × Raw)))
    → ShowsRows (querying_in l.fn.store.present l.fn.asked) (drop l.id-index l.ids) rest
    → ShowsRows (querying_in l.fn.store.present l.fn.asked) l.ids (l.rows ++ rest)
