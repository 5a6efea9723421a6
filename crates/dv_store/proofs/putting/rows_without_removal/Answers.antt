use Rattle.std.proofs.Common.{◌≡◌, ◌≤◌, ◌+◌, ◌-◌, refl, ap, sym, ◌∙◌, arith}
use Rattle.std.specs.Prelude.{true, false}
use Rattle.std.specs.FinMap as map
use Rattle.dv_store.proofs.KeptLaws.{row_total}
use Rattle.dv_store.proofs.Counts.{len_there, len_without}
use Rattle.dv_store.proofs.putting.rows_without_removal.Goals as goal

pub overflow_sub-result : goal.overflow_sub-result
overflow_sub-result c =
    let w = c.args.cells.now.present.world in
    let n : c.totals-rows.result.rows ≡ map.len w.rows + map.len w.removals = ap (λ t. t.rows) c.totals-rows.ensures ∙ c.requires.rows in
    let one : 1 ≤ map.len w.removals = len_there row_total w.removals c.args.key (sym c.has_removal.ensures ∙ c.if-has_removal.true) in
    omega (arith, n, one)

pub returns-then-has_removal : goal.returns-then-has_removal
returns-then-has_removal c =
    let w = c.args.cells.now.present.world in
    let n : c.totals-rows.result.rows ≡ map.len w.rows + map.len w.removals = ap (λ t. t.rows) c.totals-rows.ensures ∙ c.requires.rows in
    let there = sym c.has_removal.ensures ∙ c.if-has_removal.true in
    let one : 1 ≤ map.len w.removals = len_there row_total w.removals c.args.key there in
    let less : map.len w.removals - 1 ≡ map.len (map.remove w.removals c.args.key) = len_without row_total w.removals c.args.key (map.len w.removals) true refl there in
    omega (arith, n, one, less)

pub returns-else-has_removal : goal.returns-else-has_removal
returns-else-has_removal c =
    let w = c.args.cells.now.present.world in
    let n : c.totals-rows.result.rows ≡ map.len w.rows + map.len w.removals = ap (λ t. t.rows) c.totals-rows.ensures ∙ c.requires.rows in
    let same : map.len w.removals ≡ map.len (map.remove w.removals c.args.key) = len_without row_total w.removals c.args.key (map.len w.removals) false refl (sym c.has_removal.ensures ∙ c.if-has_removal.false) in
    omega (arith, n, same)
