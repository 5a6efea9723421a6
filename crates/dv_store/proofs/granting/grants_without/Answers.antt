use Rattle.std.proofs.Common.{◌≡◌, ◌≤◌, ap, sym, ◌∙◌, arith}
use Rattle.std.specs.Prelude.{true, false}
use Rattle.std.specs.FinMap as map
use Rattle.dv_store.proofs.KeptLaws.{grant_total}
use Rattle.dv_store.proofs.Counts.{len_there, len_without}
use Rattle.dv_store.proofs.granting.grants_without.Goals as goal

pub overflow_sub-result : goal.overflow_sub-result
overflow_sub-result c =
    let m = c.args.cells.now.present.world.grants in
    let n : c.totals-grants.result.grants ≡ map.len m = ap (λ t. t.grants) c.totals-grants.ensures ∙ c.requires.grants in
    let one : 1 ≤ map.len m = len_there grant_total m c.args.key (sym c.has_grant.ensures ∙ c.if-has_grant.true) in
    omega (arith, n, one)

pub returns-then-has_grant : goal.returns-then-has_grant
returns-then-has_grant c =
    let m = c.args.cells.now.present.world.grants in
    len_without grant_total m c.args.key c.totals-grants.result.grants true (ap (λ t. t.grants) c.totals-grants.ensures ∙ c.requires.grants) (sym c.has_grant.ensures ∙ c.if-has_grant.true)

pub returns-else-has_grant : goal.returns-else-has_grant
returns-else-has_grant c =
    let m = c.args.cells.now.present.world.grants in
    len_without grant_total m c.args.key c.totals-grants.result.grants false (ap (λ t. t.grants) c.totals-grants.ensures ∙ c.requires.grants) (sym c.has_grant.ensures ∙ c.if-has_grant.false)
