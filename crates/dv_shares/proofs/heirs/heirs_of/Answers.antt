use Rattle.std.proofs.Common.{◌<◌, ◌≤◌, ◌+◌, ◌++◌, [], length, take, get_or, reverse, refl, ap, ◌∙◌, arith}
use Rattle.std.proofs.lemmas.List.{take_all}
use Rattle.std.proofs.lemmas.List.Folds.{list_any_more}
use Rattle.std.specs.Prelude.{◌||◌, false}
use Rattle.dv_store.specs.declared.keys.RowKey.{RowKey}
use Rattle.dv_store.specs.Keys.{is_row}
use Rattle.dv_cascade.specs.Chains.{is_among}
use Rattle.dv_shares.proofs.Climbing.{among_index, heirs-begun, heirs-more, heirs-said, heirs-end}
use Rattle.dv_shares.proofs.heirs.heirs_of.Goals as goal

-- what stands for a row past the end
abbrev no_row : RowKey
no_row = record { table = 0; id = record { 0 = 0 } }

pub loop-row-init : goal.loop-row-init
loop-row-init c =
    let w = c.args.store.now.present in
    let d = c.args.definition.now in
    heirs-said w d c.args.set.now c.in_ok-waiting.waiting (λ row. false) (is_among []) [] c.new-heirs.result.items (λ row. refl) c.new-heirs.ensures.items (heirs-begun w d c.args.set.now c.in_ok-waiting.waiting c.in_ok-waiting.ensures)

pub loop-row-preserved : goal.loop-row-preserved
loop-row-preserved c =
    let w = c.args.store.now.present in
    let d = c.args.definition.now in
    let set = c.args.set.now in
    let i = c.loop-row.row-index in
    let lt : i < length set = omega (arith, c.loop-row-test.true) in
    let row = get_or set i no_row in
    let done = is_among (take i set) in
    let more = reverse c.in_ok-path.path.items in
    heirs-said w d set c.climb.new.waiting (λ other. done other || is_row other row) (is_among (take (i + 1) set)) (c.loop-row.heirs.items ++ more) c.append.new.self.items
    (λ other. list_any_more (is_row other) set i no_row lt)
    (c.in_ok-append.ensures.items ∙ ap (λ later. c.loop-row.heirs.items ++ later) c.reverse.ensures.items)
    (heirs-more w d set c.loop-row.waiting c.climb.new.waiting done c.loop-row.heirs.items more row (among_index set i no_row lt) c.loop-row.invariant c.in_ok-path.ensures)

pub returns : goal.returns
returns c =
    let set = c.args.set.now in
    let le : length set ≤ c.loop-row.row-index = omega (arith, c.loop-row-test.false) in
    heirs-end c.args.store.now.present c.args.definition.now set c.loop-row.waiting (is_among (take c.loop-row.row-index set)) c.loop-row.heirs.items (λ row. ap (λ rows. is_among rows row) (take_all c.loop-row.row-index set le)) c.loop-row.invariant
