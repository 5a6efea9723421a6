use Rattle.std.proofs.Common.{◌≡◌, ◌<◌, length, get_or, sym, ap, ◌∙◌, arith}
use Rattle.dv_meta.specs.Columns.{column_names}
use Rattle.dv_schema.proofs.FirstLaws.{first_from-more, first_from-found, first_from-end}
use Rattle.dv_meta.proofs.TakenLaws.{takes_at, takes_at-true, takes_at-false, takes_name-at, taken_in-is, column_number-first, column_number-next, length-system_names}
use Rattle.dv_meta.proofs.passes.taken_names.taken_in.Goals as goal

pub loop-j-init : goal.loop-j-init
loop-j-init c =
    let t = c.args.table.now in
    record {
      few = omega (arith, length-system_names t.user_owned, c.system_count-number.ensures);
      counted = c.system_count-number.ensures ∙ sym (column_number-first t);
      first = taken_in-is t;
    }

pub returns-then-branch : goal.returns-then-branch
returns-then-branch c =
    let t = c.args.table.now in
    let x = c.index-listed-j.result in
    let within : c.loop-j.j < length t.columns = omega (arith, c.loop-j-test.true, ap length c.as_slice-listed.ensures) in
    let read : x ≡ get_or t.columns c.loop-j.j x = c.index-listed-j.is ∙ ap (λ xs. get_or xs c.loop-j.j x) c.as_slice-listed.ensures in
    let tested = takes_name-at t c.loop-j.j c.loop-j.number x c.in_ok-takes_name.field-0 c.loop-j.invariant.counted (c.in_ok-takes_name.ensures (column_names t) c.requires.finds.all) in
    sym (c.loop-j.invariant.first ∙ first_from-found (takes_at t) t.columns c.loop-j.j x c.loop-j.j within read (takes_at-true t c.loop-j.j x (tested ∙ c.if-branch.true)))

pub loop-j-preserved : goal.loop-j-preserved
loop-j-preserved c =
    let t = c.args.table.now in
    let x = c.index-listed-j.result in
    let within : c.loop-j.j < length t.columns = omega (arith, c.loop-j-test.true, ap length c.as_slice-listed.ensures) in
    let read : x ≡ get_or t.columns c.loop-j.j x = c.index-listed-j.is ∙ ap (λ xs. get_or xs c.loop-j.j x) c.as_slice-listed.ensures in
    let tested = takes_name-at t c.loop-j.j c.loop-j.number x c.in_ok-takes_name.field-0 c.loop-j.invariant.counted (c.in_ok-takes_name.ensures (column_names t) c.requires.finds.all) in
    let count = c.names_count-number.ensures.count x.name in
    record {
      few = omega (arith, c.loop-j.invariant.few, c.names_count-number.ensures.few);
      counted = omega (arith, c.loop-j.invariant.counted, count, column_number-next t c.loop-j.j x within read);
      first = c.loop-j.invariant.first ∙ first_from-more (takes_at t) t.columns c.loop-j.j x within read (takes_at-false t c.loop-j.j x (tested ∙ c.if-branch.false));
    }

pub returns : goal.returns
returns c =
    let t = c.args.table.now in
    sym (c.loop-j.invariant.first ∙ first_from-end (takes_at t) t.columns c.loop-j.j (omega (arith, c.loop-j-test.false, ap length c.as_slice-listed.ensures)))
