use Rattle.std.proofs.Common.{◌≡◌, ◌+◌, ◌≤◌, List, [], length, take, flat_map, ◌++◌, ap, ◌∙◌, sym, subst, arith}
use Rattle.std.proofs.lemmas.List.{length-append}
use Rattle.dv_meta.specs.Columns.{names_of}
use Rattle.dv_meta.specs.Index.{Finds}
use Rattle.dv_schema.specs.Names.{Name}
use Rattle.dv_meta.proofs.IndexLaws.{flat_map-take-more, length-names_by}
use Rattle.dv_meta.proofs.index.table_columns.number_columns.Goals as goal

pub loop-column-preserved : goal.loop-column-preserved
loop-column-preserved c =
    let xs = c.args.columns.now in
    let i = c.loop-column.column-index in
    let x = c.column-item.result in
    let so_far = flat_map names_of (take i xs) in
    let most : length (names_of x) ≤ 3 = length-names_by x.form x.name in
    let more : so_far ++ names_of x ≡ flat_map names_of (take (i + 1) xs) = flat_map-take-more names_of [] xs i x (omega arith) c.column-item.is in
    let longer : length (flat_map names_of (take (i + 1) xs)) ≡ length so_far + length (names_of x) = sym (ap length more) ∙ length-append so_far (names_of x) in
    let counted = c.loop-column.invariant.counted in
    let next = c.in_ok-next.ensures.next in
    record {
      few = omega (arith, most, next, c.loop-column.invariant.few);
      counted = omega (arith, longer, next, counted);
      finds = λ names count found.
          let P : List Name → Type 0 = Finds c.number_column.new.numbers in
          let here : length (names ++ so_far) ≡ c.loop-column.next = omega (arith, length-append names so_far, counted, count) in
          subst P (flat_map-take-more names_of names xs i x (omega arith) c.column-item.is) (c.in_ok-next.ensures.finds (names ++ so_far) here (c.loop-column.invariant.finds names count found));
    }
