use Rattle.std.proofs.Common.{◌++◌, take, ap, sym, ◌∙◌, append_assoc, append-nil}
use Rattle.std.proofs.lemmas.List.{take_more}
use Rattle.dv_cells.specs.Bytes.{values_bytes}
use Rattle.dv_value.specs.Spelling.{spelling_of}
use Rattle.dv_cells.proofs.Spelled.{values_bytes-append, AreSpelled-at}
use Rattle.dv_cells.proofs.rows.put_values.Goals as goal

pub loop-value-init : goal.loop-value-init
unfolding values_bytes
loop-value-init c = sym (append-nil c.args.out.now.items)

pub put_value-requires : goal.put_value-requires
put_value-requires c = rw c.value-item.is (AreSpelled-at c.args.values.now c.loop-value.value-index c.value-item.result c.requires c.loop-value-test.true)

pub loop-value-preserved : goal.loop-value-preserved
loop-value-preserved c =
    rw (take_more c.args.values.now c.loop-value.value-index c.value-item.result c.loop-value-test.true, ← c.value-item.is)
    (c.in_ok-put_value.ensures.ok ∙ ap (λ out. out ++ spelling_of c.value-item.result) c.loop-value.invariant
    ∙ append_assoc c.args.out.now.items (values_bytes (take c.loop-value.value-index c.args.values.now)) (spelling_of c.value-item.result)
    ∙ ap (λ back. c.args.out.now.items ++ back) (sym (values_bytes-append (take c.loop-value.value-index c.args.values.now) c.value-item.result)))
