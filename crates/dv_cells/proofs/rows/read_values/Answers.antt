use Rattle.dv_value.specs.declared.spelling.TakeFault.TheVariants.{NotCanonical}
use Rattle.dv_cells.proofs.Spelled.{handed_on, no_values, not_empty, IsReading-start, IsReading-step}
use Rattle.dv_cells.proofs.rows.read_values.Goals as goal

pub loop-rest-init : goal.loop-rest-init
loop-rest-init c = rw c.new-values.ensures (IsReading-start c.args.bytes.now)

pub returns-in-Err-clause-refused : goal.returns-in-Err-clause-refused
returns-in-Err-clause-refused c e =
    no_values c.args.bytes.now c.loop-rest.rest.now c.loop-rest.values c.loop-rest.invariant (not_empty c.loop-rest.rest.now c.is_empty.result c.is_empty.ensures c.loop-rest-test.true) (c.in-Err.ensures.refused (handed_on c.in-Err.fault NotCanonical e))

pub loop-rest-preserved : goal.loop-rest-preserved
loop-rest-preserved c =
    rw (c.split_at.ensures.back, c.in_ok-keep.ensures)
    (IsReading-step c.args.bytes.now c.loop-rest.rest.now c.loop-rest.values c.in-Ok.taken.0 c.in-Ok.taken.1 c.loop-rest.invariant (not_empty c.loop-rest.rest.now c.is_empty.result c.is_empty.ensures c.loop-rest-test.true) c.in-Ok.ensures.taken c.in-Ok.ensures.again)
