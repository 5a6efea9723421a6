use Rattle.std.proofs.Common.{◌≡◌, true, false, arith}
use Rattle.dv_value.specs.Amount.{is_decimals}
use Rattle.dv_value.proofs.Amounts.{parsed_decimals, decimals_digits, decimals_parse, decimals_fit, no_decimals, product_fits}
use Rattle.dv_value.proofs.amount.read_decimals.Goals as goal

pub returns-then-not-is_decimals : goal.returns-then-not-is_decimals
returns-then-not-is_decimals c =
    let no : is_decimals c.args.scale c.args.text.now ≡ false = cc in
    no_decimals c.args.scale c.args.text.now no

pub overflow_cast-text : goal.overflow_cast-text
overflow_cast-text c =
    let yes : is_decimals c.args.scale c.args.text.now ≡ true = cc in
    omega (arith, (decimals_digits c.args.scale c.args.text.now yes).2, c.requires)

pub overflow_sub-scale : goal.overflow_sub-scale
overflow_sub-scale c =
    let yes : is_decimals c.args.scale c.args.text.now ≡ true = cc in
    (decimals_digits c.args.scale c.args.text.now yes).2

pub overflow_mul-result : goal.overflow_mul-result
overflow_mul-result c =
    let yes : is_decimals c.args.scale c.args.text.now ≡ true = cc in
    product_fits c.in-Ok.digits c.unit.result (decimals_fit c.args.scale c.args.text.now c.in-Ok.digits c.parse.result c.requires yes c.parse.ensures.value.0 c.in-Ok.is) c.unit.ensures.small

pub returns-in-Ok : goal.returns-in-Ok
returns-in-Ok c =
    let yes : is_decimals c.args.scale c.args.text.now ≡ true = cc in
    parsed_decimals c.args.scale c.args.text.now c.in-Ok.digits c.unit.result c.parse.result yes c.parse.ensures.value.0 c.in-Ok.is c.unit.ensures.value

pub returns-in-Err : goal.returns-in-Err
returns-in-Err c =
    let yes : is_decimals c.args.scale c.args.text.now ≡ true = cc in
    absurd (decimals_parse c.args.scale c.args.text.now c.in-Err.field-0 c.parse.result c.requires yes c.parse.ensures.value.0 c.in-Err.is)
