use Rattle.std.proofs.Common.{arith}
use Rattle.std.proofs.lemmas.Str.Pattern.{strip_prefix_char}
use Rattle.dv_value.proofs.Amounts.{no_negative, negative, no_positive, positive}
use Rattle.dv_value.proofs.amount.read_amount.Goals as goal

pub returns-in_err-read_magnitude-in-Some : goal.returns-in_err-read_magnitude-in-Some
returns-in_err-read_magnitude-in-Some c =
    let parts = rw c.in-Some.is at (strip_prefix_char 45 c.args.text.now c.strip_prefix.result c.strip_prefix.ensures.cases (omega arith)) in
    no_negative c.args.scale c.args.text.now c.in-Some.rest.now c.read_magnitude.result c.from_residual.result parts c.read_magnitude.ensures c.in_err-read_magnitude-in-Some.was c.from_residual.ensures

pub returns-in_ok-read_magnitude-in-Some : goal.returns-in_ok-read_magnitude-in-Some
returns-in_ok-read_magnitude-in-Some c =
    let parts = rw c.in-Some.is at (strip_prefix_char 45 c.args.text.now c.strip_prefix.result c.strip_prefix.ensures.cases (omega arith)) in
    negative c.args.scale c.args.text.now c.in-Some.rest.now c.read_magnitude.result _ c.checked_sub_unsigned.result parts c.read_magnitude.ensures c.in_ok-read_magnitude-in-Some.was c.checked_sub_unsigned.ensures

pub returns-in_err-read_magnitude-in-None : goal.returns-in_err-read_magnitude-in-None
returns-in_err-read_magnitude-in-None c =
    let other = rw c.in-None.is at (strip_prefix_char 45 c.args.text.now c.strip_prefix.result c.strip_prefix.ensures.cases (omega arith)) in
    no_positive c.args.scale c.args.text.now c.read_magnitude-in-None.result c.from_residual-in_err-read_magnitude-in-None.result other c.read_magnitude-in-None.ensures c.in_err-read_magnitude-in-None.was c.from_residual-in_err-read_magnitude-in-None.ensures

pub returns-in_ok-read_magnitude-in-None : goal.returns-in_ok-read_magnitude-in-None
returns-in_ok-read_magnitude-in-None c =
    let other = rw c.in-None.is at (strip_prefix_char 45 c.args.text.now c.strip_prefix.result c.strip_prefix.ensures.cases (omega arith)) in
    positive c.args.scale c.args.text.now c.read_magnitude-in-None.result _ c.checked_add_unsigned.result other c.read_magnitude-in-None.ensures c.in_ok-read_magnitude-in-None.was c.checked_add_unsigned.ensures
