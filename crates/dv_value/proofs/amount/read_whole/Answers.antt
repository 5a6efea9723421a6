use Rattle.std.proofs.Common.{◌≡◌, refl, true, false}
use Rattle.dv_value.specs.Amount.{is_whole}
use Rattle.dv_value.proofs.Amounts.{parsed_whole, not_whole}
use Rattle.dv_value.proofs.amount.read_whole.Goals as goal

pub returns-then-not-is_whole : goal.returns-then-not-is_whole
returns-then-not-is_whole c =
    let no : is_whole c.args.text.now ≡ false = cc in
    not_whole c.args.text.now _ no refl

pub returns : goal.returns
returns c =
    let yes : is_whole c.args.text.now ≡ true = cc in
    rw c.ok.ensures.value (parsed_whole c.args.text.now c.parse.result yes c.parse.ensures.value.0)
