use Rattle.std.proofs.Common.{Some, refl, sym, ◌∙◌}
use Rattle.dv_value.proofs.Amounts.{no_whole_at, no_fraction_at, joined_at, split_some, split_none}
use Rattle.dv_value.proofs.amount.read_magnitude.Goals as goal

pub returns-in_err-read_whole-in-Some : goal.returns-in_err-read_whole-in-Some
returns-in_err-read_whole-in-Some c =
    no_whole_at c.args.scale _ _ _ c.read_whole.result _ (split_some c.args.text.now c.split_once.result (c.in-Some.whole, c.in-Some.decimals) c.args.scale c.split_once.ensures.cases c.in-Some.is) c.read_whole.ensures c.in_err-read_whole-in-Some.was c.from_residual.ensures

pub returns-in_err-read_decimals-in-Some : goal.returns-in_err-read_decimals-in-Some
returns-in_err-read_decimals-in-Some c =
    no_fraction_at c.args.scale _ _ _ _ (split_some c.args.text.now c.split_once.result (c.in-Some.whole, c.in-Some.decimals) c.args.scale c.split_once.ensures.cases c.in-Some.is) (sym c.read_decimals.ensures ∙ c.in_err-read_decimals-in-Some.was) c.from_residual-in_err-read_decimals-in-Some.ensures

pub returns-in_err-read_whole-in-None : goal.returns-in_err-read_whole-in-None
returns-in_err-read_whole-in-None c =
    no_whole_at c.args.scale _ _ (Some 0) c.read_whole-in-None.result _ (split_none c.args.text.now c.split_once.result c.args.scale c.split_once.ensures.cases c.in-None.is) c.read_whole-in-None.ensures c.in_err-read_whole-in-None.was c.from_residual-in_err-read_whole-in-None.ensures

pub returns-in_ok-read_decimals-in-Some : goal.returns-in_ok-read_decimals-in-Some
returns-in_ok-read_decimals-in-Some c =
    joined_at c.args.scale _ _ _ c.read_whole.result c.joined.result _ _ (split_some c.args.text.now c.split_once.result (c.in-Some.whole, c.in-Some.decimals) c.args.scale c.split_once.ensures.cases c.in-Some.is) c.read_whole.ensures c.in_ok-read_whole-in-Some.was (sym c.read_decimals.ensures ∙ c.in_ok-read_decimals-in-Some.was) c.joined.ensures

pub returns-in_ok-read_whole-in-None : goal.returns-in_ok-read_whole-in-None
returns-in_ok-read_whole-in-None c =
    joined_at c.args.scale _ _ _ c.read_whole-in-None.result c.joined-in-None.result _ 0 (split_none c.args.text.now c.split_once.result c.args.scale c.split_once.ensures.cases c.in-None.is) c.read_whole-in-None.ensures c.in_ok-read_whole-in-None.was refl c.joined-in-None.ensures
