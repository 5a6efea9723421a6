use Rattle.dv_value.proofs.RoundTrips.{empty_keeps, truth_of_kind, truth_within, number_of_kind, number_within, text_of_kind, text_within}
use Rattle.dv_value.proofs.typing.type_raw.Goals as goal

pub returns-in-Null-clause-of_kind : goal.returns-in-Null-clause-of_kind
returns-in-Null-clause-of_kind c = (empty_keeps c.args.kind.now).0

pub returns-in-Null-clause-within : goal.returns-in-Null-clause-within
returns-in-Null-clause-within c = (empty_keeps c.args.kind.now).1

pub returns-in-Bool-clause-of_kind : goal.returns-in-Bool-clause-of_kind
returns-in-Bool-clause-of_kind c = truth_of_kind c.args.kind.now c.in-Bool.flag c.type_truth.result c.type_truth.ensures

pub returns-in-Bool-clause-within : goal.returns-in-Bool-clause-within
returns-in-Bool-clause-within c = truth_within c.args.kind.now c.in-Bool.flag c.type_truth.result c.type_truth.ensures

pub returns-in-Int-clause-of_kind : goal.returns-in-Int-clause-of_kind
returns-in-Int-clause-of_kind c = number_of_kind c.args.kind.now _ c.type_number.result c.type_number.ensures

pub returns-in-Int-clause-within : goal.returns-in-Int-clause-within
returns-in-Int-clause-within c = number_within c.args.kind.now _ c.type_number.result c.type_number.ensures

pub returns-in-Str-clause-of_kind : goal.returns-in-Str-clause-of_kind
returns-in-Str-clause-of_kind c = text_of_kind c.args.kind.now c.in-Str.text c.type_text.result c.type_text.ensures.ok

pub returns-in-Str-clause-within : goal.returns-in-Str-clause-within
returns-in-Str-clause-within c = text_within c.args.kind.now c.in-Str.text c.type_text.result c.type_text.ensures.ok
