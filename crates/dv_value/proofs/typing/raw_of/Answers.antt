use Rattle.std.proofs.Common.{◌∙◌, sym, ap, rules, Ok, encode_utf8_all, string_bytes, FitsSigned, w32, w64}
use Rattle.std.proofs.lemmas.Int.{to_z-of_z}
use Rattle.std.proofs.lemmas.Str.{encodes-chars, IsUtf8-string_bytes}
use Rattle.dv_value.specs.Amount.{amount_of}
use Rattle.dv_value.specs.Ids.{id_of}
use Rattle.dv_value.specs.Typing.{typed, typed_text}
use Rattle.dv_value.proofs.RoundTrips.{flag_back, whole_goes_back, choice_goes_back, amount_back, moment_back, text_back, ref_back}
use Rattle.dv_value.proofs.typing.raw_of.Goals as goal

pub returns-in-Empty-clause-back : goal.returns-in-Empty-clause-back
unfolding typed
returns-in-Empty-clause-back c = λ within. ap Ok (sym c.in-Empty.is)

pub returns-in-Flag-clause-back : goal.returns-in-Flag-clause-back
unfolding typed
returns-in-Flag-clause-back c = λ within. flag_back c.args.kind.now c.in-Flag.flag (rw c.in-Flag.is at c.requires.of_kind) ∙ ap Ok (sym c.in-Flag.is)

pub returns-in-Whole-clause-back : goal.returns-in-Whole-clause-back
unfolding typed
returns-in-Whole-clause-back c = λ within.
    let fits : FitsSigned w32 c.in-Whole.number = search rules in
    let size = simp to_z-of_z at c.from.ensures in
    whole_goes_back c.args.kind.now c.in-Whole.number c.from.result size fits (rw c.in-Whole.is at c.requires.of_kind) (rw c.in-Whole.is at within) ∙ ap Ok (sym c.in-Whole.is)

pub returns-in-Choice-clause-back : goal.returns-in-Choice-clause-back
unfolding typed
returns-in-Choice-clause-back c = λ within.
    let fits : FitsSigned w32 c.in-Choice.number = search rules in
    let size = simp to_z-of_z at c.from-in-Choice.ensures in
    choice_goes_back c.args.kind.now c.in-Choice.number c.from-in-Choice.result size fits (rw c.in-Choice.is at c.requires.of_kind) (rw c.in-Choice.is at within) ∙ ap Ok (sym c.in-Choice.is)

pub returns-in_ok-print_amount-in-Amount-clause-back : goal.returns-in_ok-print_amount-in-Amount-clause-back
unfolding typed
returns-in_ok-print_amount-in-Amount-clause-back c = λ within.
    let fits : FitsSigned w64 c.in-Amount.amount = search rules in
    let read = simp to_z-of_z at c.in_ok-print_amount-in-Amount.ensures.read_again in
    amount_back c.args.kind.now c.in-Amount.amount c.in_ok-print_amount-in-Amount.field-0 (rw c.in-Amount.is at c.requires.of_kind)
    (ap (λ scale. amount_of scale (encode_utf8_all c.in_ok-print_amount-in-Amount.field-0)) (sym c.scale.ensures.value) ∙ read)
    ∙ ap Ok (sym c.in-Amount.is)

pub returns-in_ok-print_moment-in-Moment-clause-back : goal.returns-in_ok-print_moment-in-Moment-clause-back
unfolding typed
returns-in_ok-print_moment-in-Moment-clause-back c = λ within.
    let fits : FitsSigned w64 c.in-Moment.seconds = search rules in
    let read = simp to_z-of_z at c.in_ok-print_moment-in-Moment.ensures.read_again in
    moment_back c.args.kind.now c.in-Moment.seconds c.in_ok-print_moment-in-Moment.field-0 (rw c.in-Moment.is at c.requires.of_kind) read
    ∙ ap Ok (sym c.in-Moment.is)

pub returns-in_ok-copy-in-Text-clause-back : goal.returns-in_ok-copy-in-Text-clause-back
unfolding typed
returns-in_ok-copy-in-Text-clause-back c = λ within.
    ap (typed_text c.args.kind.now) c.in_ok-copy-in-Text.ensures ∙ text_back c.args.kind.now c.in-Text.text (rw c.in-Text.is at c.requires.of_kind) (rw c.in-Text.is at within) ∙ ap Ok (sym c.in-Text.is)

pub returns-in_ok-to_text-in-Ref-clause-back : goal.returns-in_ok-to_text-in-Ref-clause-back
unfolding typed
returns-in_ok-to_text-in-Ref-clause-back c = λ within.
    ref_back c.args.kind.now c.in-Ref.id c.from_string.result (rw c.in-Ref.is at c.requires.of_kind)
    (ap (λ text. id_of (encode_utf8_all text)) c.from_string.ensures ∙ ap id_of (encodes-chars (string_bytes c.in_ok-to_text-in-Ref.field-0) (IsUtf8-string_bytes c.in_ok-to_text-in-Ref.field-0)) ∙ c.in_ok-to_text-in-Ref.ensures.read_again)
    ∙ ap Ok (sym c.in-Ref.is)
