use Rattle.std.proofs.Common.{◌≡◌, ◌∙◌, ap, chars, encode_utf8_all, string_bytes, FitsSigned, w64}
use Rattle.std.proofs.lemmas.Int.{to_z-of_z}
use Rattle.std.proofs.lemmas.Str.Ascii.{encodes-IsAscii}
use Rattle.dv_value.specs.Amount.{amount_of, amount_text}
use Rattle.dv_value.proofs.Amounts.{printed_at, ascii_amount, chars-ascii, amount_of-text}
use Rattle.dv_value.proofs.amount.print_amount.Goals as goal

bytes_are : goal.returns-clause-text
bytes_are c =
    let fits : FitsSigned w64 c.args.amount = c.ranges.amount in
    let size = simp to_z-of_z at c.unsigned_abs-magnitude.ensures.value in
    let first = simp to_z-of_z at c.in_ok-text.ensures in
    let bytes : string_bytes c.push_decimals.new.text ≡ amount_text c.args.scale c.args.amount =
    printed_at c.args.scale c.args.amount c.unsigned_abs-magnitude.result c.unit.result (string_bytes c.in_ok-text.text) _ size c.unit.ensures.value first c.in_ok-push_decimals.ensures in
    c.from_string.ensures ∙ ap chars bytes ∙ chars-ascii (amount_text c.args.scale c.args.amount) (ascii_amount c.args.scale c.args.amount c.ranges.amount)

pub returns-clause-text : goal.returns-clause-text
returns-clause-text c = bytes_are c

pub returns-clause-read_again : goal.returns-clause-read_again
returns-clause-read_again c =
    ap (λ text. amount_of c.args.scale (encode_utf8_all text)) (bytes_are c)
    ∙ ap (amount_of c.args.scale) (encodes-IsAscii (amount_text c.args.scale c.args.amount) (ascii_amount c.args.scale c.args.amount c.ranges.amount))
    ∙ amount_of-text c.args.scale c.args.amount c.ranges.amount
