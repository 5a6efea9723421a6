use Rattle.std.proofs.Common.{◌∙◌, ap, encode_utf8_all, FitsSigned, w64}
use Rattle.std.proofs.lemmas.Int.{to_z-of_z}
use Rattle.std.proofs.lemmas.Result.{IfOk-weaker}
use Rattle.std.proofs.lemmas.Str.Ascii.{encodes-IsAscii}
use Rattle.dv_value.specs.Moment.{moment_of}
use Rattle.dv_value.proofs.Moments.{ascii_civil, moment_of-text}
use Rattle.dv_value.proofs.moment.print_moment.Goals as goal

pub returns-clause-read_again : goal.returns-clause-read_again
returns-clause-read_again c =
    let fits : FitsSigned w64 c.args.seconds = c.ranges.seconds in
    let at = simp to_z-of_z at c.at-civil.ensures in
    IfOk-weaker c.print.result _ _ (λ text e.
    ap (λ t. moment_of (encode_utf8_all t)) e ∙ ap moment_of (encodes-IsAscii _ (ascii_civil c.at-civil.result)) ∙ moment_of-text c.at-civil.result c.args.seconds at) c.print.ensures
