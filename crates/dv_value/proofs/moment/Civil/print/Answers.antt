use Rattle.std.proofs.Common.{sym, ◌∙◌, ap, chars, IsUtf8, subst}
use Rattle.std.proofs.lemmas.Str.{IsUtf8-from_ascii}
use Rattle.dv_value.proofs.Amounts.{chars-ascii}
use Rattle.dv_value.proofs.Moments.{ascii_civil}
use Rattle.dv_value.proofs.moment.Civil.print.Goals as goal

pub returns : goal.returns
returns c = c.in_ok-from_str-in-Ok.ensures ∙ ap chars (c.in-Ok.ensures.cases.0 ∙ c.to_text.ensures) ∙ chars-ascii _ (ascii_civil c.args.self.now)

pub unreachable-requires : goal.unreachable-requires
unreachable-requires c = c.in-Err.ensures.cases.0 (subst IsUtf8 (sym c.to_text.ensures) (IsUtf8-from_ascii _ (ascii_civil c.args.self.now)))
