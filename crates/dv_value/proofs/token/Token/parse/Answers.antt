use Rattle.std.proofs.Common.{ap, lit<, option_map}
use Rattle.dv_value.specs.Tokens.{token_of}
use Rattle.dv_value.proofs.Versions.{list_any-end}
use Rattle.dv_value.proofs.token.Token.parse.Goals as goal

pub returns-in_ok-version-in-None : goal.returns-in_ok-version-in-None
unfolding token_of
returns-in_ok-version-in-None c = rw (list_any-end _ c.args.text.now (c.in-None.ensures.byte (lit< tt) (λ w o f. f))) (ap (option_map (λ version. record { start = version; place = version })) c.in_ok-version-in-None.ensures)
