use Rattle.std.proofs.Common.{◌∙◌, sym, ap, decimal, arith, true≢false}
use Rattle.std.proofs.lemmas.Slice.Eq.{bytes_eq-Decides}
use Rattle.dv_value.proofs.Versions.{printed_version_of-decimal, printed_version_of-other, numeral, below}
use Rattle.dv_value.proofs.token.read_printed.Goals as goal

pub returns-in_default : goal.returns-in_default
returns-in_default c = sym (printed_version_of-other c.args.text.now
    (λ n h e. c.in_default.ensures.value.0 ((numeral n _ h e).0, below _ n (numeral n _ h e).1 h)))

pub returns-then-version-gt-LAST_VERSION : goal.returns-then-version-gt-LAST_VERSION
returns-then-version-gt-LAST_VERSION c = sym (printed_version_of-other c.args.text.now
    (λ n h e. absurd (omega (arith, h, c.in-Ok.ensures.value.0.1, (numeral n _ h e).1, c.if-version-gt-LAST_VERSION.true))))

pub returns-then-eq : goal.returns-then-eq
returns-then-eq c = sym (printed_version_of-decimal c.in-Ok.version c.args.text.now (omega (arith, c.if-version-gt-LAST_VERSION.false))
    (sym c.format.ensures.text ∙ (bytes_eq-Decides _ _).0 (sym c.if-eq.ensures)))

pub returns-else-eq : goal.returns-else-eq
returns-else-eq c = sym (printed_version_of-other c.args.text.now
    (λ n h e. true≢false (sym ((bytes_eq-Decides _ _).1 (c.format.ensures.text ∙ ap decimal (c.in-Ok.ensures.value.0.1 ∙ (numeral n _ h e).1) ∙ e)) ∙ sym c.if-eq.ensures)))
