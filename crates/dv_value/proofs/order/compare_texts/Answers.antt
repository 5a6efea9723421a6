use Rattle.std.proofs.Common.{◌∙◌, sym, ap, chars}
use Rattle.std.proofs.lemmas.Slice.Eq.{bytes_eq-Decides}
use Rattle.dv_value.proofs.Orders.{same_text, texts_are}
use Rattle.dv_value.proofs.order.compare_texts.Goals as goal

pub returns-then-eq : goal.returns-then-eq
returns-then-eq c = same_text _ _ (ap chars ((bytes_eq-Decides c.args.a.now c.args.b.now).0 (sym c.eq.ensures ∙ c.if-eq.true)))

pub returns : goal.returns
returns c = c.cmp.ensures ∙ texts_are _ _ c.as_str.result.now c.as_str-2.result.now (c.as_str.ensures.value ∙ c.in_ok-a.ensures) (c.as_str-2.ensures.value ∙ c.in_ok-b.ensures)
