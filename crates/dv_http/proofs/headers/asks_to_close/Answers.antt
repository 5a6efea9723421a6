use Rattle.std.proofs.Common.{sym, ◌∙◌}
use Rattle.std.proofs.lemmas.Bool.{false≢true}
use Rattle.dv_http.proofs.Values.{asks_to_close-this, asks_to_close-other, asks_to_close-none}
use Rattle.dv_http.proofs.headers.asks_to_close.Goals as goal

pub returns-then-is_same_word : goal.returns-then-is_same_word
returns-then-is_same_word c =
    sym (c.loop-connection.invariant.same ∙ asks_to_close-this _ _ _ c.in-Some.ensures.value
    (c.is_same_word.ensures.0 c.if-is_same_word.true))

pub loop-connection-preserved : goal.loop-connection-preserved
loop-connection-preserved c = record {
  within = c.in-Some.ensures.within;
  same = c.loop-connection.invariant.same ∙ asks_to_close-other _ _ _ c.in-Some.ensures.value
      (λ same. false≢true (sym c.if-is_same_word.false ∙ c.is_same_word.ensures.1 same));
}

pub returns : goal.returns
returns c = sym (c.loop-connection.invariant.same ∙ asks_to_close-none _ c.in_default.ensures.value)
