use Rattle.std.proofs.Common.{ℕ, List, map, sym, ap, ◌∙◌}
use Rattle.std.proofs.lemmas.Bool.{false≢true}
use Rattle.std.specs.Char.{to_ascii_lowercase}
use Rattle.httparse.specs.declared.spans.HeaderSpan.{HeaderSpan}
use Rattle.dv_http.proofs.Values.{values_of-found, values_of-passed}
use Rattle.dv_http.proofs.headers.find.Goals as goal

abbrev empty_span : HeaderSpan
empty_span = record { name = record { start = 0; end = 0 }; value = record { start = 0; end = 0 } }

pub returns-then-is_same_word-clause-value : goal.returns-then-is_same_word-clause-value
returns-then-is_same_word-clause-value c =
    rw c.of-then-is_same_word.ensures
    (c.loop-at.invariant
    ∙ values_of-found c.args.bytes.now c.args.name.now c.args.headers.now c.loop-at.at empty_span c.loop-at-test.true
    (ap (λ (t : List ℕ). map to_ascii_lowercase t) (sym c.of.ensures)
    ∙ c.is_same_word.ensures.0 c.if-is_same_word.true))

pub loop-at-preserved : goal.loop-at-preserved
loop-at-preserved c =
    c.loop-at.invariant
    ∙ values_of-passed c.args.bytes.now c.args.name.now c.args.headers.now c.loop-at.at empty_span c.loop-at-test.true
    (λ same. false≢true (sym c.if-is_same_word.false ∙ c.is_same_word.ensures.1
    (ap (λ (t : List ℕ). map to_ascii_lowercase t) c.of.ensures ∙ same)))
