use Rattle.std.proofs.Common.{◌≡◌, ℕ, List, [], length, ap, sym, ◌∙◌}
use Rattle.std.proofs.lemmas.Bool.{false≢true, eq-eqb}
use Rattle.dv_http.proofs.EmptyLines.{AreEmptyLines-more, AreEmptyLines-less, AreEmptyLines-no}
use Rattle.dv_http.proofs.lines.are_empty_lines.Goals as goal

pub loop-rest-preserved : goal.loop-rest-preserved
loop-rest-preserved c =
    let begins = c.in-Some.ensures.begins in
    record {
      all = λ empty. c.loop-rest.invariant.all (AreEmptyLines-more _ _ begins.0 begins.1 empty);
      rest = λ empty. AreEmptyLines-less _ _ begins.0 begins.1 (c.loop-rest.invariant.rest empty);
    }

pub returns-in-None : goal.returns-in-None
returns-in-None c = (
  λ is. absurd (false≢true is),
  λ empty. absurd (AreEmptyLines-no _
      (λ (none : c.loop-rest.rest.now ≡ []). false≢true (sym c.loop-rest-test.true ∙ c.is_empty.ensures
      ∙ eq-eqb (length c.loop-rest.rest.now) 0 (ap (λ (t : List ℕ). length t) none)))
      c.in-None.ensures.begins (c.loop-rest.invariant.rest empty)),
)
