-- Empty lines, one after the other.
use Rattle.std.proofs.Common.{◌≡◌, ◌≢◌, ℕ, List, [], ◌∷◌, ◌++◌, sym, ap, ◌∙◌}
use Rattle.httparse.specs.Grammar.{LineEnd, crlf, lf, print_end, print_blank}
use Rattle.dv_http.specs.Head.{AreEmptyLines}

-- one empty line more
pub AreEmptyLines-more : (bytes after : List ℕ) (end : LineEnd) → bytes ≡ print_end end ++ after → AreEmptyLines after
    → AreEmptyLines bytes
AreEmptyLines-more bytes after end e empty =
    (end ∷ empty.0, e ∙ ap (λ (t : List ℕ). print_end end ++ t) empty.1)

-- what follows one line end is what follows any other at that place
after_end : (a b : LineEnd) (r q : List ℕ) → print_end a ++ r ≡ print_end b ++ q → r ≡ q
after_end crlf crlf r q e = cc e
after_end crlf lf r q e = absurd (cc e)
after_end lf crlf r q e = absurd (cc e)
after_end lf lf r q e = cc e

no_end : (end : LineEnd) (after : List ℕ) → print_end end ++ after ≡ [] → ⊥
no_end crlf after e = absurd (cc e)
no_end lf after e = absurd (cc e)

-- and one less
pub AreEmptyLines-less : (bytes after : List ℕ) (end : LineEnd) → bytes ≡ print_end end ++ after → AreEmptyLines bytes
    → AreEmptyLines after
AreEmptyLines-less bytes after end e (ends, is) = go ends is
  where
    go : (ends : List LineEnd) → bytes ≡ print_blank ends → AreEmptyLines after
    go [] is = absurd (no_end end after (sym e ∙ is))
    go (first ∷ ends) is = (ends, after_end end first after (print_blank ends) (sym e ∙ is))

-- bytes that are there and begin with no empty line aren't empty lines
pub AreEmptyLines-no : (bytes : List ℕ) → bytes ≢ [] → ((end : LineEnd) (after : List ℕ) → bytes ≢ print_end end ++ after)
    → AreEmptyLines bytes → ⊥
AreEmptyLines-no bytes there none (ends, is) = go ends is
  where
    go : (ends : List LineEnd) → bytes ≡ print_blank ends → ⊥
    go [] is = there is
    go (first ∷ ends) is = none first (print_blank ends) is
