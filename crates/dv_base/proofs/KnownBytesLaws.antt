-- How what is left and what was written go over several calls.
use Rattle.std.proofs.Common.{◌≡◌, ℕ, ◌+◌, List, [], ◌++◌, length, take, drop, Option, Some, None, refl, sym, ap, ◌∙◌, append_assoc, append-nil, length-append, arith}
use Rattle.std.proofs.Math.Seq.{take-add, take-append-add}
use Rattle.std.specs.Io.KnownBytes.{prepend_known, append_known}
use Rattle.dv_base.specs.Sink.{IsCut}

-- writing nothing
pub append_known-nil : (written : Option (List ℕ)) → append_known written [] ≡ written
append_known-nil None = refl
append_known-nil (Some bytes) = ap Some (append-nil bytes)

-- one piece written after another is their join written
pub append_known-append : (written : Option (List ℕ)) (first second : List ℕ)
    → append_known (append_known written first) second ≡ append_known written (first ++ second)
append_known-append None first second = refl
append_known-append (Some bytes) first second = ap Some (append_assoc bytes first second)

-- a part of a piece, and then a part of what is left of it, is a longer part of the piece
pub append_known-parts : (written : Option (List ℕ)) (n m : ℕ) (piece : List ℕ)
    → append_known (append_known written (take n piece)) (take m (drop n piece)) ≡ append_known written (take (n + m) piece)
append_known-parts written n m piece =
    append_known-append written (take n piece) (take m (drop n piece)) ∙ ap (append_known written) (sym (take-add n m piece))

-- a piece that was written, and a cut of the next, are a cut of their join
pub IsCut-after : (before middle now : Option (List ℕ)) (piece next : List ℕ)
    → middle ≡ append_known before piece → IsCut next middle now → IsCut (piece ++ next) before now
IsCut-after before middle now piece next whole cut = (
  length piece + cut.0,
  rw length-append (omega (arith, cut.1)),
  cut.2 ∙ ap (λ w. append_known w (take cut.0 next)) whole ∙ append_known-append before piece (take cut.0 next)
      ∙ ap (append_known before) (sym (take-append-add piece next cut.0)),
)

-- reading nothing
pub prepend_known-nil : (left : Option (List ℕ)) → prepend_known [] left ≡ left
prepend_known-nil None = refl
prepend_known-nil (Some bytes) = refl

-- bytes read one after the other are their join read
pub prepend_known-append : (left : Option (List ℕ)) (first second : List ℕ)
    → prepend_known first (prepend_known second left) ≡ prepend_known (first ++ second) left
prepend_known-append None first second = refl
prepend_known-append (Some bytes) first second = ap Some (sym (append_assoc first second bytes))
