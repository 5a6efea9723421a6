-- Bytes that are two parts, of which the first has a known length.
use Rattle.std.proofs.Common.{◌≡◌, ℕ, List, ◌++◌, length, take, drop, sym, ◌∙◌}
use Rattle.std.proofs.lemmas.List.{take-append-drop}
use Rattle.std.proofs.Math.Seq.{take-append_seam, drop-append_seam}

module _ (n : ℕ) (bytes first second : List ℕ) (width : length first ≡ n) where
  pub front_is : bytes ≡ first ++ second → take n bytes ≡ first
  front_is is = rw (is, ← width) (take-append_seam first second)

  pub back_is : bytes ≡ first ++ second → drop n bytes ≡ second
  back_is is = rw (is, ← width) (drop-append_seam first second)

pub joined : (n : ℕ) (bytes front back first second : List ℕ) → front ≡ take n bytes → back ≡ drop n bytes → front ≡ first → back ≡ second → bytes ≡ first ++ second
joined n bytes front back first second f b is_first is_second =
    sym (take-append-drop n bytes) ∙ (λ i. (sym f ∙ is_first) i ++ (sym b ∙ is_second) i)
