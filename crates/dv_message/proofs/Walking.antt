-- A walk over checks goes on to the next where one passes.
use Rattle.std.proofs.Common.{◌≡◌, inl, inr, ℕ, ◌<◌, ◌≤◌, ◌+◌, List, [], ◌∷◌, length, drop, get_or, refl, ◌∙◌, add-one, arith, length-drop}
use Rattle.std.proofs.lemmas.List.{nil_from_length}
use Rattle.std.proofs.Math.Seq.{drop-cons}
use Rattle.std.specs.Prelude.{Option, None, Result, Ok, Err}
use Rattle.dv_refusal.specs.declared.refusal.Refusal.{Refusal}
use Rattle.dv_message.specs.declared.stop.Stop.{Stop}
use Rattle.dv_message.specs.declared.stop.Stop.TheVariants.{Refused, OutOfMemory}
use Rattle.dv_message.specs.Checked.{AllPass, FirstSays, Walked, Answers}

module _ {Check : Type 0} (T : Type 0) (Says : Check → Option Refusal → Type 0) where
  -- the walk that goes on behind a check that passes is the walk with it
  pub passed : (check : Check) (checks : List Check) → Says check None → (result : Result T Stop) → Walked Says checks result → Walked Says (check ∷ checks) result
  unfolding AllPass FirstSays
  passed check checks ok (Ok value) all = (ok, all)
  passed check checks ok (Err (Refused refusal)) first = inr (ok, first)
  passed check checks ok (Err OutOfMemory) t = tt

  -- the walk ends with a check that doesn't pass
  pub ended : (check : Check) (checks : List Check) (stop : Stop) → Answers {T = T} (Says check) (Err stop) → Walked {T = T} Says (check ∷ checks) (Err stop)
  unfolding FirstSays
  ended check checks (Refused refusal) said = inl said
  ended check checks OutOfMemory t = tt

-- the rest of a list is its next item and what comes behind; past the end nothing is left
pub drop_at : {A : Type 0} (xs : List A) (i : ℕ) (d : A) → i < length xs → drop i xs ≡ get_or xs i d ∷ drop (i + 1) xs
drop_at xs i d lt = drop-cons xs i d lt ∙ rw add-one refl

pub drop_past : {A : Type 0} (xs : List A) (i : ℕ) → length xs ≤ i → drop i xs ≡ []
drop_past xs i le = nil_from_length (drop i xs) (omega (arith, length-drop i xs, le))
