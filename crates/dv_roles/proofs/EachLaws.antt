-- Steps for the items of a list in turn.
use Rattle.std.proofs.Common.{◌≡◌, refl, sym, ap, ◌∙◌, ℕ, zero, suc, ◌+◌, ◌<◌, ◌≤◌, List, [], ◌∷◌, length, drop, get_or, arith}
use Rattle.std.proofs.lemmas.List.{drop_more, drop_all}
use Rattle.std.specs.Prelude.{Result, Ok}
use Rattle.dv_refusal.specs.declared.refusal.Refusal.{Refusal}
use Rattle.dv_units.specs.declared.fault.DirFault.{DirFault}
use Rattle.dv_units.specs.declared.fault.DirFault.TheVariants.{Refused, OutOfMemory}
use Rattle.dv_units.specs.Outcome.{IsFaultOf}
use Rattle.dv_roles.specs.State.{State}
use Rattle.dv_roles.specs.Beginning.{and_then, each}

module _ {A : Type 0} (step : State → A → Result State Refusal) where
  each-one : (xs : List A) (i : ℕ) (x : A) (d : State) → i < length xs → x ≡ get_or xs i x → each step d (drop i xs) ≡ and_then (step d x) (λ e. each step e (drop (i + 1) xs))
  unfolding each
  each-one xs i x d within read =
      ap (each step d) (drop_more xs i x within) ∙ ap (λ y. and_then (step d y) (λ e. each step e (drop (i + 1) xs))) (sym read)

  -- one item more
  pub each-more : (xs : List A) (i : ℕ) (x : A) (d e : State) → i < length xs → x ≡ get_or xs i x → step d x ≡ Ok e → each step d (drop i xs) ≡ each step e (drop (i + 1) xs)
  each-more xs i x d e within read made = each-one xs i x d within read ∙ ap (λ r. and_then r (λ f. each step f (drop (i + 1) xs))) made

  -- an item that is refused
  pub each-fault : (xs : List A) (i : ℕ) (x : A) (d : State) (whole : Result State Refusal) (fault : DirFault) → whole ≡ each step d (drop i xs) → i < length xs → x ≡ get_or xs i x → IsFaultOf (step d x) fault → IsFaultOf whole fault
  each-fault xs i x d whole (Refused refusal) is within read cause = is ∙ each-one xs i x d within read ∙ ap (λ r. and_then r (λ f. each step f (drop (i + 1) xs))) cause
  each-fault xs i x d whole OutOfMemory is within read cause = tt

  -- no item is left
  pub each-end : (xs : List A) (i : ℕ) (d : State) → length xs ≤ i → each step d (drop i xs) ≡ Ok d
  unfolding each
  each-end xs i d past = ap (each step d) (drop_all i xs past)

-- an item that is there is read whatever stands for one that isn't
pub read-own : {A : Type 0} (xs : List A) (i : ℕ) (d : A) → i < length xs → get_or xs i d ≡ get_or xs i (get_or xs i d)
read-own [] i d within = absurd (omega (arith, within))
read-own (y ∷ ys) zero d within = refl
read-own (y ∷ ys) (suc i) d within = read-own ys i d (omega (arith, within))
