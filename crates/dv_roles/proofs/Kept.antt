-- What is kept of a role's entries, entry by entry.
use Rattle.std.proofs.Common.{◌≡◌, refl, sym, ap, ◌∙◌, ℕ, suc, ◌+◌, List, [], ◌∷◌, ◌++◌, slice_get, arith, append-nil, append_assoc}
use Rattle.std.proofs.lemmas.List.Concat.{flat_map-append}
use Rattle.std.specs.Prelude.{None, Some, flat_map}
use Rattle.dv_schema.specs.declared.opening.Action.{Action}
use Rattle.dv_schema.specs.declared.opening.Entry.{Entry}
use Rattle.dv_schema.specs.declared.table.Table.{Table}
use Rattle.dv_roles.specs.declared.role.RoleEntry.{RoleEntry}
use Rattle.dv_roles.specs.Entries.{greatest, kept_at, below}

module _ (kept : List RoleEntry) (tables : List Table) (entries : List Entry) (action : Action) (number : ℕ) where
  pub kept_at-no_table : slice_get tables number ≡ None → kept ≡ kept ++ kept_at tables entries action number
  unfolding kept_at
  kept_at-no_table none = rw none (sym (append-nil kept))

  pub kept_at-nothing : (table : Table) → slice_get tables number ≡ Some table → greatest entries table action ≡ None → kept ≡ kept ++ kept_at tables entries action number
  unfolding kept_at
  kept_at-nothing table there none = rw (there, none) (sym (append-nil kept))

  pub kept_at-one : (table : Table) (depth : ℕ) → slice_get tables number ≡ Some table → greatest entries table action ≡ Some depth
      → kept ++ record { action = action; table = number; depth = depth } ∷ [] ≡ kept ++ kept_at tables entries action number
  unfolding kept_at
  kept_at-one table depth there some = rw (there, some) refl

pub below-none : {A : Type 0} (front : List A) (f : ℕ → List A) → front ≡ front ++ flat_map f (below 0)
unfolding below
below-none front f = sym (append-nil front)

-- one number more
pub below-more : {A : Type 0} (front : List A) (f : ℕ → List A) (n : ℕ) → (front ++ flat_map f (below n)) ++ f n ≡ front ++ flat_map f (below (n + 1))
unfolding below
below-more front f n =
    append_assoc front (flat_map f (below n)) (f n)
    ∙ ap (λ xs. front ++ (flat_map f (below n) ++ xs)) (sym (append-nil (f n)))
    ∙ ap (λ xs. front ++ xs) (sym (flat_map-append f (below n) (n ∷ [])))
    ∙ ap (λ k. front ++ flat_map f (below k)) (suc-is n)
  where
    suc-is : (n : ℕ) → suc n ≡ n + 1
    suc-is n = omega arith
