-- What callers need of the rows that lookups name, and of checks that pass.
use Rattle.std.proofs.Common.{◌≡◌, ℕ, List, [], ◌∷◌, ◌++◌, zero, suc, inl, inr, refl, sym, subst, ap, ◌∙◌, true, false}
use Rattle.std.proofs.lemmas.Option.{none-some}
use Rattle.std.proofs.lemmas.Slice.Eq.{bytes_eq-Decides}
use Rattle.std.specs.Prelude.{◌⊎◌, Bool, not, Option, Some, None, Result, Ok, Err, find, flat_map, cond, option_map, slice_get, if◌then◌else◌}
use Rattle.std.specs.Str.{bytes_eq}
use Rattle.dv_value.specs.declared.raw.Raw.{Raw}
use Rattle.dv_value.specs.declared.id.Id.{Id}
use Rattle.dv_value.specs.declared.value.Value.TheVariants.{Ref}
use Rattle.dv_value.specs.Raws.{value_of}
use Rattle.dv_refusal.specs.declared.refusal.Refusal.{Refusal}
use Rattle.dv_refusal.specs.declared.refusal.Refusal.TheVariants as answer
use Rattle.dv_schema.specs.declared.definition.Definition.{Definition}
use Rattle.dv_schema.specs.declared.relationship.Relationship.{Relationship}
use Rattle.dv_schema.specs.declared.table.Column.{Column}
use Rattle.dv_schema.specs.declared.table.ColumnRole.{ColumnRole}
use Rattle.dv_schema.specs.declared.table.ColumnRole.TheVariants.{Lookup}
use Rattle.dv_schema.specs.Sound.{relationship_at}
use Rattle.dv_store.specs.Keys.{row_key}
use Rattle.dv_store.specs.World.{is_there}
use Rattle.dv_message.specs.declared.lookups.Naming.{Naming}
use Rattle.dv_message.specs.declared.stop.Stop.{Stop}
use Rattle.dv_message.specs.declared.stop.Stop.TheVariants.{Refused, OutOfMemory}
use Rattle.dv_message.specs.Checked.{AllPass, FirstOf, Answers, Both, refused_if}
use Rattle.dv_message.specs.Columns.{given_by}
use Rattle.dv_message.specs.Lookups.{naming_by, naming_in, naming_of, namings_of, namings, IsThere, NamedSays, AppendToSays, AppendSays}
use Rattle.dv_message.specs.Rows.{of_key}
use Rattle.dv_message.specs.Scenes.{Targeted}

-- an item is in a list
unfoldable pub IsIn : {A : Type 0} → A → List A → Type 0
IsIn x [] = ⊥
IsIn x (y ∷ ys) = (x ≡ y) ⊎ IsIn x ys

module _ {A : Type 0} where
  -- an item at a place of a list is in it
  pub in_at : (xs : List A) (k : ℕ) (x : A) → slice_get xs k ≡ Some x → IsIn x xs
  unfolding IsIn
  in_at [] k x h = absurd (none-some x h)
  in_at (y ∷ ys) zero x h = inl (same x y (sym h))
    where
      same : (a b : A) → Some a ≡ Some b → a ≡ b
      same a b e = cc
  in_at (y ∷ ys) (suc k) x h = inr (in_at ys k x h)

  -- an item of one of two lists is in both together
  in_left : (x : A) (xs ys : List A) → IsIn x xs → IsIn x (xs ++ ys)
  unfolding IsIn
  in_left x (z ∷ xs) ys (inl e) = inl e
  in_left x (z ∷ xs) ys (inr i) = inr (in_left x xs ys i)
  in_left x [] ys i = absurd i

  in_right : (x : A) (xs ys : List A) → IsIn x ys → IsIn x (xs ++ ys)
  unfolding IsIn
  in_right x [] ys i = i
  in_right x (z ∷ xs) ys i = inr (in_right x xs ys i)

-- what one item of a list gives is in what all give
in_each : {A B : Type 0} (f : A → List B) (xs : List A) (x : A) (y : B) → IsIn x xs → IsIn y (f x) → IsIn y (flat_map f xs)
unfolding IsIn
in_each f [] x y i j = absurd i
in_each f (z ∷ xs) x y (inl e) j = in_left y (f z) (flat_map f xs) (subst (λ a. IsIn y (f a)) e j)
in_each f (z ∷ xs) x y (inr i) j = in_right y (f z) (flat_map f xs) (in_each f xs x y i j)

-- of checks that all pass each passes
pub passes : {Check : Type 0} (Says : Check → Option Refusal → Type 0) (checks : List Check) → FirstOf Says checks None → (check : Check) → IsIn check checks → Says check None
unfolding IsIn AllPass
passes Says [] all check i = absurd i
passes Says (x ∷ checks) (ok, all) check (inl e) = subst (λ c. Says c None) (sym e) ok
passes Says (x ∷ checks) (ok, all) check (inr i) = passes Says checks all check i

-- what a search finds is in the list, and passes the test
found : {A : Type 0} (test : A → Bool) (xs : List A) (x : A) → find test xs ≡ Some x → IsIn x xs × (test x ≡ true)
unfolding IsIn
found test [] x h = absurd (none-some x h)
found {A} test (y ∷ ys) x h = of (test y) refl h (found test ys x)
  where
    same : (a b : A) → Some a ≡ Some b → b ≡ a
    same a b e = cc

    of : (b : Bool) → test y ≡ b → cond b (Some y) (find test ys) ≡ Some x → (find test ys ≡ Some x → IsIn x ys × (test x ≡ true)) → IsIn x (y ∷ ys) × (test x ≡ true)
    of true t h rest = (inl (same y x h), subst (λ z. test z ≡ true) (sym (same y x h)) t)
    of false t h rest = (inr (rest h).0, (rest h).1)

-- a value that is given under a name is in the list with an equal name
given_in_values : (values : List (List ℕ × Raw)) (name : List ℕ) (raw : Raw) → value_of name values ≡ Some raw
    → (given : List ℕ × Raw) × IsIn given values × (bytes_eq given.0 name ≡ true) × (given.1 ≡ raw)
given_in_values values name raw h = of (find (λ value. bytes_eq value.0 name) values) refl h
  where
    same : (a b : Raw) → Some a ≡ Some b → a ≡ b
    same a b e = cc

    of : (o : Option (List ℕ × Raw)) → find (λ value. bytes_eq value.0 name) values ≡ o → option_map (λ value. value.1) o ≡ Some raw
        → (given : List ℕ × Raw) × IsIn given values × (bytes_eq given.0 name ≡ true) × (given.1 ≡ raw)
    of None at h = absurd (none-some raw h)
    of (Some given) at h = let it = found (λ value. bytes_eq value.0 name) values given at in (given, it.0, it.1, same given.1 raw h)

-- names that are equal one way are equal the other way
turned : (a b : List ℕ) → bytes_eq a b ≡ true → bytes_eq b a ≡ true
turned a b h = (bytes_eq-Decides b a).1 (sym ((bytes_eq-Decides a b).0 h))

-- a row that the value names in a lookup is named by that value in the column
names_it : (d : Definition) (column : Column) (k : ℕ) (given : List ℕ × Raw) (id : Id) (r : Relationship) → column.role ≡ Lookup k
    → bytes_eq column.name given.0 ≡ true → given_by column.kind (Some given.1) ≡ Ref id → relationship_at d k ≡ Some r
    → IsIn (record { relationship = k; parent = row_key r.parent id }) (naming_of d given column)
unfolding IsIn naming_in
names_it d column k given id r role name ref at = rw name rw role rw at rw ref (inl refl)

-- a row that a lookup names which is given is among those that are named
pub given_is_named : (d : Definition) (columns : List Column) (values : List (List ℕ × Raw)) (j : ℕ) (column : Column) (k : ℕ) (raw : Raw) (id : Id) (r : Relationship)
    → slice_get columns j ≡ Some column → column.role ≡ Lookup k → value_of column.name values ≡ Some raw
    → given_by column.kind (Some raw) ≡ Ref id → relationship_at d k ≡ Some r
    → IsIn (record { relationship = k; parent = row_key r.parent id }) (namings d columns values)
given_is_named d columns values j column k raw id r place role given ref at = of (given_in_values values column.name raw given)
  where
    naming : Naming
    naming = record { relationship = k; parent = row_key r.parent id }

    of : ((given : List ℕ × Raw) × IsIn given values × (bytes_eq given.0 column.name ≡ true) × (given.1 ≡ raw)) → IsIn naming (namings d columns values)
    of (given, among, name, is) = in_each (namings_of d columns) values given naming among
        (in_each (naming_of d given) columns column naming (in_at columns j column place)
        (names_it d column k given id r role (turned given.0 column.name name) (subst (λ raw. given_by column.kind (Some raw) ≡ Ref id) (sym is) ref) at))

-- what two checks answer of which the second is made where the first passes
module _ (T : Type 0) (First Second : Option Refusal → Type 0) where
  pub both_passed : First None → (result : Result T Stop) → Answers Second result → Answers (Both First Second) result
  both_passed ok (Ok value) said = (ok, said)
  both_passed ok (Err (Refused refusal)) said = inr (ok, said)
  both_passed ok (Err OutOfMemory) t = tt

  pub both_ended : (stop : Stop) → Answers {T = T} First (Err stop) → Answers {T = T} (Both First Second) (Err stop)
  both_ended (Refused refusal) said = inl said
  both_ended OutOfMemory t = tt

-- where no fault is told of a row that is not there, it is there
no_fault : (there : Bool) (refusal : Refusal) → None ≡ refused_if (not there) refusal → there ≡ true
no_fault true refusal h = refl
no_fault false refusal h = absurd (none-some refusal h)

named_there : (t : Targeted) (naming : Naming) → IsThere t naming None → is_there t.world.rows naming.parent ≡ true
named_there t naming said = no_fault (is_there t.world.rows naming.parent) (answer.NotFound naming.parent.id (of_key t naming.parent).table.name) said

-- where the check of the rows that are named passes, each is there
pub named_is_there : (t : Targeted) (named : List Naming) → NamedSays t named None → (naming : Naming) → IsIn naming named → is_there t.world.rows naming.parent ≡ true
unfolding NamedSays
named_is_there t named said naming among = named_there t naming (passes (IsThere t) named said naming among)

-- where the checks of the lookups pass, each row that is named is there
pub appended_is_there : (MayAppend : Option Refusal → Type 0) (t : Targeted) (named : List Naming) → AppendSays MayAppend t named None → (naming : Naming) → IsIn naming named → is_there t.world.rows naming.parent ≡ true
unfolding AppendSays
appended_is_there MayAppend t named said naming among = named_there t naming (passes (λ naming. Both MayAppend (AppendToSays t naming)) named said naming among).1.0
